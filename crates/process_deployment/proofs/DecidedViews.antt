-- The view of a version is the same by the changes up to it, and by all that were decided.
use Rattle.std.proofs.Common.{arith, ◌≡◌, ℕ, ◌+◌, ◌≤◌, List, [], ◌∷◌, length, sym, ap, ◌∙◌, subst, drop, take}
use Rattle.std.specs.Prelude.{fold}
use Rattle.std.specs.Result.{result_unwrap_or}
use Rattle.directory_rules.specs.Settings.{Settings}
use Rattle.directory_rules.specs.Membership.{Change, Membership, changed, first_membership, listing_of}
use Rattle.silo_rules.proofs.Whole.{Are}
use Rattle.deployment_headline.proofs.Listings.{listing_stays}
use Rattle.deployment_headline.proofs.Memberships.{Leads}
use Rattle.deployment_headline.proofs.Splits.{leads_count, split}
use Rattle.process_deployment.specs.Allowed.{decided_by}

-- what changes lead to is what they make
leads_make : (settings : Settings) (m n : Membership) (cs : List Change) → Leads settings m cs n
    → fold (λ m change. result_unwrap_or (changed settings m change) m) m cs ≡ n
leads_make settings m n [] leads = leads
leads_make settings m n (c ∷ cs) leads =
    ap (λ r. fold (λ m change. result_unwrap_or (changed settings m change) m) (result_unwrap_or r m) cs) leads.1
    ∙ leads_make settings leads.0 n cs leads.2

pub view_decided : (settings : Settings) (changes : List Change) (now : Membership) → Are settings (first_membership settings)
    → Leads settings (first_membership settings) changes now → (version : ℕ) → version ≤ length changes
    → (version ≤ now.views.version) × (listing_of (decided_by settings (take version changes)) version ≡ listing_of now version)
view_decided settings changes now first start version upto =
    let count : now.views.version ≡ 0 + length changes = leads_count settings (first_membership settings) now changes first start in
    let cut = split settings (first_membership settings) now changes version first upto start in
    let at : cut.at.views.version ≡ 0 + version = cut.version in
    let same : cut.at.views.version ≡ version = omega (at, arith) in (
      omega (count, upto, arith),
      ap (λ m. listing_of m version) (leads_make settings (first_membership settings) cut.at (take version changes) cut.first)
          ∙ sym (subst (λ n. listing_of now n ≡ listing_of cut.at n) same
          (listing_stays settings cut.at now (drop version changes) cut.are cut.rest)),
    )
