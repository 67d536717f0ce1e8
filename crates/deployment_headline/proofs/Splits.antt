-- The changes up to a version, and those after it.
use Rattle.std.proofs.Common.{arith, ◌≡◌, ℕ, zero, suc, ◌+◌, ◌≤◌, List, [], ◌∷◌, length, refl, ap, drop, take}
use Rattle.directory_rules.specs.Settings.{Settings}
use Rattle.directory_rules.specs.Membership.{Change, Membership}
use Rattle.silo_rules.proofs.Whole.{Are, made}
use Rattle.deployment_headline.proofs.Memberships.{Leads, one_higher}

pub leads_count : (settings : Settings) (m n : Membership) (cs : List Change) → Are settings m → Leads settings m cs n
    → n.views.version ≡ m.views.version + length cs
leads_count settings m n [] are leads = let e = ap (λ (k : Membership). k.views.version) leads in omega (e, arith)
leads_count settings m n (c ∷ cs) are leads =
    let one = one_higher settings m leads.0 are c leads.1 in
    let more = leads_count settings leads.0 n cs (made settings m leads.0 are c leads.1).are leads.2 in
    omega (one, more, arith)

-- what so many of the changes make, and what the others make of it
pub record IsSplit (settings : Settings) (m n : Membership) (cs : List Change) (k : ℕ) : Type 0 where
  pub at : Membership
  pub are : Are settings at
  pub version : at.views.version ≡ m.views.version + k
  pub first : Leads settings m (take k cs) at
  pub rest : Leads settings at (drop k cs) n

pub split : (settings : Settings) (m n : Membership) (cs : List Change) (k : ℕ) → Are settings m → k ≤ length cs → Leads settings m cs n
    → IsSplit settings m n cs k
split settings m n cs zero are upto leads = record { at = m; are = are; version = omega arith; first = refl; rest = leads }
split settings m n [] (suc k) are upto leads = absurd (omega (upto, arith))
split settings m n (c ∷ cs) (suc k) are upto leads =
    let next = made settings m leads.0 are c leads.1 in
    let one = one_higher settings m leads.0 are c leads.1 in
    let later = split settings leads.0 n cs k next.are (omega (upto, arith)) leads.2 in
    record {
      at = later.at;
      are = later.are;
      version = let e = later.version in omega (one, e, arith);
      first = (leads.0, leads.1, later.first);
      rest = later.rest;
    }
