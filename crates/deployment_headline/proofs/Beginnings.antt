-- A process that begins with a view is told as one that was told all changes up to it.
use Rattle.std.proofs.Common.{arith, ◌≡◌, inl, inr, ℕ, ◌+◌, ◌≤◌, ◌<◌, List, sym, ap, ◌∙◌, subst, drop}
use Rattle.std.specs.Prelude.{Some, None, Ok}
use Rattle.silo_address.specs.Silo.{Silo}
use Rattle.membership_view.specs.declared.row.Row.{Row}
use Rattle.membership_view.specs.Changes as change
use Rattle.membership_view.specs.Row.{leaving, dying}
use Rattle.membership_view.specs.Views.{ViewsValue, most_known, row_of, status_at}
use Rattle.membership_view.proofs.Joins.{found_after, new_row}
use Rattle.membership_view.proofs.ChangedRow.{found_changed}
use Rattle.membership_view.proofs.Kept.{join_is, leave_is, death_is}
use Rattle.directory_rules.specs.Settings.{Settings}
use Rattle.directory_rules.specs.Membership.{Change, Membership, changed, first_membership, listed_all, listing_of, membership_from}
use Rattle.silo_rules.specs.Begun.{told_view}
use Rattle.silo_rules.proofs.Begun.{all_whole, told_view_is}
use Rattle.silo_rules.proofs.Whole.{Are, made, from_whole}
use Rattle.deployment_headline.proofs.Memberships.{Leads, leads_to}
use Rattle.deployment_headline.proofs.MirrorBegins.{begins_mirrors}
use Rattle.deployment_headline.proofs.PlacesStay.{leads_stay, leads_hashed, first_hashed}
use Rattle.deployment_headline.proofs.Splits.{leads_count, split}
use Rattle.deployment_headline.proofs.StepEvents.{IsTold}

-- ---- the silo's own join comes after the first version
kept_first : (settings : Settings) (own next : Membership) (are : Are settings own) (c : Change) → changed settings own c ≡ Ok next
    → next.views.first ≡ own.views.first
kept_first settings own next are c is = let its = made settings own next are c is in by its.way its.viewed
  where
    by : (way : change.Change) → change.after own.views way ≡ Ok next.views → next.views.first ≡ own.views.first
    by (change.Join silo) viewed = ap (λ v. v.first) (join_is own.views silo next.views viewed).is
    by (change.Leave silo) viewed = ap (λ v. v.first) (leave_is own.views silo next.views (status_at own.views own.views.version silo) viewed).is
    by (change.Die silo) viewed = ap (λ v. v.first) (death_is own.views silo next.views (status_at own.views own.views.version silo) viewed).is

pub later_still : (settings : Settings) (own next : Membership) (c : Change) (are : Are settings own) → changed settings own c ≡ Ok next
    → (silo : Silo) (row : Row) → row_of next.views silo ≡ Some row
    → ((old : Row) → row_of own.views silo ≡ Some old → own.views.first < old.joined) → next.views.first < row.joined
later_still settings own next c are is silo row found later =
    let its = made settings own next are c is in
    let same = kept_first settings own next are c is in
    let after = by its.way its.viewed in
    omega (same, after, arith)
  where
    was : (old : Row) → row_of own.views silo ≡ Some old → row.joined ≡ old.joined → own.views.first < row.joined
    was old there joined = let low = later old there in omega (joined, low, arith)

    at_views : (rows : ViewsValue) → next.views ≡ rows → row_of rows silo ≡ Some row
    at_views rows same = ap (λ v. row_of v silo) (sym same) ∙ found

    by : (way : change.Change) → change.after own.views way ≡ Ok next.views → own.views.first < row.joined
    by (change.Join other) viewed =
        let join = join_is own.views other next.views viewed in
        elim (found_after other (own.views.version + 1) own.views.rows are.whole.in_order join.newest silo row (at_views _ join.is)) [
          | inl new ↦ let here = ap (λ (r : Row). r.joined) new.1 in let upto = are.whole.first_upto in omega (here, upto, arith)
          | inr older ↦ was older.row older.found (elim older.is [
            | inl dies ↦ ap (λ (r : Row). r.joined) dies.2
            | inr stays ↦ ap (λ (r : Row). r.joined) stays.1
          ])
        ]
    by (change.Leave other) viewed =
        let left = leave_is own.views other next.views (status_at own.views own.views.version other) viewed in
        let it = found_changed (leaving (own.views.version + 1)) other own.views.rows silo row (at_views _ left.is) in
        was it.row it.found (elim it.is [
          | inl its ↦ ap (λ (r : Row). r.joined) its.1
          | inr other_one ↦ ap (λ (r : Row). r.joined) other_one.1
        ])
    by (change.Die other) viewed =
        let died = death_is own.views other next.views (status_at own.views own.views.version other) viewed in
        let it = found_changed (dying (own.views.version + 1)) other own.views.rows silo row (at_views _ died.is) in
        was it.row it.found (elim it.is [
          | inl its ↦ ap (λ (r : Row). r.joined) its.1
          | inr other_one ↦ ap (λ (r : Row). r.joined) other_one.1
        ])

-- ---- so a process that takes the view of a version was told as one that took all changes up to it
pub begun_told : (settings : Settings) (changes : List Change) (now : Membership) → Are settings (first_membership settings)
    → Leads settings (first_membership settings) changes now → (own : Membership) → Are settings own → (silo : Silo) (version : ℕ)
    → version ≤ now.views.version → (m : Membership) → told_view settings own silo version (listing_of now version) ≡ Ok m
    → IsTold settings changes now m silo
begun_told settings changes now first start own own_are silo version upto m is =
    let told = told_view_is settings own silo version (listing_of now version) m is in
    let count = leads_count settings (first_membership settings) now changes first start in
    let cut = split settings (first_membership settings) now changes version first (omega (count, upto, arith)) start in
    let count_at = cut.version in
    let at_version : cut.at.views.version ≡ version = omega (count_at, arith) in
    let to = leads_to settings cut.at now (drop version changes) cut.are cut.rest in
    let low = to.0.version in
    let mirrors = begins_mirrors settings cut.at now m cut.are to.1 (leads_hashed settings (first_membership settings) now changes start (first_hashed settings))
    (leads_stay settings cut.at now (drop version changes) cut.rest) (to.0.views cut.at.views.version (omega arith) (omega arith))
    (subst (λ n. listed_all settings (Ok (membership_from settings n)) (listing_of now n) ≡ Ok m) (sym at_version) told.begun_so.all) in
    let limit = own_are.limit in
    let above = own_are.whole.limit_above in
    let below = own_are.whole.limit_below in
    let from = from_whole settings version (subst (λ n. 0 < n) limit above) (subst (λ n. n < most_known) limit below) told.begun_so.early in
    let same : m.views.version ≡ version = mirrors.version ∙ at_version in
    record {
      are = all_whole settings (membership_from settings version) m (listing_of now version) from told.begun_so.all;
      at = cut.at;
      all = cut.are;
      mirrors = mirrors;
      within = omega (same, count, upto, arith);
      leads = subst (λ n. Leads settings cut.at (drop n changes) now) (sym same) cut.rest;
      later = λ row found. absurd (let never : None ≡ Some row = sym (new_row silo m.views.rows told.later) ∙ found in cc (never));
    }
