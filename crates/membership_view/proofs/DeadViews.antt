-- Who is Dead in a view stays so in all later ones, be it listed or left out.
use Rattle.std.proofs.Common.{◌≡◌, ℕ, ◌≤◌, Bool, true, false, IsSome, Option, Some, None, refl, sym, ◌∙◌, ap, arith, subst, option_and_then}
use Rattle.std.proofs.lemmas.Option.{same_Some}
use Rattle.silo_address.specs.Silo.{Silo}
use Rattle.membership_view.specs.declared.row.Row.{Row}
use Rattle.membership_view.specs.declared.status.Status.{Status}
use Rattle.membership_view.specs.declared.status.Status.TheVariants.{Dead}
use Rattle.membership_view.specs.Row.{has_come, status_in}
use Rattle.membership_view.specs.View.{or_outlived, status_of}
use Rattle.membership_view.specs.Views.{ViewsValue, view_at, status_at}
use Rattle.membership_view.specs.Whole.{IsViews}
use Rattle.membership_view.proofs.After.{row_status}
use Rattle.membership_view.proofs.Known.{status_at-made}
use Rattle.membership_view.proofs.Listed.{newer_parts}
use Rattle.membership_view.proofs.Order.{Decides-shares}
use Rattle.membership_view.proofs.Said.{IsOutlived, outlived_in, outlived_if, outlived_only, said}
use Rattle.membership_view.proofs.SameEndpoint.{found_row}
use Rattle.membership_view.proofs.Statuses.{dead_by_come, has_come_later, joined_since}
use Rattle.membership_view.proofs.Unchanged.{dead_stays_dead, rows_stay}

some_status : (o : Option Status) → IsSome o → (status : Status) × (o ≡ Some status)
some_status None there = absurd (cc (there))
some_status (Some status) there = (status, refl)

some_row : (version : ℕ) (o : Option Row) (status : Status) → option_and_then (status_in version) o ≡ Some status
    → (row : Row) × (o ≡ Some row) × (status_in version row ≡ Some status)
some_row version None status is = absurd (cc (is))
some_row version (Some row) status is = (row, refl, is)

module _ (views : ViewsValue) (whole : IsViews views) (silo : Silo) (earlier later : ℕ) (upto : earlier ≤ later) (made : later ≤ views.version) where
  abbrev at : ℕ → Silo → Option Status
  at version q = row_status version views.rows q

  -- a silo with a row that a newer one outlived is Dead by its row, since it joined before that
  outlived_dead : IsOutlived earlier views.rows silo → (status : Status) → at later silo ≡ Some status → status ≡ Dead
  outlived_dead it status is =
      let row = some_row later (found_row views.rows silo) status is in
      let newer = some_row earlier (found_row views.rows it.newer) it.status it.there in
      let two = newer_parts it.newer silo it.is in
      let same = (Decides-shares silo it.newer).0 two.0 in
      let come : has_come row.0.dead newer.0.joined ≡ true =
      whole.older_dead silo it.newer row.0 newer.0 row.1 newer.1 (sym same.0, sym same.1) two.1 in
      let joined : newer.0.joined ≤ earlier =
      joined_since views.version earlier newer.0 (whole.in_time it.newer newer.0 newer.1)
      (subst (λ o. IsSome o) (sym newer.2) refl) in
      let dead : status_in later row.0 ≡ Some Dead =
      dead_by_come later row.0 (has_come_later row.0.dead newer.0.joined later (omega (joined, upto, arith)) come) in
      same_Some status Dead (sym row.2 ∙ dead)

  stays_outlived : outlived_in earlier views.rows silo ≡ true → outlived_in later views.rows silo ≡ true
  stays_outlived is =
      let it = outlived_only earlier views.rows whole.in_order silo is in
      let was : IsSome (status_at views earlier it.newer) =
      subst (λ o. IsSome o) (sym (status_at-made views whole.in_order earlier it.newer (omega (upto, made, arith)) ∙ it.there)) refl in
      let still = some_status (status_at views later it.newer) (rows_stay views whole it.newer earlier later upto made was) in
      outlived_if later views.rows whole.in_order silo it.newer still.0
      (sym (status_at-made views whole.in_order later it.newer made) ∙ still.1) it.is

  pub view_dead_stays : status_of (view_at views earlier) silo ≡ Some Dead → status_of (view_at views later) silo ≡ Some Dead
  view_dead_stays dead =
      said views whole.in_order later silo made
      ∙ by (at earlier silo) refl (outlived_in earlier views.rows silo) refl
      (sym (said views whole.in_order earlier silo (omega (upto, made, arith))) ∙ dead)
    where
      now : (o : Option Status) → at later silo ≡ o → outlived_in earlier views.rows silo ≡ true
          → or_outlived o (outlived_in later views.rows silo) ≡ Some Dead
      now None is outlived = ap (λ b. or_outlived None b) (stays_outlived outlived)
      now (Some status) is outlived =
          ap (λ s. Some s) (outlived_dead (outlived_only earlier views.rows whole.in_order silo outlived) status is)

      by : (o : Option Status) → at earlier silo ≡ o → (b : Bool) → outlived_in earlier views.rows silo ≡ b → or_outlived o b ≡ Some Dead
          → or_outlived (at later silo) (outlived_in later views.rows silo) ≡ Some Dead
      by None is false outlived h = absurd (cc (h))
      by None is true outlived h =
          ap (λ o. or_outlived o (outlived_in later views.rows silo)) refl ∙ now (at later silo) refl outlived
      by (Some status) is b outlived h =
          let was : status_at views earlier silo ≡ Some Dead =
          status_at-made views whole.in_order earlier silo (omega (upto, made, arith)) ∙ is ∙ h in
          let still = dead_stays_dead views whole silo earlier later upto made was in
          ap (λ o. or_outlived o (outlived_in later views.rows silo))
          (sym (status_at-made views whole.in_order later silo made) ∙ still)
