-- Each accepted change is one membership step.
use Rattle.std.proofs.Common.{◌≡◌, ◌≢◌, ℕ, ◌+◌, Some, None, IsSome, refl, sym, ◌∙◌, ap, arith, subst, nat_le, if◌then◌else◌}
use Rattle.std.proofs.lemmas.Bool.{le-leb}
use Rattle.silo_address.specs.Silo.{Silo}
use Rattle.membership_view.specs.declared.row.Row.{Row}
use Rattle.membership_view.specs.declared.status.Status.{Status}
use Rattle.membership_view.specs.declared.status.Status.TheVariants.{Active, Leaving, Dead}
use Rattle.membership_view.specs.Row.{has_come, status_in, leaving, dying}
use Rattle.membership_view.specs.Views.{ViewsValue, view_at, status_at}
use Rattle.membership_view.specs.Changes.{Join, Leave, Die, changed, next_views, joined_rows}
use Rattle.membership_view.specs.Whole.{IsViews}
use Rattle.membership_view.specs.Step.{Joins, Leaves, Dies}
use Rattle.membership_view.specs.Laws.{ChangesAreSteps}
use Rattle.membership_view.proofs.Statuses.{dead_by}
use Rattle.membership_view.proofs.Kept.{join_is, leave_is, death_is, has_row, active_row, whole-after}
use Rattle.membership_view.proofs.NextViews.{others, itself, said_now, said_next, said_alike, outlived_still}
use Rattle.membership_view.proofs.JoinSteps.{join_step}

leaving_says : (version : ℕ) (row : Row) → row.dead ≡ None → status_in version (leaving version row) ≡ Some Leaving
leaving_says version row none =
    ap (λ c. if has_come c version then Some Dead else
    (if nat_le version version then Some Leaving else (if nat_le row.joined version then Some Active else None))) none
    ∙ ap (λ b. if b then Some Leaving else (if nat_le row.joined version then Some Active else None)) (le-leb version version (omega arith))

pub leave_step : (views : ViewsValue) → IsViews views → (silo : Silo) → status_at views views.version silo ≡ Some Active
    → IsViews (next_views views (changed (leaving (views.version + 1)) silo views.rows))
    → Leaves silo (view_at views views.version) (view_at (next_views views (changed (leaving (views.version + 1)) silo views.rows))
    (views.version + 1))
leave_step views whole silo active kept =
    let has = has_row views whole silo Active active in
    let none = active_row views.version has.row (whole.in_time silo has.row has.found) has.says in
    let after = changed (leaving (views.version + 1)) silo views.rows in
    let left = itself views (leaving (views.version + 1)) silo has.row has.found kept ∙ leaving_says (views.version + 1) has.row none.0 in
    record {
      rises = refl;
      was = said_now views whole silo Active active;
      left = said_next views after kept silo Leaving left;
      others = λ q ne. said_alike views after whole kept q
          (others views whole (leaving (views.version + 1)) silo has.row has.found kept q ne)
          (outlived_still views (leaving (views.version + 1)) silo has.row whole has.found kept Leaving left q);
    }

pub death_step : (views : ViewsValue) → IsViews views → (silo : Silo) (was : Status) → status_at views views.version silo ≡ Some was
    → Some was ≢ Some Dead
    → IsViews (next_views views (changed (dying (views.version + 1)) silo views.rows))
    → Dies silo (view_at views views.version) (view_at (next_views views (changed (dying (views.version + 1)) silo views.rows))
    (views.version + 1))
death_step views whole silo was there not_dead kept =
    let has = has_row views whole silo was there in
    let after = changed (dying (views.version + 1)) silo views.rows in
    let dead =
    itself views (dying (views.version + 1)) silo has.row has.found kept
    ∙ dead_by (views.version + 1) (views.version + 1) (dying (views.version + 1) has.row) refl (omega arith) in
    record {
      rises = refl;
      was = subst (λ o. IsSome o) (sym (said_now views whole silo was there)) refl;
      was_not = λ e. not_dead (sym (said_now views whole silo was there) ∙ e);
      dead = said_next views after kept silo Dead dead;
      others = λ q ne. said_alike views after whole kept q
          (others views whole (dying (views.version + 1)) silo has.row has.found kept q ne)
          (outlived_still views (dying (views.version + 1)) silo has.row whole has.found kept Dead dead q);
    }

pub changes_are_steps : ChangesAreSteps
changes_are_steps views (Join silo) next accepts =
    let whole = accepts.whole in
    let is = join_is views silo next accepts.is in
    let kept : IsViews (next_views views (joined_rows silo (views.version + 1) views.rows)) = subst (λ v. IsViews v) is.is (whole-after views whole (Join silo) next accepts.is) in
    subst (λ v. Joins silo (view_at views views.version) (view_at v v.version)) (sym is.is) (join_step views whole silo is.newest kept)
changes_are_steps views (Leave silo) next accepts =
    let whole = accepts.whole in
    let is = leave_is views silo next (status_at views views.version silo) accepts.is in
    let kept : IsViews (next_views views (changed (leaving (views.version + 1)) silo views.rows)) = subst (λ v. IsViews v) is.is (whole-after views whole (Leave silo) next accepts.is) in
    subst (λ v. Leaves silo (view_at views views.version) (view_at v v.version)) (sym is.is) (leave_step views whole silo is.active kept)
changes_are_steps views (Die silo) next accepts =
    let whole = accepts.whole in
    let is = death_is views silo next (status_at views views.version silo) accepts.is in
    let kept : IsViews (next_views views (changed (dying (views.version + 1)) silo views.rows)) = subst (λ v. IsViews v) is.is (whole-after views whole (Die silo) next accepts.is) in
    subst (λ v. Dies silo (view_at views views.version) (view_at v v.version)) (sym is.is)
    (death_step views whole silo is.was is.there is.not_dead kept)
