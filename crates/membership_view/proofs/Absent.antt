-- Who isn't known stays so until it joins itself.
use Rattle.std.proofs.Common.{◌≡◌, ◌≢◌, inl, inr, ◌+◌, IsSome, Option, Some, None, Ok, true, refl, sym, ◌∙◌, ap, arith, subst, option_and_then}
use Rattle.std.specs.Option.{option_map}
use Rattle.std.specs.Prelude.{⊤}
use Rattle.texts.proofs.Decided.{decided}
use Rattle.silo_address.specs.Silo.{Silo}
use Rattle.membership_view.specs.declared.row.Row.{Row}
use Rattle.membership_view.specs.declared.status.Status.{Status}
use Rattle.membership_view.specs.declared.status.Status.TheVariants.{Active, Dead}
use Rattle.membership_view.specs.Row.{status_in, leaving, dying}
use Rattle.membership_view.specs.View.{shares_endpoint}
use Rattle.membership_view.specs.Views.{ViewsValue, status_at}
use Rattle.membership_view.specs.Changes.{Change, Join, Leave, Die, after, changed, is_newest, joined_rows, next_views}
use Rattle.membership_view.specs.Whole.{IsViews}
use Rattle.membership_view.proofs.JoinSteps.{foreign_says, older_says}
use Rattle.membership_view.proofs.NextViews.{next_is, now_is, others}
use Rattle.membership_view.proofs.Kept.{death_is, has_row, join_is, leave_is, whole-after}
use Rattle.membership_view.proofs.Order.{Decides-shares, shares_itself}
use Rattle.membership_view.proofs.SameEndpoint.{found_row, lower_generation}

-- the change isn't this silo's join
abbrev pub IsNoJoinOf : Silo → Change → Type 0
IsNoJoinOf own (Join silo) = silo ≢ own
IsNoJoinOf own (Leave silo) = ⊤
IsNoJoinOf own (Die silo) = ⊤

module _ (views next : ViewsValue) (whole : IsViews views) (own : Silo) (absent : status_at views views.version own ≡ None) where
  other_than : (silo : Silo) → IsSome (status_at views views.version silo) → own ≢ silo
  other_than silo there same =
      let gone : IsSome {T = Status} None = subst (λ (o : Option Status). IsSome o) (ap (λ s. status_at views views.version s) (sym same) ∙ absent) there in
      cc (gone)

  pub absent_stays : (way : Change) → IsNoJoinOf own way → after views way ≡ Ok next → status_at next next.version own ≡ None
  absent_stays (Join silo) other is =
      let join = join_is views silo next is in
      let rows = joined_rows silo (views.version + 1) views.rows in
      let kept : IsViews (next_views views rows) = subst (λ v. IsViews v) join.is (whole-after views whole (Join silo) next is) in
      ap (λ v. status_at v v.version own) join.is ∙ next_is views rows kept own
      ∙ elim (decided (shares_endpoint silo own) (Decides-shares silo own)) [
        | inl same ↦ older_says views whole silo join.newest own same (λ one. other (sym one))
            ∙ ap (λ o. option_map (λ _. Dead) o) (sym (now_is views whole own) ∙ absent)
        | inr apart ↦ foreign_says views whole silo join.newest own apart ∙ sym (now_is views whole own) ∙ absent
      ]
  absent_stays (Leave silo) other is =
      let leave = leave_is views silo next (status_at views views.version silo) is in
      let rows = changed (leaving (views.version + 1)) silo views.rows in
      let kept : IsViews (next_views views rows) = subst (λ v. IsViews v) leave.is (whole-after views whole (Leave silo) next is) in
      let has = has_row views whole silo Active leave.active in
      ap (λ v. status_at v v.version own) leave.is
      ∙ others views whole (leaving (views.version + 1)) silo has.row has.found kept own
      (other_than silo (subst (λ (o : Option Status). IsSome o) (sym leave.active) refl)) ∙ absent
  absent_stays (Die silo) other is =
      let death = death_is views silo next (status_at views views.version silo) is in
      let rows = changed (dying (views.version + 1)) silo views.rows in
      let kept : IsViews (next_views views rows) = subst (λ v. IsViews v) death.is (whole-after views whole (Die silo) next is) in
      let has = has_row views whole silo death.was death.there in
      ap (λ v. status_at v v.version own) death.is
      ∙ others views whole (dying (views.version + 1)) silo has.row has.found kept own
      (other_than silo (subst (λ (o : Option Status). IsSome o) (sym death.there) refl)) ∙ absent

-- who may join isn't known
pub newest_absent : (views : ViewsValue) → IsViews views → (own : Silo) → is_newest own views.rows ≡ true
    → status_at views views.version own ≡ None
newest_absent views whole own newest = by (found_row views.rows own) refl
  where
    by : (o : Option Row) → found_row views.rows own ≡ o → status_at views views.version own ≡ None
    by None found = now_is views whole own ∙ ap (λ o. option_and_then (status_in views.version) o) found
    by (Some row) found =
        let lower = lower_generation own views.rows newest own row found (shares_itself own) in
        absurd (omega (lower, arith))
