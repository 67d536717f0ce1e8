-- Each membership step from the current view is an accepted change, and makes the same statuses.
use Rattle.std.proofs.Common.{◌≡◌, ◌≢◌, ◌⊎◌, inl, inr, ℕ, ◌+◌, ◌<◌, ◌≤◌, Bool, true, false, not, nat_lt, length, Option, Some, None, IsSome, Result, Ok, Err, refl, sym, ◌∙◌, ap, arith, subst, option_and_then, if◌then◌else◌}
use Rattle.std.proofs.lemmas.Bool.{cases_lt}
use Rattle.std.proofs.lemmas.Cmp.{tied_itself}
use Rattle.std.specs.BTreeMap.{is_at}
use Rattle.std.specs.Ordering.{is_eq}
use Rattle.texts.proofs.Orderings.{Equal-from}
use Rattle.silo_address.specs.Silo.{Silo, silo_cmp, IsSameEndpoint}
use Rattle.membership_view.specs.declared.row.Row.{Row}
use Rattle.membership_view.specs.declared.status.Status.{Status}
use Rattle.membership_view.specs.declared.status.Status.TheVariants.{Active, Leaving, Dead}
use Rattle.membership_view.specs.Row.{status_in, leaving, dying}
use Rattle.membership_view.specs.View.{ViewValue, or_outlived, status_of, shares_endpoint}
use Rattle.membership_view.specs.Views.{ViewsValue, row_of, view_at, status_at}
use Rattle.membership_view.specs.Changes.{Change, Join, Leave, Die, after, is_newest, changed, next_views, leave_from, die_from, joined_rows}
use Rattle.membership_view.specs.Whole.{IsViews}
use Rattle.membership_view.specs.Step.{Joins, Leaves, Dies}
use Rattle.membership_view.specs.Laws.{StepsAreChanges}
use Rattle.membership_view.proofs.Order.{Decides-shares}
use Rattle.membership_view.proofs.Statuses.{there_from}
use Rattle.membership_view.proofs.Known.{status_at-made}
use Rattle.membership_view.proofs.After.{row_status}
use Rattle.membership_view.proofs.Said.{outlived_in, said, said_alive, said_there}
use Rattle.membership_view.proofs.SameEndpoint.{newest_from}
use Rattle.membership_view.proofs.Changes.{changes_are_steps}
use Rattle.silo_address.proofs.Order.{silo_cmp_exact, silo_cmp_total}

-- a silo is another one, or it isn't
same_or_not : (a b : Silo) → (a ≡ b) ⊎ (b ≢ a)
same_or_not a b = by (is_at (silo_cmp a) b) refl
  where
    by : (r : Bool) → is_at (silo_cmp a) b ≡ r → (a ≡ b) ⊎ (b ≢ a)
    by true h = inl (silo_cmp_exact a b (Equal-from (silo_cmp a b) h))
    by false h = inr (λ e. differ e)
      where
        differ : b ≡ a → ⊥
        differ e = let yes : is_at (silo_cmp a) b ≡ true = ap (λ k. is_at (silo_cmp a) k) e ∙ ap is_eq (tied_itself silo_cmp_total a) in cc

-- one view and one change leave no choice of the next view's statuses
joins_alike : (silo : Silo) (view next other : ViewValue) → Joins silo view next → Joins silo view other → (q : Silo)
    → status_of next q ≡ status_of other q
joins_alike silo view next other a b q = elim (same_or_not silo q) [
  | inl e ↦ ap (λ k. status_of next k) (sym e) ∙ a.joined ∙ sym b.joined ∙ ap (λ k. status_of other k) e
  | inr ne ↦ by ne (shares_endpoint silo q) refl (cases_lt q.generation silo.generation)
]
  where
    other_one : q ≢ silo → ¬ (IsSameEndpoint silo q × (q.generation < silo.generation)) → status_of next q ≡ status_of other q
    other_one ne apart = a.others q ne apart ∙ sym (b.others q ne apart)

    by : q ≢ silo → (r : Bool) → shares_endpoint silo q ≡ r → (q.generation < silo.generation) ⊎ (silo.generation ≤ q.generation)
        → status_of next q ≡ status_of other q
    by ne true h (inl below) = let same = (Decides-shares silo q).0 h in a.older q same below ∙ sym (b.older q same below)
    by ne true h (inr above) = other_one ne (λ both. let below = both.1 in omega (below, above, arith))
    by ne false h order =
        other_one ne (λ both. let yes : shares_endpoint silo q ≡ true = (Decides-shares silo q).1 both.0 in absurd (cc (yes, h)))

leaves_alike : (silo : Silo) (view next other : ViewValue) → Leaves silo view next → Leaves silo view other → (q : Silo)
    → status_of next q ≡ status_of other q
leaves_alike silo view next other a b q = elim (same_or_not silo q) [
  | inl e ↦ ap (λ k. status_of next k) (sym e) ∙ a.left ∙ sym b.left ∙ ap (λ k. status_of other k) e
  | inr ne ↦ a.others q ne ∙ sym (b.others q ne)
]

dies_alike : (silo : Silo) (view next other : ViewValue) → Dies silo view next → Dies silo view other → (q : Silo)
    → status_of next q ≡ status_of other q
dies_alike silo view next other a b q = elim (same_or_not silo q) [
  | inl e ↦ ap (λ k. status_of next k) (sym e) ∙ a.dead ∙ sym b.dead ∙ ap (λ k. status_of other k) e
  | inr ne ↦ a.others q ne ∙ sym (b.others q ne)
]

-- a change that is accepted, with the statuses that it makes
abbrev IsTaken : ViewsValue → Change → ViewValue → Type 0
IsTaken views change view =
    (next : ViewsValue) × (after views change ≡ Ok next) × ((silo : Silo) → status_of (view_at next next.version) silo ≡ status_of view silo)

joins_newest : (views : ViewsValue) → IsViews views → (silo : Silo) (view : ViewValue) → Joins silo (view_at views views.version) view
    → is_newest silo views.rows ≡ true
joins_newest views whole silo view step =
    newest_from silo views.rows whole.in_order (λ q row found shares. step.newest q ((Decides-shares silo q).0 shares) (there q row found))
  where
    there : (q : Silo) (row : Row) → row_of views q ≡ Some row → IsSome (status_of (view_at views views.version) q)
    there q row found =
        let says : row_status views.version views.rows q ≡ status_in views.version row = ap (λ o. option_and_then (status_in views.version) o) found in
        let is : IsSome (row_status views.version views.rows q) = subst (λ o. IsSome o) (sym says) (there_from views.version row (whole.in_time q row found).joined_by) in
        subst (λ o. IsSome o) (sym (said_there views whole.in_order views.version q (omega arith) is)) is

-- a join of the newest, by whether there is room
abbrev by_room : ViewsValue → Silo → Bool → Bool → Result ViewsValue ℕ
by_room views silo newest room =
    if not newest then Err 201 else (if not room then Err 205 else Ok (next_views views (joined_rows silo (views.version + 1) views.rows)))

abbrev Lives : Option Status → Type 0
Lives o = IsSome o × (o ≢ Some Dead)

pub steps_are_changes : StepsAreChanges
steps_are_changes views whole (Join silo) view step = by (nat_lt (length views.rows) views.limit) refl
  where
    newest : is_newest silo views.rows ≡ true
    newest = joins_newest views whole silo view step

    by : (room : Bool) → nat_lt (length views.rows) views.limit ≡ room → (after views (Join silo) ≡ Err 205)
        ⊎ IsTaken views (Join silo) view
    by false room =
        inl (ap (λ n. by_room views silo n (nat_lt (length views.rows) views.limit)) newest ∙ ap (λ r. by_room views silo true r) room)
    by true room =
        let next : ViewsValue = next_views views (joined_rows silo (views.version + 1) views.rows) in
        let is : after views (Join silo) ≡ Ok next =
        ap (λ n. by_room views silo n (nat_lt (length views.rows) views.limit)) newest ∙ ap (λ r. by_room views silo true r) room in
        inr (
          next,
          is,
          joins_alike silo (view_at views views.version) (view_at next next.version) view
              (changes_are_steps views (Join silo) next (record { whole = whole; is = is })) step,
        )
steps_are_changes views whole (Leave silo) view step =
    let next : ViewsValue = next_views views (changed (leaving (views.version + 1)) silo views.rows) in
    let active =
    status_at-made views whole.in_order views.version silo (omega arith)
    ∙ said_alive views whole.in_order views.version silo (omega arith) Active (λ e. cc (e)) step.was in
    let is : after views (Leave silo) ≡ Ok next = ap (λ o. leave_from o views silo) active in
    inr (
      next,
      is,
      leaves_alike silo (view_at views views.version) (view_at next next.version) view
          (changes_are_steps views (Leave silo) next (record { whole = whole; is = is })) step,
    )
steps_are_changes views whole (Die silo) view step =
    let next : ViewsValue = next_views views (changed (dying (views.version + 1)) silo views.rows) in
    let is : after views (Die silo) ≡ Ok next = by (status_at views views.version silo) (its (row_status views.version views.rows silo)
    (outlived_in views.version views.rows silo) (said views whole.in_order views.version silo (omega arith))
    (status_at-made views whole.in_order views.version silo (omega arith))) in
    inr (
      next,
      is,
      dies_alike silo (view_at views views.version) (view_at next next.version) view
          (changes_are_steps views (Die silo) next (record { whole = whole; is = is })) step,
    )
  where
    -- what the view says is what the row says, since it isn't Dead
    its : (o : Option Status) (b : Bool) → status_of (view_at views views.version) silo ≡ or_outlived o b
        → status_at views views.version silo ≡ o → Lives (status_at views views.version silo)
    its None false says at = absurd (never (status_of (view_at views views.version) silo) says step.was)
      where
        never : (o : Option Status) → o ≡ None → IsSome o → ⊥
        never None is there = cc (there)
        never (Some status) is there = cc (is)
    its None true says at = absurd (step.was_not says)
    its (Some status) b says at = (subst (λ o. IsSome o) (sym at) refl, λ dead. step.was_not (says ∙ sym at ∙ dead))

    by : (o : Option Status) → Lives o → die_from o views silo ≡ Ok (next_views views (changed (dying (views.version + 1)) silo views.rows))
    by None live = absurd (cc (live.0))
    by (Some Active) live = refl
    by (Some Leaving) live = refl
    by (Some Dead) live = absurd (live.1 refl)
