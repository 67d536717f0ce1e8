-- A join that is accepted is a membership step.
use Rattle.std.proofs.Common.{◌≡◌, ◌≢◌, ◌⊎◌, inl, inr, ℕ, ◌+◌, ◌<◌, ◌≤◌, Bool, true, false, cond, List, Option, Some, None, IsSome, refl, sym, ◌∙◌, ap, arith, subst, option_and_then, if◌then◌else◌}
use Rattle.std.proofs.lemmas.Bool.{le-leb}
use Rattle.std.specs.BTreeMap.{is_at}
use Rattle.std.specs.List.Sorted.{IsStrictlySortedBy}
use Rattle.std.specs.Map.{keys_of}
use Rattle.std.specs.Option.{option_map}
use Rattle.silo_address.specs.Silo.{Silo, silo_cmp, IsSameEndpoint}
use Rattle.membership_view.specs.declared.row.Row.{Row}
use Rattle.membership_view.specs.declared.status.Status.{Status}
use Rattle.membership_view.specs.declared.status.Status.TheVariants.{Active, Dead}
use Rattle.membership_view.specs.Row.{status_in, joining, dying}
use Rattle.membership_view.specs.View.{shares_endpoint, is_newer, or_outlived, status_of}
use Rattle.membership_view.specs.Views.{ViewsValue, row_of, view_at}
use Rattle.membership_view.specs.Changes.{is_newest, occupant, without, next_views, joined_rows}
use Rattle.membership_view.specs.Whole.{IsViews}
use Rattle.membership_view.specs.Step.{Joins}
use Rattle.texts.proofs.Entries.{lookup-changed, lookup-insert_entry}
use Rattle.membership_view.proofs.Order.{Decides-shares, shares_along, shares_back}
use Rattle.membership_view.proofs.Listed.{newer_parts, newer_by}
use Rattle.membership_view.proofs.Said.{outlived_in, outlived_if, outlived_only, outlived_same, said}
use Rattle.membership_view.proofs.Statuses.{dead_by, there_from}
use Rattle.membership_view.proofs.SameEndpoint.{found_row, lower_generation, occupant_is, occupant_some}
use Rattle.membership_view.proofs.Joins.{put_in, IsOlder, found_after, not_itself, found_occupant}
use Rattle.membership_view.proofs.After.{row_status, row_status-changed, row_status-put_in, apart}
use Rattle.silo_address.proofs.Order.{silo_cmp_total}
use Rattle.membership_view.proofs.NextViews.{at_itself, now_is, next_is, still, said_next, said_alike}

-- the silo that joined
joined_says : (made : ℕ) (silo : Silo) (rows : List (Silo × Row)) → is_newest silo rows ≡ true → (o : Option Silo)
    → ((old : Silo) → o ≡ Some old → occupant silo rows ≡ Some old)
    → IsStrictlySortedBy silo_cmp (keys_of rows)
    → row_status made (without o made (put_in silo made rows)) silo ≡ Some Active
joined_says made silo rows newest o occupies s = by o occupies
  where
    put : row_status made (put_in silo made rows) silo ≡ Some Active
    put =
        row_status-put_in made made silo rows silo
        ∙ ap (λ b. if b then status_in made (joining made) else row_status made rows silo) (at_itself silo)
        ∙ ap (λ b. if b then Some Active else None) (le-leb made made (omega arith))

    by : (o : Option Silo) → ((old : Silo) → o ≡ Some old → occupant silo rows ≡ Some old)
        → row_status made (without o made (put_in silo made rows)) silo ≡ Some Active
    by None occupies = put
    by (Some old) occupies =
        let is = occupant_is silo rows s old (occupies old refl) in
        row_status-changed made (dying made) old (put_in silo made rows) is.row (found_occupant silo made rows newest old is) silo
        ∙ ap (λ b. if b then status_in made (dying made is.row) else row_status made (put_in silo made rows) silo)
        (apart old silo (not_itself silo rows newest old is))
        ∙ put

-- what a silo other than the one that joined has after the join: nothing, where it has no row, or its row as it was or dying
abbrev IsOther : Silo → ℕ → List (Silo × Row) → Silo → Type 0
IsOther silo made rows q =
    ((found_row (joined_rows silo made rows) q ≡ None) × (found_row rows q ≡ None))
    ⊎ ((next : Row) × (found_row (joined_rows silo made rows) q ≡ Some next) × IsOlder silo made rows q next)

none_before : (silo : Silo) (made : ℕ) (rows : List (Silo × Row)) (q : Silo) → (o : Option Silo)
    → found_row (without o made (put_in silo made rows)) q ≡ None
    → found_row rows q ≡ None
none_before silo made rows q o none = by o none
  where
    put : (b : Bool) → cond b (Some (joining made)) (found_row rows q) ≡ None → found_row rows q ≡ None
    put true h = cc
    put false h = h

    kept : (f : Row → Row) (x : Option Row) → option_map f x ≡ None → x ≡ None
    kept f None h = refl
    kept f (Some x) h = cc

    unput : found_row (put_in silo made rows) q ≡ None → found_row rows q ≡ None
    unput h = put (is_at (silo_cmp q) silo) (sym (lookup-insert_entry silo_cmp_total silo (joining made) q rows) ∙ h)

    by : (o : Option Silo) → found_row (without o made (put_in silo made rows)) q ≡ None → found_row rows q ≡ None
    by None h = unput h
    by (Some old) h =
        unput (kept (λ x. if is_at (silo_cmp old) q then dying made x else x) (found_row (put_in silo made rows) q)
        (sym (lookup-changed silo_cmp_total (dying made) old q (put_in silo made rows)) ∙ h))

other_is : (silo : Silo) (made : ℕ) (rows : List (Silo × Row)) → IsStrictlySortedBy silo_cmp (keys_of rows) → is_newest silo rows ≡ true
    → (q : Silo) → q ≢ silo
    → IsOther silo made rows q
other_is silo made rows s newest q ne = by (found_row (joined_rows silo made rows) q) refl
  where
    by : (o : Option Row) → found_row (joined_rows silo made rows) q ≡ o → IsOther silo made rows q
    by None h = inl (h, none_before silo made rows q (occupant silo rows) h)
    by (Some next) h = elim (found_after silo made rows s newest q next h) [
      | inl e ↦ absurd (ne e.0)
      | inr f ↦ inr (next, h, f)
    ]

dies : (o : Option Status) → IsSome o → option_map (λ _. Dead) o ≡ Some Dead
dies None h = cc
dies (Some status) h = refl

-- an older silo of the endpoint is Dead
pub older_says : (views : ViewsValue) → IsViews views → (silo : Silo) → is_newest silo views.rows ≡ true → (q : Silo) → IsSameEndpoint silo q
    → q ≢ silo
    → row_status (views.version + 1) (joined_rows silo (views.version + 1) views.rows) q ≡ option_map (λ _. Dead)
    (row_status views.version views.rows q)
older_says views whole silo newest q same ne = elim (other_is silo (views.version + 1) views.rows whole.in_order newest q ne) [
  | inl e ↦ ap (λ o. option_and_then (status_in (views.version + 1)) o) e.0
      ∙ sym (ap (λ o. option_map (λ _. Dead) (option_and_then (status_in views.version) o)) e.1)
  | inr e ↦
      ap (λ o. option_and_then (status_in (views.version + 1)) o) e.1
      ∙ dead e.0 e.2
      ∙ sym (ap (λ o. option_map (λ _. Dead) (option_and_then (status_in views.version) o)) (e.2).found
      ∙ dies (status_in views.version (e.2).row) (there_from views.version (e.2).row (whole.in_time q (e.2).row (e.2).found).joined_by))
]
  where
    dead_before : (row : Row) → row_of views q ≡ Some row → (occupant silo views.rows ≡ Some q → ⊥) → (o : Option ℕ) → row.dead ≡ o
        → status_in (views.version + 1) row ≡ Some Dead
    dead_before row found not None none =
        absurd (not (occupant_some views.rows whole.in_order whole.older_dead silo q row found ((Decides-shares silo q).1 same) none))
    dead_before row found not (Some made) is =
        let k : made ≤ views.version = ((whole.in_time q row found).dead_after made is).1 in
        dead_by (views.version + 1) made row is (omega arith)

    dead : (next : Row) → IsOlder silo (views.version + 1) views.rows q next → status_in (views.version + 1) next ≡ Some Dead
    dead next f = elim f.is [
      | inl e ↦ ap (λ r. status_in (views.version + 1) r) e.2
          ∙ dead_by (views.version + 1) (views.version + 1) (dying (views.version + 1) f.row) refl (omega arith)
      | inr e ↦ ap (λ r. status_in (views.version + 1) r) e.1 ∙ dead_before f.row f.found e.0 f.row.dead refl
    ]

-- a silo of another endpoint is what it was
pub foreign_says : (views : ViewsValue) → IsViews views → (silo : Silo) → is_newest silo views.rows ≡ true → (q : Silo)
    → ¬ (IsSameEndpoint silo q)
    → row_status (views.version + 1) (joined_rows silo (views.version + 1) views.rows) q ≡ row_status views.version views.rows q
foreign_says views whole silo newest q other = elim (other_is silo (views.version + 1) views.rows whole.in_order newest q ne) [
  | inl e ↦ ap (λ o. option_and_then (status_in (views.version + 1)) o) (e.0 ∙ sym e.1) ∙ still views whole q
  | inr e ↦ ap (λ o. option_and_then (status_in (views.version + 1)) o) (e.1 ∙ ap (λ r. Some r) (as_it_was e.0 e.2) ∙ sym (e.2).found)
      ∙ still views whole q
]
  where
    ne : q ≢ silo
    ne e = other (ap (λ (s : Silo). s.ip) (sym e), ap (λ (s : Silo). s.port) (sym e))

    as_it_was : (next : Row) → (f : IsOlder silo (views.version + 1) views.rows q next) → next ≡ f.row
    as_it_was next f = elim f.is [
      | inl e ↦ absurd (other ((Decides-shares silo q).0 (occupant_is silo views.rows whole.in_order q e.0).shares))
      | inr e ↦ e.1
    ]

-- who is newer than a silo of an endpoint is of that endpoint
newer_shares : (silo q newer : Silo) → shares_endpoint silo q ≡ true → is_newer newer q ≡ true → shares_endpoint silo newer ≡ true
newer_shares silo q newer shares is = shares_along silo q newer shares (newer_parts newer q is).0

-- the rows once a silo has joined in the next version
abbrev joined_next : ViewsValue → Silo → List (Silo × Row)
joined_next views silo = joined_rows silo (views.version + 1) views.rows

pub join_step : (views : ViewsValue) → IsViews views → (silo : Silo) → is_newest silo views.rows ≡ true
    → IsViews (next_views views (joined_rows silo (views.version + 1) views.rows))
    → Joins silo (view_at views views.version) (view_at (next_views views (joined_rows silo (views.version + 1) views.rows))
    (views.version + 1))
join_step views whole silo newest kept = record {
  rises = refl;
  newest = λ q same there. lower_said q same (row_status views.version views.rows q) refl
      (subst (λ o. IsSome o) (said views whole.in_order views.version q (omega arith)) there);
  joined = said_next views (joined_next views silo) kept silo Active
      (next_is views (joined_next views silo) kept silo
      ∙ joined_says (views.version + 1) silo views.rows newest (occupant silo views.rows) (λ old h. h) whole.in_order);
  older = λ q same below. dead_after q same below (row_status (views.version + 1) (joined_next views silo) q) refl;
  others = λ q ne apart. elim (decided_shares q) [
    | inl shares ↦ nobody q ne shares apart
    | inr other ↦ said_alike views (joined_next views silo) whole kept q
        (next_is views (joined_next views silo) kept q ∙ foreign_says views whole silo newest q other ∙ sym (now_is views whole q))
        (outlived_same views.version (views.version + 1) views.rows (joined_next views silo) whole.in_order kept.in_order q
        (λ newer above there. subst (λ o. IsSome o) (sym (foreign_says views whole silo newest newer (foreign q newer other above))) there)
        (λ newer above there. subst (λ o. IsSome o) (foreign_says views whole silo newest newer (foreign q newer other above)) there))
  ];
}
  where
    decided_shares : (q : Silo) → (shares_endpoint silo q ≡ true) ⊎ (¬ (IsSameEndpoint silo q))
    decided_shares q = by (shares_endpoint silo q) refl
      where
        by : (b : Bool) → shares_endpoint silo q ≡ b → (shares_endpoint silo q ≡ true) ⊎ (¬ (IsSameEndpoint silo q))
        by true at = inl at
        by false at = inr (λ same. let yes : shares_endpoint silo q ≡ true = (Decides-shares silo q).1 same in absurd (cc (yes, at)))

    foreign : (q newer : Silo) → ¬ (IsSameEndpoint silo q) → is_newer newer q ≡ true → ¬ (IsSameEndpoint silo newer)
    foreign q newer other above same =
        other ((Decides-shares silo q).0 (shares_along silo newer q ((Decides-shares silo newer).1 same)
        (shares_back q newer (newer_parts newer q above).0)))

    lower_row : (q : Silo) → shares_endpoint silo q ≡ true → (o : Option Row) → found_row views.rows q ≡ o
        → IsSome (option_and_then (status_in views.version) o) → q.generation < silo.generation
    lower_row q shares None is there = absurd (cc (there))
    lower_row q shares (Some row) is there = lower_generation silo views.rows newest q row is shares

    lower_found : (q : Silo) → shares_endpoint silo q ≡ true → IsSome (row_status views.version views.rows q) → q.generation < silo.generation
    lower_found q shares there = lower_row q shares (found_row views.rows q) refl there

    -- who is said to be there, or is outlived, has a lower generation
    lower_outlived : (q : Silo) → shares_endpoint silo q ≡ true → outlived_in views.version views.rows q ≡ true → q.generation < silo.generation
    lower_outlived q shares is =
        let it = outlived_only views.version views.rows whole.in_order q is in
        let high = lower_found it.newer (newer_shares silo q it.newer shares it.is) (subst (λ o. IsSome o) (sym it.there) refl) in
        let low = (newer_parts it.newer q it.is).1 in
        omega (high, low, arith)

    outlived_some : (q : Silo) → IsSameEndpoint silo q → (b : Bool) → outlived_in views.version views.rows q ≡ b
        → IsSome (or_outlived None b) → q.generation < silo.generation
    outlived_some q same false at there = absurd (cc (there))
    outlived_some q same true at there = lower_outlived q ((Decides-shares silo q).1 same) at

    lower_said : (q : Silo) → IsSameEndpoint silo q → (o : Option Status) → row_status views.version views.rows q ≡ o
        → IsSome (or_outlived (row_status views.version views.rows q) (outlived_in views.version views.rows q)) → q.generation < silo.generation
    lower_said q same None at there =
        outlived_some q same (outlived_in views.version views.rows q) refl
        (subst (λ o. IsSome (or_outlived o (outlived_in views.version views.rows q))) at there)
    lower_said q same (Some status) at there = lower_found q ((Decides-shares silo q).1 same) (subst (λ o. IsSome o) (sym at) refl)

    joined_there : row_status (views.version + 1) (joined_next views silo) silo ≡ Some Active
    joined_there = joined_says (views.version + 1) silo views.rows newest (occupant silo views.rows) (λ old h. h) whole.in_order

    -- an older silo of the endpoint is Dead, by its row or by the silo that joined
    dead_after : (q : Silo) → IsSameEndpoint silo q → q.generation < silo.generation → (o : Option Status)
        → row_status (views.version + 1) (joined_next views silo) q ≡ o → status_of (view_at (next_views views (joined_next views silo)) (views.version + 1)) q ≡ Some Dead
    dead_after q same below None at =
        said (next_views views (joined_next views silo)) kept.in_order (views.version + 1) q (omega arith)
        ∙ ap (λ o. or_outlived o (outlived_in (views.version + 1) (joined_next views silo) q)) at
        ∙ ap (λ b. or_outlived None b) (outlived_if (views.version + 1) (joined_next views silo) kept.in_order q silo Active joined_there
        (newer_by silo q (shares_back silo q ((Decides-shares silo q).1 same)) below))
    dead_after q same below (Some status) at =
        said_next views (joined_next views silo) kept q Dead
        (next_is views (joined_next views silo) kept q ∙ dead_row (row_status views.version views.rows q) (sym (older_says views whole silo newest q same ne) ∙ at)
        (older_says views whole silo newest q same ne))
      where
        ne : q ≢ silo
        ne is = let e : q.generation ≡ silo.generation = ap (λ (s : Silo). s.generation) is in omega (e, below, arith)

        dead_row : (o : Option Status) → option_map (λ _. Dead) o ≡ Some status
            → row_status (views.version + 1) (joined_next views silo) q ≡ option_map (λ _. Dead) o → row_status (views.version + 1) (joined_next views silo) q ≡ Some Dead
        dead_row None is says = absurd (cc (is))
        dead_row (Some its) is says = says

    -- another one of the endpoint that isn't older isn't there, before or (joined_next views silo)
    nobody : (q : Silo) → q ≢ silo → shares_endpoint silo q ≡ true → ¬ (IsSameEndpoint silo q × (q.generation < silo.generation))
        → status_of (view_at (next_views views (joined_next views silo)) (views.version + 1)) q ≡ status_of (view_at views views.version) q
    nobody q ne shares apart =
        said (next_views views (joined_next views silo)) kept.in_order (views.version + 1) q (omega arith)
        ∙ ap (λ o. or_outlived o (outlived_in (views.version + 1) (joined_next views silo) q)) gone_after
        ∙ ap (λ b. or_outlived None b) (outlived_same views.version (views.version + 1) views.rows (joined_next views silo) whole.in_order kept.in_order q on back)
        ∙ ap (λ o. or_outlived o (outlived_in views.version views.rows q)) (sym gone_before)
        ∙ sym (said views whole.in_order views.version q (omega arith))
      where
        not_lower : ¬ (q.generation < silo.generation)
        not_lower below = apart ((Decides-shares silo q).0 shares, below)

        none_if : (o : Option Status) → (IsSome o → ⊥) → o ≡ None
        none_if None never = refl
        none_if (Some status) never = absurd (never refl)

        gone_before : row_status views.version views.rows q ≡ None
        gone_before = none_if (row_status views.version views.rows q) (λ there. not_lower (lower_found q shares there))

        gone_after : row_status (views.version + 1) (joined_next views silo) q ≡ None
        gone_after =
            older_says views whole silo newest q ((Decides-shares silo q).0 shares) ne ∙ ap (λ o. option_map (λ _. Dead) o) gone_before

        on : (newer : Silo) → is_newer newer q ≡ true → IsSome (row_status views.version views.rows newer)
            → IsSome (row_status (views.version + 1) (joined_next views silo) newer)
        on newer above there =
            let high = lower_found newer (newer_shares silo q newer shares above) there in
            let low = (newer_parts newer q above).1 in
            absurd (not_lower (omega (high, low, arith)))

        back : (newer : Silo) → is_newer newer q ≡ true → IsSome (row_status (views.version + 1) (joined_next views silo) newer)
            → IsSome (row_status views.version views.rows newer)
        back newer above there = by (row_status views.version views.rows newer) refl
          where
            apart_from : newer ≢ silo
            apart_from is =
                not_lower (let low = (newer_parts newer q above).1 in
                let e : newer.generation ≡ silo.generation = ap (λ (s : Silo). s.generation) is in omega (e, low, arith))

            by : (o : Option Status) → row_status views.version views.rows newer ≡ o → IsSome (row_status views.version views.rows newer)
            by None at =
                let none = older_says views whole silo newest newer ((Decides-shares silo newer).0 (newer_shares silo q newer shares above)) apart_from
                ∙ ap (λ o. option_map (λ _. Dead) o) at in
                absurd (never (row_status (views.version + 1) (joined_next views silo) newer) none there)
              where
                never : (o : Option Status) → o ≡ None → IsSome o → ⊥
                never None is there = cc (there)
                never (Some status) is there = cc (is)
            by (Some status) at = subst (λ o. IsSome o) (sym at) refl
