-- The rows after a join: what is found, and what they keep.
use Rattle.std.proofs.Common.{◌≡◌, ◌⊎◌, inl, inr, ℕ, ◌+◌, ◌<◌, ◌≤◌, Bool, true, false, cond, List, Option, Some, None, refl, sym, ◌∙◌, ap, arith, length, sum_by, subst, unwrap_or, IsTrue}
use Rattle.std.proofs.lemmas.Bool.{le-leb}
use Rattle.std.proofs.lemmas.Option.{same_Some}
use Rattle.std.proofs.lemmas.Cmp.{tied_itself}
use Rattle.std.proofs.lemmas.Map.Entries.{sum_by-insert_entry}
use Rattle.std.specs.List.Sorted.{IsStrictlySortedBy}
use Rattle.std.specs.Map.{keys_of, values_of}
use Rattle.std.specs.BTreeMap.{is_at, insert_entry}
use Rattle.std.specs.Option.{option_map}
use Rattle.std.specs.Ordering.{is_eq}
use Rattle.texts.proofs.Orderings.{Equal-from}
use Rattle.silo_address.specs.Silo.{Silo, silo_cmp, IsSameEndpoint}
use Rattle.membership_view.specs.declared.row.Row.{Row}
use Rattle.membership_view.specs.Row.{has_come, joining, dying}
use Rattle.membership_view.specs.Views.{ViewsValue}
use Rattle.membership_view.specs.View.{shares_endpoint}
use Rattle.membership_view.specs.Changes.{is_newest, occupant, without, next_views, joined_rows}
use Rattle.membership_view.specs.Whole.{IsInTime, IsViews, changes_of}
use Rattle.texts.proofs.Entries.{lookup-insert_entry, length-insert_entry, sorted-insert_entry, length-changed, keys-changed}
use Rattle.membership_view.proofs.Order.{shares_itself, shares_back, Decides-shares}
use Rattle.membership_view.proofs.Statuses.{changes_dying, come}
use Rattle.membership_view.proofs.SameEndpoint.{found_row, lower_generation, IsOccupant, occupant_is, occupant_some}
use Rattle.membership_view.proofs.ChangedRow.{IsFoundChanged, found_changed, sum-changed, in_time_later}
use Rattle.silo_address.proofs.Order.{silo_cmp_exact, silo_cmp_total}

-- the rows with the one that joins put in
abbrev pub put_in : Silo → ℕ → List (Silo × Row) → List (Silo × Row)
put_in silo version rows = insert_entry silo_cmp rows silo (joining version)

-- the silo that joins has no row before
pub new_row : (silo : Silo) (rows : List (Silo × Row)) → is_newest silo rows ≡ true → found_row rows silo ≡ None
new_row silo rows newest = by (found_row rows silo) refl
  where
    by : (o : Option Row) → found_row rows silo ≡ o → found_row rows silo ≡ None
    by None h = h
    by (Some row) h =
        let k : silo.generation < silo.generation = lower_generation silo rows newest silo row h (shares_itself silo) in
        absurd (omega arith)

-- what is found once it is put in
pub found_put_in : (silo : Silo) (version : ℕ) (rows : List (Silo × Row)) (q : Silo) (x : Row)
    → found_row (put_in silo version rows) q ≡ Some x
    → ((q ≡ silo) × (x ≡ joining version)) ⊎ ((is_at (silo_cmp q) silo ≡ false) × (found_row rows q ≡ Some x))
found_put_in silo version rows q x found =
    by (is_at (silo_cmp q) silo) refl (sym (lookup-insert_entry silo_cmp_total silo (joining version) q rows) ∙ found)
  where
    by : (b : Bool) → is_at (silo_cmp q) silo ≡ b → cond b (Some (joining version)) (found_row rows q) ≡ Some x
        → ((q ≡ silo) × (x ≡ joining version)) ⊎ ((is_at (silo_cmp q) silo ≡ false) × (found_row rows q ≡ Some x))
    by true at is = inl (silo_cmp_exact q silo (Equal-from (silo_cmp q silo) at), sym (same_Some (joining version) x is))
    by false at is = inr (at, is)

-- the occupant is not the silo that joins
pub not_itself : (silo : Silo) (rows : List (Silo × Row)) → is_newest silo rows ≡ true → (old : Silo) → IsOccupant silo rows old
    → old ≡ silo → ⊥
not_itself silo rows newest old is same =
    let e : Some is.row ≡ None = sym is.found ∙ ap (λ k. found_row rows k) same ∙ new_row silo rows newest in
    cc

-- a row after a join: the one that joined, an older one that dies, or one as it was
pub record IsOlder (silo : Silo) (version : ℕ) (rows : List (Silo × Row)) (q : Silo) (after : Row) : Type 0 where
  pub row : Row
  pub found : found_row rows q ≡ Some row
  pub is : ((occupant silo rows ≡ Some q) × (row.dead ≡ None) × (after ≡ dying version row))
      ⊎ (((occupant silo rows ≡ Some q) → ⊥) × (after ≡ row))

abbrev pub IsAfterJoin : Silo → ℕ → List (Silo × Row) → Silo → Row → Type 0
IsAfterJoin silo version rows q after = ((q ≡ silo) × (after ≡ joining version)) ⊎ IsOlder silo version rows q after

pub found_after : (silo : Silo) (version : ℕ) (rows : List (Silo × Row)) → IsStrictlySortedBy silo_cmp (keys_of rows)
    → is_newest silo rows ≡ true
    → (q : Silo) (after : Row) → found_row (joined_rows silo version rows) q ≡ Some after → IsAfterJoin silo version rows q after
found_after silo version rows s newest q after found = by (occupant silo rows) refl found
  where
    old_case : (old : Silo) → occupant silo rows ≡ Some old → (f : IsFoundChanged (dying version) old (put_in silo version rows) q after)
        → IsAfterJoin silo version rows q after
    old_case old h f = elim (found_put_in silo version rows q f.row f.found) [
      | inl e ↦ elim f.is [
        | inl k ↦ absurd (not_itself silo rows newest old (occupant_is silo rows s old h) (k.0 ∙ e.0))
        | inr k ↦ inl (e.0, k.1 ∙ e.1)
      ]
      | inr e ↦ elim f.is [
        | inl k ↦
            let is = occupant_is silo rows s old h in
            let same : is.row ≡ f.row = same_Some is.row f.row (sym is.found ∙ ap (λ j. found_row rows j) k.0 ∙ e.1) in
            inr (record {
              row = f.row;
              found = e.1;
              is = inl
                  (h ∙ ap (λ j. Some j) k.0, ap (λ (x : Row). x.dead) (sym same) ∙ is.not_dead, k.1);
            })
        | inr k ↦
            inr (record { row = f.row; found = e.1; is = inr (λ occupies. apart old occupies h k.0, k.1) })
      ]
    ]
      where
        apart : (old : Silo) → occupant silo rows ≡ Some q → occupant silo rows ≡ Some old → is_at (silo_cmp old) q ≡ false → ⊥
        apart old a b not =
            let same : old ≡ q = same_Some old q (sym b ∙ a) in
            let yes : is_at (silo_cmp old) q ≡ true = ap (λ j. is_at (silo_cmp old) j) (sym same) ∙ ap is_eq (tied_itself silo_cmp_total old) in
            cc

    none_case : occupant silo rows ≡ None → (((q ≡ silo) × (after ≡ joining version))
        ⊎ ((is_at (silo_cmp q) silo ≡ false) × (found_row rows q ≡ Some after)))
        → IsAfterJoin silo version rows q after
    none_case h f = elim f [
      | inl e ↦ inl e
      | inr e ↦ inr (record { row = after; found = e.1; is = inr (λ occupies. absurd (nothing q occupies h), refl) })
    ]
      where
        nothing : (q : Silo) → occupant silo rows ≡ Some q → occupant silo rows ≡ None → ⊥
        nothing q a b = let e : Some q ≡ None = sym a ∙ b in cc

    by : (o : Option Silo) → occupant silo rows ≡ o → found_row (without o version (put_in silo version rows)) q ≡ Some after
        → IsAfterJoin silo version rows q after
    by None h found = none_case h (found_put_in silo version rows q after found)
    by (Some old) h found = old_case old h (found_changed (dying version) old (put_in silo version rows) q after found)

-- a row that joins in a version, in time
in_time_joining : (first version : ℕ) → 0 < version → first ≤ version → IsInTime first version (joining version)
in_time_joining first version above from = record {
  joined_above = above;
  joined_from = from;
  joined_by = omega arith;
  left_after = λ made is. absurd (cc (is));
  dead_after = λ made is. absurd (cc (is));
  left_later = λ made is at_once. absurd (cc (is));
  dead_later = λ made is at_once. absurd (cc (is));
}

-- and one that dies
pub in_time_dying : {first : ℕ} (version : ℕ) (row : Row) → IsInTime first version row → IsInTime first (version + 1) (dying (version + 1) row)
in_time_dying {first} version row in' =
    let later : IsInTime first (version + 1) row = in_time_later version (version + 1) row (omega arith) in' in
    record {
      joined_above = later.joined_above;
      joined_from = later.joined_from;
      joined_by = later.joined_by;
      left_after = later.left_after;
      dead_after = λ made is. made_now made (same_Some (version + 1) made is);
      left_later = later.left_later;
      dead_later = λ made is at_once. absurd (not_at_once made (same_Some (version + 1) made is) at_once);
    }
  where
    made_now : (made : ℕ) → version + 1 ≡ made → (row.joined ≤ made) × (made ≤ version + 1)
    made_now made is = let k : row.joined ≤ version = in'.joined_by in (omega arith, omega arith)

    not_at_once : (made : ℕ) → version + 1 ≡ made → made ≡ row.joined → ⊥
    not_at_once made is at_once = let k : row.joined ≤ version = in'.joined_by in omega arith

-- one row more
length-joined : (silo : Silo) (version : ℕ) (rows : List (Silo × Row)) → is_newest silo rows ≡ true → (o : Option Silo)
    → length (without o version (put_in silo version rows)) ≡ length rows + 1
length-joined silo version rows newest None = length-insert_entry silo_cmp_total silo (joining version) rows (new_row silo rows newest)
length-joined silo version rows newest (Some old) =
    length-changed silo_cmp_total (dying version) old (put_in silo version rows)
    ∙ length-insert_entry silo_cmp_total silo (joining version) rows (new_row silo rows newest)

-- by address
sorted-joined : (silo : Silo) (version : ℕ) (rows : List (Silo × Row)) → IsStrictlySortedBy silo_cmp (keys_of rows) → (o : Option Silo)
    → IsStrictlySortedBy silo_cmp (keys_of (without o version (put_in silo version rows)))
sorted-joined silo version rows s None = sorted-insert_entry silo_cmp_total silo (joining version) rows s
sorted-joined silo version rows s (Some old) =
    subst (λ ks. IsStrictlySortedBy silo_cmp ks) (sym (keys-changed silo_cmp_total (dying version) old (put_in silo version rows)))
    (sorted-insert_entry silo_cmp_total silo (joining version) rows s)

sum-put_in : (silo : Silo) (version : ℕ) (rows : List (Silo × Row)) → IsStrictlySortedBy silo_cmp (keys_of rows)
    → is_newest silo rows ≡ true
    → sum_by changes_of (values_of (put_in silo version rows)) ≡ sum_by changes_of (values_of rows) + 1
sum-put_in silo version rows s newest =
    let e = sum_by-insert_entry changes_of silo_cmp_total rows silo (joining version) s in
    let none : unwrap_or (option_map changes_of (found_row rows silo)) 0 ≡ 0 = ap (λ o. unwrap_or (option_map changes_of o) 0) (new_row silo rows newest) in
    omega (arith, e, none)

-- the occupant keeps its row when the other silo is put in
pub found_occupant : (silo : Silo) (version : ℕ) (rows : List (Silo × Row)) → is_newest silo rows ≡ true → (old : Silo)
    → (occupies : IsOccupant silo rows old)
    → found_row (put_in silo version rows) old ≡ Some occupies.row
found_occupant silo version rows newest old occupies =
    lookup-insert_entry silo_cmp_total silo (joining version) old rows ∙ other (is_at (silo_cmp old) silo) refl ∙ occupies.found
  where
    other : (b : Bool) → is_at (silo_cmp old) silo ≡ b → cond b (Some (joining version)) (found_row rows old) ≡ found_row rows old
    other true at = absurd (not_itself silo rows newest old occupies (silo_cmp_exact old silo (Equal-from (silo_cmp old silo) at)))
    other false at = refl

-- one change more at least
counted-joined : (silo : Silo) (version : ℕ) (rows : List (Silo × Row)) → IsStrictlySortedBy silo_cmp (keys_of rows)
    → is_newest silo rows ≡ true
    → (o : Option Silo) → occupant silo rows ≡ o
    → sum_by changes_of (values_of rows) + 1 ≤ sum_by changes_of (values_of (without o version (put_in silo version rows)))
counted-joined silo version rows s newest None is = omega (arith, sum-put_in silo version rows s newest)
counted-joined silo version rows s newest (Some old) is =
    let occupies = occupant_is silo rows s old is in
    let e = sum-changed (dying version) old (put_in silo version rows) occupies.row (sorted-insert_entry silo_cmp_total silo (joining version) rows s) (found_occupant silo version rows newest old occupies) (changes_dying version occupies.row occupies.not_dead) in
    omega (arith, e, sum-put_in silo version rows s newest)

-- after a join every row is in time
in_time-joined : (views : ViewsValue) → IsViews views → (silo q : Silo) (after : Row)
    → IsAfterJoin silo (views.version + 1) views.rows q after
    → IsInTime views.first (views.version + 1) after
in_time-joined views whole silo q after is = elim is [
  | inl e ↦ subst (λ x. IsInTime views.first (views.version + 1) x) (sym e.1) (in_time_joining views.first (views.version + 1) (omega arith) (let k : views.first ≤ views.version = whole.first_upto in omega arith))
  | inr f ↦ elim f.is [
    | inl e ↦ subst (λ x. IsInTime views.first (views.version + 1) x) (sym e.2) (in_time_dying views.version f.row (whole.in_time q f.row f.found))
    | inr e ↦ subst (λ x. IsInTime views.first (views.version + 1) x) (sym e.1)
        (in_time_later views.version (views.version + 1) f.row (omega arith) (whole.in_time q f.row f.found))
  ]
]

-- after a join an older silo of an endpoint is Dead from the joining of a newer one on
older_dead-joined : (views : ViewsValue) → IsViews views → (silo : Silo) → is_newest silo views.rows ≡ true → (a b : Silo) (ra rb : Row)
    → IsAfterJoin silo (views.version + 1) views.rows a ra → IsAfterJoin silo (views.version + 1) views.rows b rb
    → IsSameEndpoint b a → a.generation < b.generation → IsTrue (has_come ra.dead rb.joined)
older_dead-joined views whole silo newest a b ra rb of_a of_b shares lower = elim of_a [
  | inl e ↦ elim of_b [
    | inl f ↦ absurd (same_twice e.0 f.0)
    | inr f ↦ absurd (newer_there e.0 f)
  ]
  | inr e ↦ elim of_b [
    | inl f ↦ ap (λ (x : Row). has_come ra.dead x.joined) f.1 ∙ dies e f.0
    | inr f ↦ ap (λ n. has_come ra.dead n) (joined_same f)
        ∙ stays e f.row.joined (whole.older_dead a b e.row f.row e.found f.found shares lower)
  ]
]
  where
    same_twice : a ≡ silo → b ≡ silo → ⊥
    same_twice p q = let k : a.generation ≡ b.generation = ap (λ (s : Silo). s.generation) (p ∙ sym q) in omega arith

    newer_there : a ≡ silo → IsOlder silo (views.version + 1) views.rows b rb → ⊥
    newer_there p f =
        let k : b.generation < silo.generation = lower_generation silo views.rows newest b f.row f.found (ap (λ s. shares_endpoint s b) (sym p) ∙ shares_back b a ((Decides-shares b a).1 shares)) in
        let e : a.generation ≡ silo.generation = ap (λ (s : Silo). s.generation) p in
        omega arith

    joined_same : (f : IsOlder silo (views.version + 1) views.rows b rb) → rb.joined ≡ f.row.joined
    joined_same f = elim f.is [ inl e ↦ ap (λ (x : Row). x.joined) e.2 | inr e ↦ ap (λ (x : Row). x.joined) e.1 ]

    stays : (e : IsOlder silo (views.version + 1) views.rows a ra) → (n : ℕ) → has_come e.row.dead n ≡ true → has_come ra.dead n ≡ true
    stays e n come = elim e.is [
      | inl k ↦ absurd (never e n come k.1)
      | inr k ↦ ap (λ (x : Row). has_come x.dead n) k.1 ∙ come
    ]
      where
        never : (e : IsOlder silo (views.version + 1) views.rows a ra) → (n : ℕ) → has_come e.row.dead n ≡ true → e.row.dead ≡ None → ⊥
        never e n come none = let no : has_come e.row.dead n ≡ false = ap (λ c. has_come c n) none in cc

    dies : IsOlder silo (views.version + 1) views.rows a ra → b ≡ silo → has_come ra.dead (views.version + 1) ≡ true
    dies e p = elim e.is [
      | inl k ↦ ap (λ (x : Row). has_come x.dead (views.version + 1)) k.2 ∙ le-leb (views.version + 1) (views.version + 1) (omega arith)
      | inr k ↦ ap (λ (x : Row). has_come x.dead (views.version + 1)) k.1 ∙ before e k.0 e.row.dead refl
    ]
      where
        before : (e : IsOlder silo (views.version + 1) views.rows a ra) → (occupant silo views.rows ≡ Some a → ⊥) → (o : Option ℕ)
            → e.row.dead ≡ o
            → has_come e.row.dead (views.version + 1) ≡ true
        before e not None none =
            absurd (not (occupant_some views.rows whole.in_order whole.older_dead silo a e.row e.found
            (ap (λ s. shares_endpoint s a) (sym p) ∙ (Decides-shares b a).1 shares) none))
        before e not (Some made) is =
            let k : made ≤ views.version = ((whole.in_time a e.row e.found).dead_after made is).1 in
            come e.row.dead (views.version + 1) made is (omega arith)

-- what all views keep they keep after a join
pub whole-joined : (views : ViewsValue) → IsViews views → (silo : Silo) → is_newest silo views.rows ≡ true → length views.rows < views.limit
    → IsViews (next_views views (joined_rows silo (views.version + 1) views.rows))
whole-joined views whole silo newest room = record {
  limit_above = whole.limit_above;
  limit_below = whole.limit_below;
  first_below = whole.first_below;
  first_upto = let k : views.first ≤ views.version = whole.first_upto in omega arith;
  within_limit =
      let k : length (joined_rows silo (views.version + 1) views.rows) ≡ length views.rows + 1 = length-joined silo (views.version + 1) views.rows newest (occupant silo views.rows) in
      omega arith;
  in_order = sorted-joined silo (views.version + 1) views.rows whole.in_order (occupant silo views.rows);
  in_time =
      λ q after at. in_time-joined views whole silo q after
      (found_after silo (views.version + 1) views.rows whole.in_order newest q after at);
  older_dead = λ a b ra rb at_a at_b. older_dead-joined views whole silo newest a b ra rb
      (found_after silo (views.version + 1) views.rows whole.in_order newest a ra at_a)
      (found_after silo (views.version + 1) views.rows whole.in_order newest b rb at_b);
  counted =
      let more = counted-joined silo (views.version + 1) views.rows whole.in_order newest (occupant silo views.rows) refl in
      let k : views.version ≤ views.first + sum_by changes_of (values_of views.rows) = whole.counted in
      omega (arith, more, k);
}
