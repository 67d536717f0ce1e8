-- The rows with one of them changed: what is found, and what they keep.
use Rattle.std.proofs.Common.{◌≡◌, ◌⊎◌, inl, inr, ℕ, ◌+◌, ◌<◌, ◌≤◌, Bool, true, false, List, Option, Some, None, refl, sym, ◌∙◌, ap, arith, sum_by, subst, if◌then◌else◌, IsTrue}
use Rattle.std.proofs.lemmas.Option.{same_Some}
use Rattle.std.proofs.lemmas.Map.Entries.{sum_by-set_value}
use Rattle.std.specs.List.Sorted.{IsStrictlySortedBy}
use Rattle.std.specs.Map.{keys_of, values_of, set_value}
use Rattle.std.specs.BTreeMap.{is_at}
use Rattle.std.specs.Option.{option_map}
use Rattle.texts.proofs.Orderings.{Equal-from}
use Rattle.silo_address.specs.Silo.{Silo, silo_cmp, IsSameEndpoint}
use Rattle.membership_view.specs.declared.row.Row.{Row}
use Rattle.membership_view.specs.Row.{has_come}
use Rattle.membership_view.specs.Views.{ViewsValue, row_of}
use Rattle.membership_view.specs.Changes.{changed, next_views}
use Rattle.membership_view.specs.Whole.{IsInTime, IsViews, changes_of}
use Rattle.texts.proofs.Entries.{lookup-changed, keys-changed, length-changed, set_value-changed}
use Rattle.membership_view.proofs.SameEndpoint.{found_row}
use Rattle.silo_address.proofs.Order.{silo_cmp_exact, silo_cmp_total}

-- the changed rows have for each silo its row, changed if it is the one
pub record IsFoundChanged (change : Row → Row) (silo : Silo) (rows : List (Silo × Row)) (other : Silo) (after : Row) : Type 0 where
  pub row : Row
  pub found : found_row rows other ≡ Some row
  pub is : ((silo ≡ other) × (after ≡ change row)) ⊎ ((is_at (silo_cmp silo) other ≡ false) × (after ≡ row))

pub found_changed : (change : Row → Row) (silo : Silo) (rows : List (Silo × Row)) (other : Silo) (after : Row)
    → found_row (changed change silo rows) other ≡ Some after → IsFoundChanged change silo rows other after
found_changed change silo rows other after found =
    by (found_row rows other) refl (sym (lookup-changed silo_cmp_total change silo other rows) ∙ found)
  where
    which : (row : Row) (b : Bool) → is_at (silo_cmp silo) other ≡ b → (if b then change row else row) ≡ after
        → ((silo ≡ other) × (after ≡ change row)) ⊎ ((is_at (silo_cmp silo) other ≡ false) × (after ≡ row))
    which row true at is = inl (silo_cmp_exact silo other (Equal-from (silo_cmp silo other) at), sym is)
    which row false at is = inr (at, sym is)

    by : (o : Option Row) → found_row rows other ≡ o → option_map (λ x. if is_at (silo_cmp silo) other then change x else x) o ≡ Some after
        → IsFoundChanged change silo rows other after
    by None h is = cc
    by (Some row) h is = record {
      row = row;
      found = h;
      is = which row (is_at (silo_cmp silo) other) refl (same_Some (if is_at (silo_cmp silo) other then change row else row) after is);
    }

-- a row that was in time is so later
pub in_time_later : {first : ℕ} (m n : ℕ) (row : Row) → m ≤ n → IsInTime first m row → IsInTime first n row
in_time_later m n row h in' = record {
  joined_above = in'.joined_above;
  joined_from = in'.joined_from;
  joined_by = let k : row.joined ≤ m = in'.joined_by in omega arith;
  left_after = λ made is. let k = in'.left_after made is in (k.0, later made k.1);
  dead_after = λ made is. let k = in'.dead_after made is in (k.0, later made k.1);
  left_later = in'.left_later;
  dead_later = in'.dead_later;
}
  where
    later : (made : ℕ) → made ≤ m → made ≤ n
    later made k = omega arith

-- the change of one row keeps what all views keep, where it adds one change, and no more, in the next version
pub record IsChange (first version : ℕ) (change : Row → Row) (row : Row) : Type 0 where
  pub in_time : IsInTime first version (change row)
  pub joined : (change row).joined ≡ row.joined
  pub dead : (made : ℕ) → has_come row.dead made ≡ true → has_come (change row).dead made ≡ true
  pub counted : changes_of (change row) ≡ changes_of row + 1

pub sum-changed : (change : Row → Row) (silo : Silo) (rows : List (Silo × Row)) (row : Row) → IsStrictlySortedBy silo_cmp (keys_of rows)
    → found_row rows silo ≡ Some row
    → changes_of (change row) ≡ changes_of row + 1 → sum_by changes_of (values_of (changed change silo rows)) ≡ sum_by changes_of
    (values_of rows) + 1
sum-changed change silo rows row s found more =
    let e : set_value (is_at (silo_cmp silo)) rows (change row) ≡ changed change silo rows = set_value-changed silo_cmp_total change silo rows row s found in
    let f : sum_by changes_of (values_of (set_value (is_at (silo_cmp silo)) rows (change row))) + changes_of row ≡ sum_by changes_of (values_of rows) + changes_of (change row)
    = sum_by-set_value changes_of (is_at (silo_cmp silo)) rows row (change row) found in
    let g : sum_by changes_of (values_of (changed change silo rows)) + changes_of row ≡ sum_by changes_of (values_of rows) + changes_of (change row)
    = ap (λ es. sum_by changes_of (values_of es) + changes_of row) (sym e) ∙ f in
    sum (sum_by changes_of (values_of (changed change silo rows))) (sum_by changes_of (values_of rows)) (changes_of row)
    (changes_of (change row)) g more
  where
    sum : (a b c d : ℕ) → a + c ≡ b + d → d ≡ c + 1 → a ≡ b + 1
    sum a b c d h k = omega arith

pub whole-changed : (views : ViewsValue) → IsViews views → (silo : Silo) (row : Row) → row_of views silo ≡ Some row → (change : Row → Row)
    → IsChange views.first (views.version + 1) change row → IsViews (next_views views (changed change silo views.rows))
whole-changed views whole silo row found change ok = record {
  limit_above = whole.limit_above;
  limit_below = whole.limit_below;
  first_below = whole.first_below;
  first_upto = let k : views.first ≤ views.version = whole.first_upto in omega arith;
  within_limit = subst (λ n. n ≤ views.limit) (sym (length-changed silo_cmp_total change silo views.rows)) whole.within_limit;
  in_order = subst (λ ks. IsStrictlySortedBy silo_cmp ks) (sym (keys-changed silo_cmp_total change silo views.rows)) whole.in_order;
  in_time = λ q after at. timely q after (found_changed change silo views.rows q after at);
  older_dead =
      λ a b ra rb at_a at_b. dead_by a b ra rb (found_changed change silo views.rows a ra at_a)
      (found_changed change silo views.rows b rb at_b);
  counted =
      let e = sum-changed change silo views.rows row whole.in_order found ok.counted in
      let k : views.version ≤ views.first + sum_by changes_of (values_of views.rows) = whole.counted in
      omega arith;
}
  where
    its_row : (q : Silo) (x : Row) → silo ≡ q → found_row views.rows q ≡ Some x → x ≡ row
    its_row q x same at = same_Some x row (sym at ∙ ap (λ k. found_row views.rows k) (sym same) ∙ found)

    timely : (q : Silo) (after : Row) → IsFoundChanged change silo views.rows q after → IsInTime views.first (views.version + 1) after
    timely q after f = elim f.is [
      | inl e ↦ subst (λ x. IsInTime views.first (views.version + 1) x) (sym (e.1 ∙ ap change (its_row q f.row e.0 f.found))) ok.in_time
      | inr e ↦ subst (λ x. IsInTime views.first (views.version + 1) x) (sym e.1)
          (in_time_later views.version (views.version + 1) f.row (omega arith) (whole.in_time q f.row f.found))
    ]

    joined_same : (q : Silo) (after : Row) → (f : IsFoundChanged change silo views.rows q after) → after.joined ≡ f.row.joined
    joined_same q after f = elim f.is [
      | inl e ↦ let k = its_row q f.row e.0 f.found in ap (λ (x : Row). x.joined) (e.1 ∙ ap change k) ∙ ok.joined
          ∙ ap (λ (x : Row). x.joined) (sym k)
      | inr e ↦ ap (λ (x : Row). x.joined) e.1
    ]

    dead_stays : (q : Silo) (after : Row) (made : ℕ) → (f : IsFoundChanged change silo views.rows q after) → has_come f.row.dead made ≡ true
        → has_come after.dead made ≡ true
    dead_stays q after made f come = elim f.is [
      | inl e ↦
          let k = its_row q f.row e.0 f.found in
          ap (λ (x : Row). has_come x.dead made) (e.1 ∙ ap change k) ∙ ok.dead made (ap (λ (x : Row). has_come x.dead made) (sym k) ∙ come)
      | inr e ↦ ap (λ (x : Row). has_come x.dead made) e.1 ∙ come
    ]

    dead_by : (a b : Silo) (ra rb : Row) → IsFoundChanged change silo views.rows a ra → IsFoundChanged change silo views.rows b rb
        → IsSameEndpoint b a → a.generation < b.generation → IsTrue (has_come ra.dead rb.joined)
    dead_by a b ra rb fa fb shares lower =
        dead_stays a ra rb.joined fa
        (ap (λ n. has_come fa.row.dead n) (joined_same b rb fb) ∙ whole.older_dead a b fa.row fb.row fa.found fb.found shares lower)
