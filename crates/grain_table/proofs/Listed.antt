-- What is kept of a table, listed in the order of hashes, is in another order what is kept of its entries.
use Rattle.std.proofs.Common.{arith, ◌≡◌, refl, sym, ap, ◌∙◌, subst, ℕ, ◌+◌, ◌-◌, ◌<◌, ◌≤◌, List, [], ◌∷◌, ◌++◌, append_assoc}
use Rattle.std.specs.Prelude.{Bool, true, false, cond, not, Some, None, filter}
use Rattle.std.specs.List.Sorted.{IsPermutation}
use Rattle.std.specs.Map.{lookup}
use Rattle.std.specs.BTreeMap.{insert_entry, is_at}
use Rattle.std.specs.Ordering.{is_eq, match_ordering}
use Rattle.std.specs.declared.cmp.Ordering.{Ordering}
use Rattle.std.specs.declared.cmp.Ordering.TheVariants.{Less, Equal, Greater}
use Rattle.std.proofs.lemmas.List.Elements.{filter-append}
use Rattle.std.proofs.lemmas.List.Sorted.{IsPermutation-append_right, IsPermutation-cons, IsPermutation-middle, IsPermutation-refl, IsPermutation-trans}
use Rattle.silo_address.specs.Grain.{Grain, grain_cmp}
use Rattle.silo_address.specs.declared.ActivationId.{ActivationId}
use Rattle.silo_address.specs.declared.Entry.{Entry}
use Rattle.membership_view.specs.View.{ViewValue}
use Rattle.ring_range.specs.Range.{Range, IsRange, circle, holds}
use Rattle.hash_ring.specs.declared.Hashing.{Hashing}
use Rattle.directory_rules.specs.Members.{is_dead_in}
use Rattle.directory_rules.specs.Sight.{is_kept}
use Rattle.directory_rules.specs.State.{Table}
use Rattle.directory_rules.specs.Table.{entries_of, entry_at}
use Rattle.grain_table.specs.declared.hashed_grain.HashedGrain.{HashedGrain}
use Rattle.grain_table.specs.Hashed.{AreHashed, Hashed, by_grain, entry_under}
use Rattle.grain_table.specs.Stretch.{is_between}
use Rattle.grain_table.proofs.ByGrain.{by_grain_is_table}
use Rattle.grain_table.proofs.Count.{are_behind, none_behind}
use Rattle.grain_table.proofs.Filters.{kept_of, living_by_grain, passed_are_hashed, passed_by_grain}
use Rattle.grain_table.proofs.Put.{entries_under}
use Rattle.grain_table.proofs.Ranges.{both_stretches, one_stretch, passed}

-- ---- In the order of hashes and in that of grains.
inserted : (grain : Grain) (entry : Entry) (table : Table) → entry_at grain table ≡ None
    → IsPermutation (entries_of (insert_entry grain_cmp table grain entry)) (entry ∷ entries_of table)
inserted grain entry [] absent = IsPermutation-refl (entry ∷ [])
inserted grain entry (e ∷ es) absent = by (grain_cmp grain e.0) absent (inserted grain entry es)
  where
    by : (r : Ordering) → cond (is_eq r) (Some e.1) (lookup (is_at (grain_cmp grain)) es) ≡ None
        → (entry_at grain es ≡ None → IsPermutation (entries_of (insert_entry grain_cmp es grain entry)) (entry ∷ entries_of es))
        → IsPermutation (entries_of (match_ordering r ((grain, entry) ∷ e ∷ es) ((e.0, entry) ∷ es)
        (e ∷ insert_entry grain_cmp es grain entry))) (entry ∷ e.1 ∷ entries_of es)
    by Less absent later = IsPermutation-refl (entry ∷ e.1 ∷ entries_of es)
    by Equal absent later = absurd (let no : Some e.1 ≡ None = absent in cc)
    by Greater absent later =
        IsPermutation-trans _ _ _ (IsPermutation-cons e.1 _ _ (later absent)) (IsPermutation-middle (e.1 ∷ []) entry (entries_of es))

under_by_grain : (hashing : Hashing) (es : Hashed) → AreHashed hashing es → IsPermutation (entries_of (by_grain es)) (entries_under es)
under_by_grain hashing [] are = IsPermutation-refl []
under_by_grain hashing (e ∷ es) are =
    IsPermutation-trans _ _ _ (inserted e.0.grain (entry_under e) (by_grain es) (none_behind hashing e es are))
    (IsPermutation-cons (entry_under e) _ _ (under_by_grain hashing es (are_behind hashing e es are)))

-- ---- What is kept.
-- it is the same to pick entries in a table and in a list
pub values_kept : (p : Entry → Bool) (table : Table) → entries_of (filter (λ e. p e.1) table) ≡ filter p (entries_of table)
values_kept p [] = refl
values_kept p (e ∷ es) = by (p e.1) (values_kept p es)
  where
    by : (b : Bool) → entries_of (filter (λ e. p e.1) es) ≡ filter p (entries_of es)
        → entries_of (cond b (e ∷ filter (λ e. p e.1) es) (filter (λ e. p e.1) es)) ≡ cond b (e.1 ∷ filter p (entries_of es))
        (filter p (entries_of es))
    by true rest = ap (λ l. e.1 ∷ l) rest
    by false rest = rest

module _ (view : ViewValue) where
  abbrev pub living_of : Hashed → Hashed
  living_of es = filter (λ e. not (is_dead_in view e.1.silo)) es

  kept_is : (hashing : Hashing) (range : Range) (es : Hashed) → AreHashed hashing es
      → entries_of (by_grain (living_of (passed (holds range) es))) ≡ filter (is_kept hashing view range) (entries_of (by_grain es))
  kept_is hashing range es are =
      ap entries_of
      (living_by_grain hashing (λ a. not (is_dead_in view a.silo)) (passed (holds range) es)
      (passed_are_hashed hashing (λ e. holds range e.0.hash) es are)
      ∙ ap (filter (λ e. not (is_dead_in view e.1.activation.silo))) (passed_by_grain hashing (holds range) es are)
      ∙ kept_of hashing view range (by_grain es) (by_grain_is_table es))
      ∙ values_kept (is_kept hashing view range) (by_grain es)

  -- listed behind others, they are what is kept, in some order
  pub listed_kept : (hashing : Hashing) (range : Range) (es : Hashed) → AreHashed hashing es → (before listed : List Entry)
      → listed ≡ before ++ entries_under (living_of (passed (holds range) es))
      → IsPermutation (before ++ filter (is_kept hashing view range) (entries_of (by_grain es))) listed
  listed_kept hashing range es are before listed is =
      subst (IsPermutation (before ++ filter (is_kept hashing view range) (entries_of (by_grain es)))) (sym is)
      (IsPermutation-append_right before _ _
      (subst (λ l. IsPermutation l (entries_under (living_of (passed (holds range) es)))) (kept_is hashing range es are)
      (under_by_grain hashing (living_of (passed (holds range) es))
      (passed_are_hashed hashing (λ e. not (is_dead_in view e.1.silo)) (passed (holds range) es)
      (passed_are_hashed hashing (λ e. holds range e.0.hash) es are)))))

  -- ---- Stretch by stretch.
  under_both : (es others : Hashed) → entries_under (es ++ others) ≡ entries_under es ++ entries_under others
  under_both [] others = refl
  under_both (e ∷ es) others = ap (λ l. entry_under e ∷ l) (under_both es others)

  -- the list with what is living of that
  abbrev pub with_living : List Entry → Hashed → List Entry
  with_living entries es = entries ++ entries_under (living_of es)

  -- one that is living goes behind the list
  pub one_listed : (entries new : List Entry) (e : HashedGrain × ActivationId) (all rest : Hashed) → is_dead_in view e.1.silo ≡ false
      → all ≡ e ∷ rest → new ≡ entries ++ entry_under e ∷ []
      → with_living new rest ≡ with_living entries all
  one_listed entries new e all rest living first pushed =
      ap (λ l. l ++ entries_under (living_of rest)) pushed
      ∙ append_assoc entries (entry_under e ∷ []) (entries_under (living_of rest))
      ∙ ap (λ b. entries ++ entries_under (cond (not b) (e ∷ living_of rest) (living_of rest))) (sym living)
      ∙ ap (with_living entries) (sym first)

  with_both : (entries : List Entry) (es others : Hashed) → with_living (with_living entries es) others ≡ with_living entries (es ++ others)
  with_both entries es others =
      append_assoc entries (entries_under (living_of es)) (entries_under (living_of others))
      ∙ ap (λ l. entries ++ l) (sym (under_both (living_of es) (living_of others))
      ∙ ap entries_under (sym (filter-append (λ e. not (is_dead_in view e.1.silo)) es others)))

  pub list_one : (hashing : Hashing) (range : Range) → IsRange range → (es : Hashed) → AreHashed hashing es → (start begin size : ℕ)
      → start ≡ range.start → begin ≡ range.start → size ≡ range.size
      → begin + size ≤ circle → (entries : List Entry)
      → with_living entries (passed (is_between start (begin + size)) es) ≡ with_living entries (passed (holds range) es)
  list_one hashing range is es are start begin size starts begins sizes fits entries =
      ap (with_living entries)
      ((λ i. passed (is_between (starts i) (begins i + sizes i)) es)
      ∙ one_stretch hashing range es are is (omega (arith, begins, sizes, fits)))

  pub list_two : (hashing : Hashing) (range : Range) → IsRange range → (es : Hashed) → AreHashed hashing es → (start begin size : ℕ)
      → start ≡ range.start → begin ≡ range.start → size ≡ range.size
      → circle < begin + size → (entries low : List Entry) → low ≡ with_living entries (passed (is_between 0 (begin + size - circle)) es)
      → with_living low (passed (is_between start circle) es) ≡ with_living entries (passed (holds range) es)
  list_two hashing range is es are start begin size starts begins sizes over entries low lower =
      (λ i. with_living (lower i) (passed (is_between (starts i) circle) es))
      ∙ with_both entries (passed (is_between 0 (begin + size - circle)) es) (passed (is_between range.start circle) es)
      ∙ ap (with_living entries) (both_stretches range (begin + size - circle) is (omega (arith, begins, sizes, over)) hashing es are)
