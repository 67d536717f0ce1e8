-- Whether entries lie in a range is told by the stretches of hashes outside it.
use Rattle.std.proofs.Common.{arith, ◌≡◌, refl, sym, ap, ◌∙◌, ℕ, ◌+◌, ◌<◌, ◌≤◌, List, [], ◌∷◌}
use Rattle.std.proofs.lemmas.Bool.Decides.{nat_tests}
use Rattle.std.specs.Prelude.{Bool, true, false, cond, filter, not, ◌&&◌, Option, Some, None, MatchOption, is_some}
use Rattle.std.specs.List.{AllByRecursion, list_all}
use Rattle.std.specs.Map.{lookup}
use Rattle.std.specs.BTreeMap.{insert_entry, is_at}
use Rattle.std.specs.Ordering.{is_eq, match_ordering}
use Rattle.std.specs.declared.cmp.Ordering.{Ordering}
use Rattle.std.specs.declared.cmp.Ordering.TheVariants.{Less, Equal, Greater}
use Rattle.silo_address.specs.Grain.{Grain, grain_cmp}
use Rattle.silo_address.specs.declared.Entry.{Entry}
use Rattle.texts.proofs.Decided.{both}
use Rattle.ring_range.specs.Range.{Range, IsRange, circle, holds}
use Rattle.hash_ring.specs.declared.Hashing.{Hashing}
use Rattle.hash_ring.specs.Hash.{hash_grain}
use Rattle.directory_rules.specs.State.{Table}
use Rattle.directory_rules.specs.Table.{entries_of, entry_at, lie_in}
use Rattle.grain_table.specs.Hashed.{AreHashed, Hashed, by_grain, entry_under}
use Rattle.grain_table.specs.Stretch.{is_between}
use Rattle.grain_table.proofs.Count.{are_behind, none_behind}
use Rattle.hash_ring.proofs.HashesBelow.{grain_below}

-- ---- What all entries pass.
swap : (a b c : Bool) → (a && (b && c)) ≡ (b && (a && c))
swap true b c = refl
swap false true c = refl
swap false false c = refl

all_inserted : (q : Entry → Bool) (grain : Grain) (entry : Entry) (table : Table) → entry_at grain table ≡ None
    → list_all q (entries_of (insert_entry grain_cmp table grain entry)) ≡ (q entry && list_all q (entries_of table))
all_inserted q grain entry [] absent = refl
all_inserted q grain entry (e ∷ es) absent = by (grain_cmp grain e.0) absent (all_inserted q grain entry es)
  where
    by : (r : Ordering) → cond (is_eq r) (Some e.1) (lookup (is_at (grain_cmp grain)) es) ≡ None
        → (entry_at grain es ≡ None → list_all q (entries_of (insert_entry grain_cmp es grain entry))
        ≡ (q entry && list_all q (entries_of es)))
        → list_all q (entries_of (match_ordering r ((grain, entry) ∷ e ∷ es) ((e.0, entry) ∷ es)
        (e ∷ insert_entry grain_cmp es grain entry)))
        ≡ (q entry && (q e.1 && list_all q (entries_of es)))
    by Less absent later = refl
    by Equal absent later = absurd (let no : Some e.1 ≡ None = absent in cc)
    by Greater absent later = ap (λ b. q e.1 && b) (later absent) ∙ swap (q e.1) (q entry) (list_all q (entries_of es))

-- it is the same in the order of hashes and in that of grains
pub each_grain : (hashing : Hashing) (q : Grain → Bool) (es : Hashed) → AreHashed hashing es
    → list_all (λ e. q e.grain) (entries_of (by_grain es)) ≡ list_all (λ e. q e.0.grain) es
each_grain hashing q [] are = refl
each_grain hashing q (e ∷ es) are =
    all_inserted (λ x. q x.grain) e.0.grain (entry_under e) (by_grain es) (none_behind hashing e es are)
    ∙ ap (λ b. q e.0.grain && b) (each_grain hashing q es (are_behind hashing e es are))

pub each_by_grain : (hashing : Hashing) (p : ℕ → Bool) (es : Hashed) → AreHashed hashing es
    → list_all (λ e. p (hash_grain hashing e.grain)) (entries_of (by_grain es)) ≡ list_all (λ e. p e.0.hash) es
each_by_grain hashing p [] are = refl
each_by_grain hashing p (e ∷ es) are =
    all_inserted (λ x. p (hash_grain hashing x.grain)) e.0.grain (entry_under e) (by_grain es) (none_behind hashing e es are)
    ∙ (λ i. p (sym are.keys.0.hash_is i) && each_by_grain hashing p es (are_behind hashing e es are) i)

-- where all lie in a range, none is outside
pub all_lie : (hashing : Hashing) (range : Range) (table : Table) → AllByRecursion (λ e. e.1.grain ≡ e.0) table
    → lie_in hashing range (entries_of table) ≡ true
    → filter (λ e. holds range (hash_grain hashing e.0)) table ≡ table
all_lie hashing range [] under lie = refl
all_lie hashing range (e ∷ es) under lie =
    let so = both (holds range (hash_grain hashing e.1.grain)) (lie_in hashing range (entries_of es)) lie in
    ap (λ b. cond b (e ∷ filter (λ e. holds range (hash_grain hashing e.0)) es) (filter (λ e. holds range (hash_grain hashing e.0)) es))
    (ap (λ g. holds range (hash_grain hashing g)) (sym under.0) ∙ so.0)
    ∙ ap (λ l. e ∷ l) (all_lie hashing range es under.1 so.1)

-- ---- What stands in a stretch.
module _ {X : Type 0} (p : X → Bool) where
  pub none_passes : (xs : List X) → filter p xs ≡ [] → list_all (λ x. not (p x)) xs ≡ true
  none_passes [] none = refl
  none_passes (x ∷ xs) none = by (p x) none (none_passes xs)
    where
      by : (b : Bool) → cond b (x ∷ filter p xs) (filter p xs) ≡ [] → (filter p xs ≡ [] → list_all (λ x. not (p x)) xs ≡ true)
          → (not b && list_all (λ x. not (p x)) xs) ≡ true
      by true none rest = absurd (let no : x ∷ filter p xs ≡ [] = none in cc)
      by false none rest = rest none

  pub one_passes : (one : X) (more xs : List X) → filter p xs ≡ one ∷ more → list_all (λ x. not (p x)) xs ≡ false
  one_passes one more [] some = absurd (let no : [] ≡ one ∷ more = some in cc)
  one_passes one more (x ∷ xs) some = by (p x) some (one_passes one more xs)
    where
      by : (b : Bool) → cond b (x ∷ filter p xs) (filter p xs) ≡ one ∷ more
          → (filter p xs ≡ one ∷ more → list_all (λ x. not (p x)) xs ≡ false)
          → (not b && list_all (λ x. not (p x)) xs) ≡ false
      by true some rest = refl
      by false some rest = rest some

-- ---- What stands outside a range.
all_true : (p : Entry → Bool) → ((e : Entry) → p e ≡ true) → (entries : List Entry) → list_all p entries ≡ true
all_true p each [] = refl
all_true p each (e ∷ entries) = ap (λ b. b && list_all p entries) (each e) ∙ all_true p each entries

all_same : (p q : Entry → Bool) → ((e : Entry) → p e ≡ q e) → (entries : List Entry) → list_all p entries ≡ list_all q entries
all_same p q each [] = refl
all_same p q each (e ∷ entries) = λ i. each e i && all_same p q each entries i

four : (a b c d : Bool) → ((a && b) && (c && d)) ≡ ((a && c) && (b && d))
four true b true d = refl
four true true false d = refl
four true false false d = refl
four false b c d = refl

all_both : (p q r : Entry → Bool) → ((e : Entry) → (p e && q e) ≡ r e) → (entries : List Entry)
    → (list_all p entries && list_all q entries) ≡ list_all r entries
all_both p q r each [] = refl
all_both p q r each (e ∷ entries) =
    four (p e) (list_all p entries) (q e) (list_all q entries) ∙ (λ i. each e i && all_both p q r each entries i)

tests_two : (range : Range) (hash : ℕ) → IsRange range → range.start + range.size ≤ circle → hash < circle
    → (not (is_between 0 range.start hash) && not (is_between (range.start + range.size) circle hash)) ≡ holds range hash
tests_two range hash is fits below = let start = is.start_below in let size = is.size_within in grind (arith, nat_tests)

tests_one : (range : Range) (low hash : ℕ) → IsRange range → range.start + range.size ≡ low + circle → hash < circle
    → not (is_between low range.start hash) ≡ holds range hash
tests_one range low hash is ends below = let start = is.start_below in let size = is.size_within in grind (arith, nat_tests)

module _ (hashing : Hashing) (entries : List Entry) where
  abbrev pub none : ℕ → ℕ → Bool
  none first end = list_all (λ e. not (is_between first end (hash_grain hashing e.grain))) entries

  pub none_in_nothing : (first end : ℕ) → end ≤ first → none first end ≡ true
  none_in_nothing first end le =
      all_true (λ e. not (is_between first end (hash_grain hashing e.grain))) (λ e. empty (hash_grain hashing e.grain)) entries
    where
      empty : (hash : ℕ) → not (is_between first end hash) ≡ true
      empty hash = grind (arith, nat_tests)

  module _ (range : Range) (is : IsRange range) (start end : ℕ) (starts : start ≡ range.start) (ends : end ≡ range.start + range.size) where
    pub two_outside : end ≤ circle → (none 0 start && none end circle) ≡ lie_in hashing range entries
    two_outside fits =
        (λ i. none 0 (starts i) && none (ends i) circle)
        ∙ all_both (λ e. not (is_between 0 range.start (hash_grain hashing e.grain)))
        (λ e. not (is_between (range.start + range.size) circle (hash_grain hashing e.grain)))
        (λ e. holds range (hash_grain hashing e.grain))
        (λ e. tests_two range (hash_grain hashing e.grain) is (omega (arith, ends, fits)) (grain_below hashing e.grain)) entries

    pub one_outside : (low : ℕ) → low + circle ≡ end → none low start ≡ lie_in hashing range entries
    one_outside low lower =
        ap (none low) starts
        ∙ all_same (λ e. not (is_between low range.start (hash_grain hashing e.grain))) (λ e. holds range (hash_grain hashing e.grain))
        (λ e. tests_one range low (hash_grain hashing e.grain) is (omega (arith, ends, lower)) (grain_below hashing e.grain)) entries

-- the first that passes tells whether any does
pub told_by_first : {X : Type 0} (p : X → Bool) (xs passing rest : List X) (one : Option X) (none : Bool) → is_some one ≡ not none
    → passing ≡ filter p xs
    → MatchOption one ((passing ≡ []) × (rest ≡ [])) (λ x. passing ≡ x ∷ rest) → none ≡ list_all (λ x. not (p x)) xs
told_by_first p xs passing rest None true tells is taken = sym (none_passes p xs (sym is ∙ taken.0))
told_by_first p xs passing rest None false tells is taken = cc
told_by_first p xs passing rest (Some x) false tells is taken = sym (one_passes p x rest xs (sym is ∙ taken))
told_by_first p xs passing rest (Some x) true tells is taken = cc
