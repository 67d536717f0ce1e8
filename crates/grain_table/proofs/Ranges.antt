-- What stands under the hashes of a range is one stretch, or two where the range goes on over 0.
use Rattle.std.proofs.Common.{arith, ◌≡◌, refl, sym, ap, ◌∙◌, ℕ, ◌+◌, ◌<◌, ◌≤◌, [], ◌∷◌, ◌++◌}
use Rattle.std.proofs.lemmas.Bool.Decides.{nat_tests}
use Rattle.std.specs.Prelude.{Bool, true, false, cond, filter}
use Rattle.std.specs.List.{AllByRecursion}
use Rattle.std.specs.Map.{keys_of}
use Rattle.std.specs.Ordering.{nat_cmp, ordering_then}
use Rattle.std.specs.declared.cmp.Ordering.{Ordering}
use Rattle.std.specs.declared.cmp.Ordering.TheVariants.{Less, Equal, Greater}
use Rattle.std.proofs.lemmas.Cmp.{ranked}
use Rattle.std.proofs.lemmas.Map.Keys.{sorted_head}
use Rattle.ring_range.specs.Range.{Range, IsRange, circle, holds}
use Rattle.hash_ring.specs.declared.Hashing.{Hashing}
use Rattle.directory_rules.specs.State.{Table}
use Rattle.directory_rules.specs.Table.{with_entry}
use Rattle.grain_table.specs.declared.hashed_grain.HashedGrain.{HashedGrain}
use Rattle.grain_table.specs.Hashed.{AreHashed, Hashed, IsKeyOf, entry_under, hashed_cmp, text_cmp}
use Rattle.grain_table.specs.Stretch.{is_between}
use Rattle.grain_table.proofs.Count.{are_behind}
use Rattle.grain_table.proofs.Filters.{same_passed}
use Rattle.grain_table.proofs.Put.{entries_under, put_in}

abbrev pub passed : (ℕ → Bool) → Hashed → Hashed
passed p es = filter (λ e. p e.0.hash) es

-- what keeps of keys, kept of what stands under them
pub under_keys : (hashing : Hashing) (P : HashedGrain → Type 0) → ((key : HashedGrain) → IsKeyOf hashing key → P key) → (es : Hashed)
    → AllByRecursion (IsKeyOf hashing) (keys_of es)
    → AllByRecursion (λ e. P e.0) es
under_keys hashing P each [] all = tt
under_keys hashing P each (e ∷ es) all = (each e.0 all.0, under_keys hashing P each es all.1)

one_test : (range : Range) (hash : ℕ) → IsRange range → range.start + range.size ≤ circle → hash < circle
    → is_between range.start (range.start + range.size) hash ≡ holds range hash
one_test range hash is fits below = let start = is.start_below in let size = is.size_within in grind (arith, nat_tests)

pub one_stretch : (hashing : Hashing) (range : Range) (es : Hashed) → AreHashed hashing es → IsRange range
    → range.start + range.size ≤ circle
    → passed (is_between range.start (range.start + range.size)) es ≡ passed (holds range) es
one_stretch hashing range es are is fits =
    same_passed (λ e. is_between range.start (range.start + range.size) e.0.hash) (λ e. holds range e.0.hash) es
    (under_keys hashing (λ key. is_between range.start (range.start + range.size) key.hash ≡ holds range key.hash)
    (λ key of. one_test range key.hash is fits of.below) es are.keys)

-- ---- A range that goes on over 0.
not_less : (a b : ℕ) (r : Ordering) → ordering_then (nat_cmp a b) r ≡ Less → a ≤ b
not_less a b r is = by (nat_cmp a b) refl is
  where
    by : (o : Ordering) → o ≡ nat_cmp a b → ordering_then o r ≡ Less → a ≤ b
    by Less ranks is = let below : a < b = ranked a b Less ranks in omega arith
    by Equal ranks is = let same : a ≡ b = ranked a b Equal ranks in omega arith
    by Greater ranks is = cc

module _ (range : Range) (low : ℕ) (is : IsRange range) (ends : range.start + range.size ≡ low + circle) where
  abbrev first : ℕ → Bool
  first hash = is_between 0 low hash

  abbrev second : ℕ → Bool
  second hash = is_between range.start circle hash

  none_later : (key : HashedGrain) → low ≤ key.hash → (es : Hashed) → AllByRecursion (λ k. hashed_cmp key k ≡ Less) (keys_of es)
      → passed first es ≡ []
  none_later key le [] above = refl
  none_later key le (e ∷ es) above =
      let later = not_less key.hash e.0.hash (text_cmp key.grain e.0.grain) above.0 in
      let not : first e.0.hash ≡ false = grind (arith, nat_tests) in
      ap (λ b. cond b (e ∷ passed first es) (passed first es)) not ∙ none_later key le es above.1

  two_tests : (hash : ℕ) → hash < circle → (a b : Bool) → first hash ≡ a → second hash ≡ b → holds range hash ≡ cond a true b
  two_tests hash below true b one other = let start = is.start_below in let size = is.size_within in grind (arith, nat_tests)
  two_tests hash below false true one other = let start = is.start_below in let size = is.size_within in grind (arith, nat_tests)
  two_tests hash below false false one other = let start = is.start_below in let size = is.size_within in grind (arith, nat_tests)

  apart : (hash : ℕ) → first hash ≡ true → second hash ≡ false
  apart hash one = let start = is.start_below in let size = is.size_within in grind (arith, nat_tests)

  high : (hash : ℕ) → second hash ≡ true → low ≤ hash
  high hash other = let start = is.start_below in let size = is.size_within in grind (arith, nat_tests)

  pub both_stretches : (hashing : Hashing) (es : Hashed) → AreHashed hashing es
      → passed first es ++ passed second es ≡ passed (holds range) es
  both_stretches hashing [] are = refl
  both_stretches hashing (e ∷ es) are =
      by (first e.0.hash) (second e.0.hash) refl refl (both_stretches hashing es (are_behind hashing e es are))
      ∙ ap (λ b. cond b (e ∷ passed (holds range) es) (passed (holds range) es))
      (sym (two_tests e.0.hash are.keys.0.below (first e.0.hash) (second e.0.hash) refl refl))
    where
      by : (a b : Bool) → first e.0.hash ≡ a → second e.0.hash ≡ b → passed first es ++ passed second es ≡ passed (holds range) es
          → cond a (e ∷ passed first es) (passed first es) ++ cond b (e ∷ passed second es) (passed second es)
          ≡ cond (cond a true b) (e ∷ passed (holds range) es) (passed (holds range) es)
      by true true one other rest = absurd (let no : true ≡ false = sym other ∙ apart e.0.hash one in cc)
      by true false one other rest = ap (λ l. e ∷ l) rest
      by false true one other rest =
          let none = none_later e.0 (high e.0.hash other) es (sorted_head hashed_cmp e.0 (keys_of es) are.in_order) in
          ap (λ l. l ++ e ∷ passed second es) none ∙ ap (λ l. e ∷ l) (ap (λ l. l ++ passed second es) (sym none) ∙ rest)
      by false false one other rest = rest

  put_both : (table : Table) (es others : Hashed) → put_in table (entries_under (es ++ others)) ≡ put_in (put_in table (entries_under es))
      (entries_under others)
  put_both table [] others = refl
  put_both table (e ∷ es) others = put_both (with_entry table (entry_under e)) es others

  pub two_stretches : (hashing : Hashing) (table : Table) (es : Hashed) → AreHashed hashing es
      → put_in (put_in table (entries_under (passed (is_between 0 low) es))) (entries_under (passed (is_between range.start circle) es))
      ≡ put_in table (entries_under (passed (holds range) es))
  two_stretches hashing table es are =
      sym (put_both table (passed first es) (passed second es)) ∙ ap (λ l. put_in table (entries_under l)) (both_stretches hashing es are)
