-- A page of a list has as many entries as one of its number may have.
use Rattle.std.proofs.Common.{arith, ◌≡◌, refl, ap, ◌∙◌, ℕ, ◌+◌, ◌*◌, ◌/◌, ◌<◌, ◌≤◌, List, [], ◌∷◌, length, take, drop}
use Rattle.std.specs.Prelude.{◌==◌, ◌&&◌, ◌||◌, nat_lt, nat_le, true, cond, if◌then◌else◌}
use Rattle.std.specs.Cmp.Lexicographic.{pointwise}
use Rattle.std.proofs.lemmas.Bool.{and_from, eq-eqb, le-leb, lt-ltb, ltb-true, or_right}
use Rattle.std.proofs.lemmas.List.{length-take, length-drop}
use Rattle.silo_address.specs.declared.Entry.{Entry}
use Rattle.directory_rules.specs.Settings.{page_size}
use Rattle.directory_rules.specs.Snapshot.{page_count, page_entries}
use Rattle.directory_rules.specs.Gatherings.{is_entry_count}
use Rattle.directory_rules.proofs.Cases.{on_bool}

pub same_bytes : (bytes : List ℕ) → pointwise ◌==◌ bytes bytes ≡ true
same_bytes [] = refl
same_bytes (b ∷ bs) = ap (λ t. t && pointwise ◌==◌ bs bs) (eq-eqb b b refl) ∙ same_bytes bs

-- how many entries a page has
at_most : {X : Type 0} (n : ℕ) (xs : List X) → length (take n xs) ≤ n
at_most n xs = let taken = length-take n xs in omega (taken, arith)

full_page : {X : Type 0} (k : ℕ) (xs : List X) → (k + 1) * page_size ≤ length xs
    → length (take page_size (drop (k * page_size) xs)) ≡ page_size
full_page k xs enough =
    let taken = length-take page_size (drop (k * page_size) xs) in let left = length-drop (k * page_size) xs in
    omega (taken, left, enough, arith)

some_on_page : {X : Type 0} (k : ℕ) (xs : List X) → k * page_size < length xs → 0 < length (take page_size (drop (k * page_size) xs))
some_on_page k xs less =
    let taken = length-take page_size (drop (k * page_size) xs) in let left = length-drop (k * page_size) xs in
    omega (taken, left, less, arith)

-- how many pages there are
full_before : (n k : ℕ) → k + 1 < page_count n → (k + 1) * page_size ≤ n
full_before n k less =
    on_bool (λ b. k + 1 < (if b then 1 else (n + 63) / page_size) → (k + 1) * page_size ≤ n) (n == 0) (λ t one. absurd (omega (one, arith)))
    (λ f many. omega (many, arith)) less

one_or_some : (n k : ℕ) → k < page_count n → (nat_lt (k * page_size) n || (page_count n == 1)) ≡ true
one_or_some n k less =
    on_bool (λ b. k < (if b then 1 else (n + 63) / page_size)
    → (nat_lt (k * page_size) n || ((if b then 1 else (n + 63) / page_size) == 1)) ≡ true) (n == 0)
    (λ t one. or_right (nat_lt (k * page_size) n) true refl)
    (λ f many. ap (λ t. t || ((n + 63) / page_size == 1)) (lt-ltb (k * page_size) n (omega (many, arith)))) less

module _ (all : List Entry) where
  abbrev count : ℕ
  count = page_count (length all)

  pub counted : (k : ℕ) → k < count → is_entry_count k count (length (page_entries k all)) ≡ true
  counted k less =
      on_bool (λ b. nat_lt (k + 1) count ≡ b → cond b (length (page_entries k all) == page_size)
      (nat_le (length (page_entries k all)) page_size && (nat_lt 0 (length (page_entries k all)) || (count == 1))) ≡ true)
      (nat_lt (k + 1) count)
      (λ t is. eq-eqb (length (page_entries k all)) page_size (full_page k all (full_before (length all) k (ltb-true (k + 1) count is))))
      (λ f is. and_from (nat_le (length (page_entries k all)) page_size) (nat_lt 0 (length (page_entries k all)) || (count == 1))
      (le-leb (length (page_entries k all)) page_size (at_most page_size (drop (k * page_size) all)))
      (on_bool (λ b. nat_lt (k * page_size) (length all) ≡ b → (b || (count == 1)) ≡ true
      → (nat_lt 0 (length (page_entries k all)) || (count == 1)) ≡ true) (nat_lt (k * page_size) (length all))
      (λ t below so. ap (λ b. b || (count == 1)) (lt-ltb 0 (length (page_entries k all))
      (some_on_page k all (ltb-true (k * page_size) (length all) below))))
      (λ f not so. or_right (nat_lt 0 (length (page_entries k all))) (count == 1) so) refl (one_or_some (length all) k less)))
      refl
