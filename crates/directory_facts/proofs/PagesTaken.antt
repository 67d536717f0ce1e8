-- The pages of a list, one after the other.
use Rattle.std.proofs.Common.{arith, ◌≡◌, ℕ, zero, suc, ◌+◌, ◌*◌, ◌/◌, ◌≤◌, List, [], ◌∷◌, ◌++◌, length, take, drop, refl, sym, ap, ◌∙◌}
use Rattle.std.specs.Prelude.{◌==◌, if◌then◌else◌}
use Rattle.std.proofs.lemmas.Bool.{eqb-true}
use Rattle.std.proofs.lemmas.List.{take_all}
use Rattle.silo_address.specs.declared.Entry.{Entry}
use Rattle.directory_rules.specs.Settings.{page_size}
use Rattle.directory_rules.specs.Snapshot.{page_count, page_entries}
use Rattle.directory_rules.proofs.Cases.{on_bool}

-- ---- pages of a list
take_more : {X : Type 0} (a b : ℕ) (xs : List X) → take a xs ++ take b (drop a xs) ≡ take (a + b) xs
take_more zero b xs = let same : b ≡ zero + b = omega arith in ap (λ n. take n xs) same
take_more (suc a) b [] = take_all b [] (omega arith) ∙ sym (take_all (suc a + b) [] (omega arith))
take_more (suc a) b (x ∷ xs) =
    let same : suc (a + b) ≡ suc a + b = omega arith in ap (λ l. x ∷ l) (take_more a b xs) ∙ ap (λ n. take n (x ∷ xs)) same

-- one page more
pub page_more : (n : ℕ) (all : List Entry) → take (n * page_size) all ++ page_entries n all ≡ take ((n + 1) * page_size) all
page_more n all =
    let same : n * page_size + page_size ≡ (n + 1) * page_size = omega arith in take_more (n * page_size) page_size all
    ∙ ap (λ k. take k all) same

pages_enough : (n : ℕ) → n ≤ page_count n * page_size
pages_enough n =
    on_bool (λ b. (n == 0) ≡ b → n ≤ (if b then 1 else (n + 63) / page_size) * page_size) (n == 0)
    (λ t is. let none = eqb-true n 0 is in omega (none, arith)) (λ f is. omega arith) refl

-- the last page is there
pub all_pages : (n : ℕ) (all : List Entry) → page_count (length all) ≤ n → take (n * page_size) all ≡ all
all_pages n all le = let enough = pages_enough (length all) in take_all (n * page_size) all (omega (enough, le, arith))
