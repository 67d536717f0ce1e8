-- What a report that isn't the last leaves to tell: so many activations fewer as it has entries, and one at least; so one report fewer.
use Rattle.std.proofs.Common.{arith, ◌≡◌, refl, sym, ap, subst, ◌∙◌, ℕ, zero, suc, ◌+◌, ◌*◌, ◌-◌, ◌/◌, ◌≤◌, List, [], ◌∷◌, length, add-mul, div-mul-le_self}
use Rattle.std.specs.Prelude.{Bool, true, false, cond, ◌&&◌, ◌==◌, is_some, All, Contains, count_by, Option, Some, None}
use Rattle.std.specs.Map.{lookup}
use Rattle.std.specs.BTreeMap.{is_at}
use Rattle.std.proofs.lemmas.Bool.{and_parts, and_from, eqb-true}
use Rattle.std.proofs.lemmas.Nat.{le-div}
use Rattle.std.proofs.lemmas.List.Elements.{All-head, All-tail, All-contains_itself}
use Rattle.std.proofs.lemmas.List.Sums.{sum_by-cons, sum_by-append, count_by-le-length}
use Rattle.silo_address.specs.Grain.{Grain, grain_cmp}
use Rattle.silo_address.specs.declared.Entry.{Entry}
use Rattle.silo_address.proofs.Order.{grain_cmp_exact}
use Rattle.ring_range.specs.Range.{Range, holds}
use Rattle.hash_ring.specs.declared.Hashing.{Hashing}
use Rattle.hash_ring.specs.Hash.{hash_grain}
use Rattle.directory_rules.specs.declared.held.Held.{Held}
use Rattle.directory_rules.specs.Standing.{stands_behind, rise_behind, last_grain}
use Rattle.directory_rules.proofs.Cases.{on_bool}
use Rattle.directory_rules.proofs.Standings.{not_behind_itself, behind_both, rise_parts}
use Rattle.directory_facts.proofs.Entries.{same_key, found_so}
use Rattle.progress_rules.specs.Room.{report_count, held_behind}
use Rattle.progress_rules.proofs.Fewer.{split_at}
use Rattle.progress_rules.proofs.Sums.{le_same}

-- ---- how many pass a test
module _ {X : Type 0} (p q : X → Bool) (less : (x : X) → q x ≡ true → p x ≡ true) where
  no_more_pass : (xs : List X) → count_by q xs ≤ count_by p xs
  no_more_pass [] = le_same 0
  no_more_pass (x ∷ xs) =
      let rest = no_more_pass xs in
      let one = sum_by-cons (λ y. cond {A = ℕ} (p y) 1 0) x xs in
      let other = sum_by-cons (λ y. cond {A = ℕ} (q y) 1 0) x xs in
      let here : cond {A = ℕ} (q x) 1 0 ≤ cond {A = ℕ} (p x) 1 0 = on_bool (λ b. q x ≡ b → cond {A = ℕ} b 1 0 ≤ cond {A = ℕ} (p x) 1 0) (q x) (λ t is. let passes = ap (λ b. cond {A = ℕ} b 1 0) (less x is) in omega (arith, passes)) (λ f is. omega arith) refl in
      omega (arith, rest, one, other, here)

  -- fewer, where one passes the one test alone
  fewer_pass : (xs : List X) (x : X) → Contains xs x → p x ≡ true → q x ≡ false → count_by q xs + 1 ≤ count_by p xs
  fewer_pass xs x has passes fails =
      let split = split_at xs x has in
      let before = no_more_pass split.before in
      let after = no_more_pass split.after in
      let all = ap (count_by p) split.is ∙ sum_by-append (λ y. cond {A = ℕ} (p y) 1 0) split.before (x ∷ split.after) in
      let those = ap (count_by q) split.is ∙ sum_by-append (λ y. cond {A = ℕ} (q y) 1 0) split.before (x ∷ split.after) in
      let one = sum_by-cons (λ y. cond {A = ℕ} (p y) 1 0) x split.after in
      let other = sum_by-cons (λ y. cond {A = ℕ} (q y) 1 0) x split.after in
      let counts = ap (λ b. cond {A = ℕ} b 1 0) passes in
      let not = ap (λ b. cond {A = ℕ} b 1 0) fails in
      omega (arith, before, after, all, those, one, other, counts, not)

-- where one passes, some do
some_pass : {X : Type 0} (p : X → Bool) (xs : List X) (x : X) → Contains xs x → p x ≡ true → 1 ≤ count_by p xs
some_pass p xs x has passes =
    let split = split_at xs x has in
    let all = ap (count_by p) split.is ∙ sum_by-append (λ y. cond {A = ℕ} (p y) 1 0) split.before (x ∷ split.after) in
    let one = sum_by-cons (λ y. cond {A = ℕ} (p y) 1 0) x split.after in
    let counts = ap (λ b. cond {A = ℕ} b 1 0) passes in
    omega (arith, all, one, counts)

-- an activation of the grain is among these
abbrev pub Has : List (Grain × Held) → Grain → Type 0
Has held grain = is_some (lookup (is_at (grain_cmp grain)) held) ≡ true

has_one : (held : List (Grain × Held)) (grain : Grain) → Has held grain → (its : Held) × Contains held (grain, its)
has_one held grain has = by (lookup (is_at (grain_cmp grain)) held) refl has
  where
    by : (o : Option Held) → lookup (is_at (grain_cmp grain)) held ≡ o → is_some o ≡ true → (its : Held) × Contains held (grain, its)
    by None none is = absurd (cc (is))
    by (Some its) found is =
        let one = found_so (λ (e : Grain × Held). Contains held e) (is_at (grain_cmp grain)) its held (All-contains_itself held) found in
        (its, subst (λ g. Contains held (g, its)) (sym (same_key grain_cmp grain_cmp_exact grain one.0 one.1)) one.2)

module _ (hashing : Hashing) (held : List (Grain × Held)) (range : Range) where
  abbrev hash : Grain → ℕ
  hash = hash_grain hashing

  abbrev behind : Option Grain → Grain → Bool
  behind after grain = stands_behind hash (range ∷ []) after grain

  abbrev counted : Option Grain → (Grain × Held) → Bool
  counted after e = holds range (hash e.0) && behind after e.0

  -- what stands behind a grain that stands behind another stands behind that
  less : (after : Option Grain) (grain : Grain) → behind after grain ≡ true → (e : Grain × Held) → counted (Some grain) e ≡ true
      → counted after e ≡ true
  less after grain is e so =
      let parts = and_parts (holds range (hash e.0)) (behind (Some grain) e.0) so in
      and_from (holds range (hash e.0)) (behind after e.0) parts.0 (behind_both hash (range ∷ []) after grain e.0 is parts.1)

  one_fewer : (after : Option Grain) (grain : Grain) → Has held grain → holds range (hash grain) ≡ true → behind after grain ≡ true
      → held_behind hashing held range (Some grain) + 1 ≤ held_behind hashing held range after
  one_fewer after grain has lies is =
      let its = has_one held grain has in
      fewer_pass (counted after) (counted (Some grain)) (less after grain is) held (grain, its.0) its.1
      (and_from (holds range (hash grain)) (behind after grain) lies is)
      (ap (λ b. holds range (hash grain) && b) (not_behind_itself hash (range ∷ []) grain) ∙ none_of (holds range (hash grain)))
    where
      none_of : (b : Bool) → (b && false) ≡ false
      none_of true = refl
      none_of false = refl

  -- so many fewer behind the last of some entries
  pub passed : (after : Option Grain) (es : List Entry) → rise_behind hash (range ∷ []) after es ≡ true → All (λ e. Has held e.grain) es
      → All (λ e. holds range (hash e.grain) ≡ true) es
      → held_behind hashing held range (last_grain after es) + length es ≤ held_behind hashing held range after
  passed after [] rises has lie = omega arith
  passed after (e ∷ es) rises has lie =
      let so = rise_parts hash (range ∷ []) after e es rises in
      let here = one_fewer after e.grain (All-head (λ (x : Entry). Has held x.grain) e es has) (All-head (λ (x : Entry). holds range (hash x.grain) ≡ true) e es lie) so.0 in
      let rest = passed (Some e.grain) es so.1 (All-tail (λ (x : Entry). Has held x.grain) e es has)
      (All-tail (λ (x : Entry). holds range (hash x.grain) ≡ true) e es lie) in
      omega (arith, here, rest)

  -- and one at least, where one stands there
  pub one_behind : (after : Option Grain) (grain : Grain) → Has held grain → holds range (hash grain) ≡ true → behind after grain ≡ true
      → 1 ≤ held_behind hashing held range after
  one_behind after grain has lies is =
      let its = has_one held grain has in
      some_pass (counted after) held (grain, its.0) its.1
      (and_from (holds range (hash grain)) (behind after grain) lies is)

  pub behind_few : (after : Option Grain) → held_behind hashing held range after ≤ length held
  behind_few after = count_by-le-length (counted after) held

-- ---- reports
not_none : (n : ℕ) → 1 ≤ n → (n == 0) ≡ false
not_none n some = on_bool (λ b. (n == 0) ≡ b → b ≡ false) (n == 0) (λ t is. let none = eqb-true n 0 is in absurd (omega (arith, none, some))) (λ f is. refl) refl

count_is : (size n : ℕ) → 1 ≤ n → report_count size n ≡ (n + (size - 1)) / size
count_is size n some = ap (λ b. cond {A = ℕ} b 1 ((n + (size - 1)) / size)) (not_none n some)

pub one_report : (size n : ℕ) → 1 ≤ size → 1 ≤ report_count size n
one_report size n above =
    on_bool (λ b. (n == 0) ≡ b → 1 ≤ cond {A = ℕ} b 1 ((n + (size - 1)) / size)) (n == 0) (λ t is. le_same 1)
    (λ f is. le-div 1 (n + (size - 1)) size (omega (arith, above)) (many is)) refl
  where
    many : (n == 0) ≡ false → 1 * size ≤ n + (size - 1)
    many is = by n is
      where
        by : (k : ℕ) → (k == 0) ≡ false → 1 * size ≤ k + (size - 1)
        by zero none = absurd (cc (none))
        by (suc k) some = omega (arith, above)

pub one_report_fewer : (size left n : ℕ) → 1 ≤ size → 1 ≤ left → left + size ≤ n → report_count size left + 1 ≤ report_count size n
one_report_fewer size left n above some fewer =
    let q = (left + (size - 1)) / size in
    let whole = div-mul-le_self (left + (size - 1)) size in
    let parts = add-mul q 1 size in
    let goes = le-div (q + 1) (n + (size - 1)) size (omega (arith, above)) (omega (arith, whole, parts, fewer, above)) in
    let one = count_is size left some in
    let other = count_is size n (omega (arith, some, fewer)) in
    omega (arith, goes, one, other)

pub no_more_reports : (size few many : ℕ) → 1 ≤ size → few ≤ many → report_count size few ≤ report_count size many
no_more_reports size few many above less =
    on_bool (λ b. (few == 0) ≡ b → cond {A = ℕ} b 1 ((few + (size - 1)) / size) ≤ report_count size many) (few == 0)
    (λ t is. one_report size many above)
    (λ f is.
    let q = (few + (size - 1)) / size in
    let whole = div-mul-le_self (few + (size - 1)) size in
    let goes = le-div q (many + (size - 1)) size (omega (arith, above)) (omega (arith, whole, less)) in
    let some : 1 ≤ many = above_none few is less in
    let other = count_is size many some in
    omega (arith, goes, other)) refl
  where
    above_none : (k : ℕ) → (k == 0) ≡ false → k ≤ many → 1 ≤ many
    above_none zero none is = absurd (cc (none))
    above_none (suc k) some is = omega (arith, is)
