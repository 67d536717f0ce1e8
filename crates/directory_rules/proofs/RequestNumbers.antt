-- The numbers of a host's requests, counted: how often a number occurs, before a change and after it.
use Rattle.std.proofs.Common.{arith, ◌≡◌, refl, sym, ap, ◌∙◌, ℕ, List, [], ◌∷◌, ◌++◌, ◌+◌, ◌≤◌, length, map}
use Rattle.std.specs.Prelude.{Bool, cond, ◌==◌}
use Rattle.std.specs.Ordering.{nat_cmp, match_ordering}
use Rattle.std.specs.declared.cmp.Ordering.{Ordering}
use Rattle.std.specs.declared.cmp.Ordering.TheVariants.{Less, Equal, Greater}
use Rattle.std.specs.Map.{keys_of, set_value, remove_entry}
use Rattle.std.specs.BTreeMap.{insert_entry}
use Rattle.std.proofs.lemmas.Bool.{eqb-true}
use Rattle.std.proofs.lemmas.Map.Lookups.{exact_unsigned}
use Rattle.silo_address.specs.Grain.{Grain}
use Rattle.directory_rules.specs.declared.held.Held.{Held}
use Rattle.directory_rules.specs.declared.held.Phase.{Phase}
use Rattle.directory_rules.specs.declared.held.Phase.TheVariants.{Asking, Firm, Closing}
use Rattle.directory_rules.proofs.Cases.{on_bool}

-- 1 where the two are the same number
unfoldable pub one : ℕ → ℕ → ℕ
one n k = cond (k == n) 1 0

-- how often a number occurs
abbrev pub times : ℕ → List ℕ → ℕ
times n [] = 0
times n (k ∷ ks) = one n k + times n ks

-- the numbers, with that of the phase's request in front if it has one
abbrev pub with_number : Phase → List ℕ → List ℕ
with_number (Asking k) ks = k ∷ ks
with_number Firm ks = ks
with_number (Closing k) ks = k ∷ ks

-- the numbers of the activations' requests
abbrev pub numbers : List (Grain × Held) → List ℕ
numbers [] = []
numbers (e ∷ es) = with_number e.1.phase (numbers es)

pub one_same : (n : ℕ) → one n n ≡ 1
unfolding one
one_same n = grind arith

pub one_cases : (P : ℕ → Type 0) (n k : ℕ) → (k ≡ n → P 1) → P 0 → P (one n k)
unfolding one
one_cases P n k same other = on_bool (λ b. P (cond b 1 0)) (k == n) (λ t. same (eqb-true k n t)) (λ f. other)

pub times_append : (n : ℕ) (xs ys : List ℕ) → times n (xs ++ ys) ≡ times n xs + times n ys
times_append n [] ys = omega arith
times_append n (x ∷ xs) ys = let later = times_append n xs ys in omega (later, arith)

pub times_phase : (n : ℕ) (phase : Phase) (ks : List ℕ) → times n (with_number phase ks) ≡ times n (with_number phase []) + times n ks
times_phase n (Asking k) ks = omega arith
times_phase n Firm ks = omega arith
times_phase n (Closing k) ks = omega arith

-- lists one behind the other, also with each number mapped, or each under its number
pub times_mapped : (n : ℕ) (f : ℕ → ℕ) (xs ys : List ℕ) → times n (map f (xs ++ ys)) ≡ times n (map f xs) + times n (map f ys)
times_mapped n f [] ys = omega arith
times_mapped n f (x ∷ xs) ys = let later = times_mapped n f xs ys in omega (later, arith)

pub times_keys : {X : Type 0} (n : ℕ) (xs ys : List (ℕ × X)) → times n (keys_of (xs ++ ys)) ≡ times n (keys_of xs) + times n (keys_of ys)
times_keys n [] ys = omega arith
times_keys n (x ∷ xs) ys = let later = times_keys n xs ys in omega (later, arith)

-- an entry goes
pub times_removed : (n : ℕ) (test : Grain → Bool) (es : List (Grain × Held))
    → times n (numbers (remove_entry test es)) ≤ times n (numbers es)
times_removed n test [] = omega arith
times_removed n test (e ∷ es) =
    let here = times_phase n e.1.phase (numbers es) in
    let there = times_phase n e.1.phase (numbers (remove_entry test es)) in
    let later = times_removed n test es in
    on_bool (λ b. times n (numbers (cond b es (e ∷ remove_entry test es))) ≤ times n (numbers (e ∷ es))) (test e.0)
    (λ t. omega (here, arith)) (λ f. omega (here, there, later, arith))

-- an entry has another value
pub times_set : (n : ℕ) (test : Grain → Bool) (es : List (Grain × Held)) (held : Held)
    → times n (numbers (set_value test es held)) ≤ times n (numbers es) + times n (with_number held.phase [])
times_set n test [] held = omega arith
times_set n test (e ∷ es) held =
    let here = times_phase n e.1.phase (numbers es) in
    let set = times_phase n held.phase (numbers es) in
    let there = times_phase n e.1.phase (numbers (set_value test es held)) in
    let later = times_set n test es held in
    on_bool (λ b. times n (numbers (cond b ((e.0, held) ∷ es) (e ∷ set_value test es held))) ≤ times n (numbers (e ∷ es)) + times n
    (with_number held.phase [])) (test e.0)
    (λ t. omega (here, set, arith)) (λ f. omega (here, there, later, arith))

-- an entry comes at the end
pub times_pushed : (n : ℕ) (es : List (Grain × Held)) (e : Grain × Held)
    → times n (numbers (es ++ e ∷ [])) ≡ times n (numbers es) + times n (with_number e.1.phase [])
times_pushed n [] e = omega arith
times_pushed n (x ∷ xs) e =
    let here = times_phase n x.1.phase (numbers xs) in
    let there = times_phase n x.1.phase (numbers (xs ++ e ∷ [])) in
    let later = times_pushed n xs e in
    omega (here, there, later, arith)

-- a find goes
pub times_unfound : (n : ℕ) (test : ℕ → Bool) (es : List (ℕ × Grain)) → times n (keys_of (remove_entry test es)) ≤ times n (keys_of es)
times_unfound n test [] = omega arith
times_unfound n test (e ∷ es) =
    let later = times_unfound n test es in
    on_bool (λ b. times n (keys_of (cond b es (e ∷ remove_entry test es))) ≤ times n (keys_of (e ∷ es))) (test e.0)
    (λ t. omega arith) (λ f. omega (later, arith))

-- an entry comes under a number: then that number occurs, and no number occurs less often, nor another more often
module _ {X : Type 0} where
  pub times_put_most : (n : ℕ) (es : List (ℕ × X)) (k : ℕ) (x : X)
      → times n (keys_of (insert_entry nat_cmp es k x)) ≤ times n (keys_of es) + one n k
  times_put_most n [] k x = omega arith
  times_put_most n (e ∷ es) k x = by (nat_cmp k e.0) (times_put_most n es k x)
    where
      by : (r : Ordering) → times n (keys_of (insert_entry nat_cmp es k x)) ≤ times n (keys_of es) + one n k
          → times n (keys_of (match_ordering r ((k, x) ∷ e ∷ es) ((e.0, x) ∷ es) (e ∷ insert_entry nat_cmp es k x))) ≤ times n
          (keys_of (e ∷ es)) + one n k
      by Less later = omega arith
      by Equal later = omega arith
      by Greater later = omega (later, arith)

  pub times_put_least : (n : ℕ) (es : List (ℕ × X)) (k : ℕ) (x : X) → times n (keys_of es) ≤ times n (keys_of (insert_entry nat_cmp es k x))
  times_put_least n [] k x = omega arith
  times_put_least n (e ∷ es) k x = by (nat_cmp k e.0) (times_put_least n es k x)
    where
      by : (r : Ordering) → times n (keys_of es) ≤ times n (keys_of (insert_entry nat_cmp es k x))
          → times n (keys_of (e ∷ es)) ≤ times n (keys_of
          (match_ordering r ((k, x) ∷ e ∷ es) ((e.0, x) ∷ es) (e ∷ insert_entry nat_cmp es k x)))
      by Less later = omega arith
      by Equal later = omega arith
      by Greater later = omega (later, arith)

  pub times_put : (es : List (ℕ × X)) (k : ℕ) (x : X) → 1 ≤ times k (keys_of (insert_entry nat_cmp es k x))
  times_put [] k x = let same = one_same k in omega (same, arith)
  times_put (e ∷ es) k x = by (nat_cmp k e.0) refl (times_put es k x)
    where
      by : (r : Ordering) → nat_cmp k e.0 ≡ r → 1 ≤ times k (keys_of (insert_entry nat_cmp es k x))
          → 1 ≤ times k (keys_of (match_ordering r ((k, x) ∷ e ∷ es) ((e.0, x) ∷ es) (e ∷ insert_entry nat_cmp es k x)))
      by Less h later = let same = one_same k in omega (same, arith)
      by Equal h later = let same = ap (one k) (sym (exact_unsigned k e.0 h)) ∙ one_same k in omega (same, arith)
      by Greater h later = omega (later, arith)

  -- one entry more, under a number that is new
  pub length_put : (es : List (ℕ × X)) (k : ℕ) (x : X) → times k (keys_of es) ≡ 0 → length (insert_entry nat_cmp es k x) ≡ length es + 1
  length_put [] k x new = omega arith
  length_put (e ∷ es) k x new = by (nat_cmp k e.0) refl (length_put es k x (omega (new, arith)))
    where
      by : (r : Ordering) → nat_cmp k e.0 ≡ r → length (insert_entry nat_cmp es k x) ≡ length es + 1
          → length (match_ordering r ((k, x) ∷ e ∷ es) ((e.0, x) ∷ es) (e ∷ insert_entry nat_cmp es k x)) ≡ length (e ∷ es) + 1
      by Less h later = omega arith
      by Equal h later = let same = ap (one k) (sym (exact_unsigned k e.0 h)) ∙ one_same k in absurd (omega (same, new, arith))
      by Greater h later = omega (later, arith)
