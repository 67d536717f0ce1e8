-- Requests under numbers, each its own: which of them a list has.
use Rattle.std.proofs.Common.{arith, ◌≡◌, ◌≢◌, refl, sym, ap, subst, ◌∙◌, ℕ, List, [], ◌∷◌, inl, inr}
use Rattle.std.specs.Prelude.{true, false, cond, ◌==◌, is_some, map, Contains, AllPairs, Option, Some, None}
use Rattle.std.specs.List.{cons_option}
use Rattle.std.specs.Ordering.{nat_cmp}
use Rattle.std.specs.Map.{lookup}
use Rattle.std.specs.BTreeMap.{is_at}
use Rattle.std.proofs.lemmas.Bool.{eqb-true}
use Rattle.std.proofs.lemmas.Map.Lookups.{exact_unsigned}
use Rattle.std.proofs.lemmas.List.Elements.{All-contains, Contains-append_left, Contains-append_right, Contains-append_cases}
use Rattle.texts.proofs.Orderings.{at_itself}
use Rattle.silo_address.specs.Grain.{Grain}
use Rattle.directory_rules.specs.declared.act.Act.{Act}
use Rattle.directory_rules.specs.declared.act.Act.TheVariants as act
use Rattle.directory_rules.proofs.Cases.{on_bool}
use Rattle.directory_facts.proofs.Entries.{same_key}
use Rattle.progress_rules.proofs.Answered.{only_one}
use Rattle.progress_rules.proofs.FindsSorted.{after_first, rest_pairs}
use Rattle.progress_rules.proofs.Quiet.{more_acts}

-- ---- entries under numbers
-- no two have one number
pub only_request : (es : List (ℕ × Act)) → AllPairs (λ e later. e.0 ≢ later.0) es → (x y : ℕ × Act) → Contains es x → Contains es y → x.0 ≡ y.0
    → x ≡ y
only_request [] pairs x y one two same = absurd (omega (arith, one.1))
only_request (e ∷ es) pairs x y one two same =
    elim (Contains-append_cases (e ∷ []) es x one) [
      | inl here ↦
          elim (Contains-append_cases (e ∷ []) es y two) [
            | inl too ↦ sym (only_one e x here) ∙ only_one e y too
            | inr there ↦ absurd (All-contains (λ (z : ℕ × Act). e.0 ≢ z.0) es y (after_first (λ z later. z.0 ≢ later.0) e es pairs) there
                (ap (λ (z : ℕ × Act). z.0) (only_one e x here) ∙ same))
          ]
      | inr there ↦
          elim (Contains-append_cases (e ∷ []) es y two) [
            | inl here ↦ absurd (All-contains (λ (z : ℕ × Act). e.0 ≢ z.0) es x (after_first (λ z later. z.0 ≢ later.0) e es pairs) there
                (ap (λ (z : ℕ × Act). z.0) (only_one e y here) ∙ sym same))
            | inr too ↦ only_request es (rest_pairs (λ z later. z.0 ≢ later.0) e es pairs) x y there too same
          ]
    ]

pub found_there : {X : Type 0} (n : ℕ) (x : X) (es : List (ℕ × X)) → Contains es (n, x) → is_some (lookup (is_at (nat_cmp n)) es) ≡ true
found_there n x [] has = absurd (omega (arith, has.1))
found_there n x (e ∷ es) has =
    on_bool (λ b. is_at (nat_cmp n) e.0 ≡ b → is_some (cond b (Some e.1) (lookup (is_at (nat_cmp n)) es)) ≡ true) (is_at (nat_cmp n) e.0)
    (λ t is. refl)
    (λ f not. elim (Contains-append_cases (e ∷ []) es (n, x) has) [
      | inl here ↦
          let same : e.0 ≡ n = ap (λ (y : ℕ × _). y.0) (only_one e (n, x) here) in
          let at = subst (λ k. is_at (nat_cmp k) e.0 ≡ true) same (at_itself e.0) in
          absurd (cc (at, not))
      | inr there ↦ found_there n x es there
    ]) refl

pub not_equal : (a b : ℕ) → a ≢ b → (a == b) ≡ false
not_equal a b apart = on_bool (λ c. (a == b) ≡ c → c ≡ false) (a == b) (λ t is. absurd (apart (eqb-true a b is))) (λ f is. refl) refl

pub not_at : (n k : ℕ) → n ≢ k → is_at (nat_cmp n) k ≡ false
not_at n k apart =
    on_bool (λ c. is_at (nat_cmp n) k ≡ c → c ≡ false) (is_at (nat_cmp n) k)
    (λ t is. absurd (apart (same_key nat_cmp exact_unsigned n k is))) (λ f is. refl) refl

-- ---- finds as requests
abbrev pub as_acts : List (ℕ × Grain) → List (ℕ × Act)
as_acts es = map (λ e. (e.0, act.Find e.1)) es

pub asked : (es : List (ℕ × Grain)) (y : ℕ × Grain) → Contains es y → Contains (as_acts es) (y.0, act.Find y.1)
asked [] y has = absurd (omega (arith, has.1))
asked (x ∷ xs) y has =
    elim (Contains-append_cases (x ∷ []) xs y has) [
      | inl here ↦ Contains-append_left ((x.0, act.Find x.1) ∷ []) (as_acts xs) (y.0, act.Find y.1)
          (0, omega arith, ap (λ (w : ℕ × Grain). (w.0, act.Find w.1)) (only_one x y here))
      | inr there ↦ Contains-append_right ((x.0, act.Find x.1) ∷ []) (as_acts xs) (y.0, act.Find y.1) (asked xs y there)
    ]

pub looked_for : (es : List (ℕ × Grain)) (x : ℕ × Act) → Contains (as_acts es) x → (y : ℕ × Grain) × Contains es y × ((y.0, act.Find y.1) ≡ x)
looked_for [] x has = absurd (omega (arith, has.1))
looked_for (e ∷ es) x has =
    elim (Contains-append_cases ((e.0, act.Find e.1) ∷ []) (as_acts es) x has) [
      | inl here ↦ (e, (0, omega arith, refl), only_one (e.0, act.Find e.1) x here)
      | inr there ↦ let rest = looked_for es x there in (rest.0, Contains-append_right (e ∷ []) es rest.0 rest.1, rest.2)
    ]

-- ---- what is in front goes to what is in front there, if it is wanted
module _ (P : ℕ × Act → Type 0) where
  pub cons_moves : (a b : Option (ℕ × Act)) (rest more : List (ℕ × Act)) (e : ℕ × Act) → P e → ((x : ℕ × Act) → P x → a ≡ Some x → b ≡ Some x)
      → (Contains rest e → Contains more e) → Contains (cons_option a rest) e → Contains (cons_option b more) e
  cons_moves None b rest more e is so later has = more_acts b more e (later has)
  cons_moves (Some y) b rest more e is so later has =
      elim (Contains-append_cases (y ∷ []) rest e has) [
        | inl here ↦ subst (λ o. Contains (cons_option o more) e) (sym (so e is (ap Some (only_one y e here)))) (0, omega arith, refl)
        | inr there ↦ more_acts b more e (later there)
      ]
