-- Activations in rising counts, each of a grain of its own: one more among them, one less, one changed.
use Rattle.std.proofs.Common.{◌≡◌, refl, sym, ap, subst, ◌∙◌, ℕ, ◌+◌, ◌<◌, List, [], ◌∷◌, ◌++◌, length, cond, Bool, true, false, Some, None, arith}
use Rattle.std.specs.Prelude.{⊤, nat_lt, fold}
use Rattle.std.specs.List.{AllByRecursion}
use Rattle.std.specs.Map.{lookup, set_value, remove_entry}
use Rattle.std.specs.BTreeMap.{is_at}
use Rattle.std.proofs.lemmas.Bool.Decides.{nat_tests}
use Rattle.std.proofs.lemmas.Bool.{ltb-true}
use Rattle.silo_address.specs.Grain.{Grain, grain_cmp}
use Rattle.directory_rules.specs.declared.Held.{Held}
use Rattle.host_activations.specs.InOrder.{placed}
use Rattle.host_activations.proofs.Grains.{either, on_grain, all_map}

-- two activations of different grains, which began at different counts
abbrev pub Apart : Grain × Held → Grain × Held → Type 0
Apart x y = (x.0 ≡ y.0 → ⊥) × (x.1.count ≡ y.1.count → ⊥)

-- and one that began before the other
abbrev pub Before : Grain × Held → Grain × Held → Type 0
Before x y = (x.0 ≡ y.0 → ⊥) × (x.1.count < y.1.count)

abbrev pub IsRow : List (Grain × Held) → Type 0
IsRow [] = ⊤
IsRow (x ∷ xs) = AllByRecursion (Before x) xs × IsRow xs

abbrev pub AllApart : List (Grain × Held) → Type 0
AllApart [] = ⊤
AllApart (x ∷ xs) = AllByRecursion (Apart x) xs × AllApart xs

pub flip : (x y : Grain × Held) → Apart x y → Apart y x
flip x y apart = (λ same. apart.0 (sym same), λ same. apart.1 (sym same))

is_above : (a b : ℕ) → nat_lt a b ≡ false → (a ≡ b → ⊥) → b < a
is_above a b is apart = grind (arith, nat_tests)

not_below : (a b : ℕ) → b < a → nat_lt a b ≡ false
not_below a b above = grind (arith, nat_tests)

-- ---- One more.
pub all_placed : (P : Grain × Held → Type 0) (xs : List (Grain × Held)) (e : Grain × Held) → AllByRecursion P xs → P e
    → AllByRecursion P (placed xs e)
all_placed P [] e all one = (one, tt)
all_placed P (x ∷ xs) e all one = by (nat_lt e.1.count x.1.count) (all_placed P xs e all.1 one)
  where
    by : (b : Bool) → AllByRecursion P (placed xs e) → AllByRecursion P (cond b (e ∷ x ∷ xs) (x ∷ placed xs e))
    by true later = (one, all)
    by false later = (all.0, later)

before_all : (e x : Grain × Held) (xs : List (Grain × Held)) → e.1.count < x.1.count → AllByRecursion (Before x) xs
    → AllByRecursion (Apart e) xs → AllByRecursion (Before e) xs
before_all e x [] below before apart = tt
before_all e x (y ∷ xs) below before apart =
    ((apart.0.0, let then = before.0.1 in omega (below, then, arith)), before_all e x xs below before.1 apart.1)

pub row_placed : (xs : List (Grain × Held)) (e : Grain × Held) → IsRow xs → AllByRecursion (Apart e) xs → IsRow (placed xs e)
row_placed [] e row apart = (tt, tt)
row_placed (x ∷ xs) e row apart = by (nat_lt e.1.count x.1.count) refl (row_placed xs e row.1 apart.1)
  where
    by : (b : Bool) → nat_lt e.1.count x.1.count ≡ b → IsRow (placed xs e) → IsRow (cond b (e ∷ x ∷ xs) (x ∷ placed xs e))
    by true is later =
        let below : e.1.count < x.1.count = ltb-true e.1.count x.1.count is in
        (((apart.0.0, below), before_all e x xs below row.0 apart.1), row)
    by false is later =
        (all_placed (Before x) xs e row.0 ((λ same. apart.0.0 (sym same)), is_above e.1.count x.1.count is apart.0.1), later)

swapped : {A : Type 0} (b c : Bool) (x y z : A) → (b ≡ true → c ≡ true → ⊥) → cond b x (cond c y z) ≡ cond c y (cond b x z)
swapped true true x y z never = absurd (never refl refl)
swapped true false x y z never = refl
swapped false c x y z never = refl

pub lookup_placed : (q : Grain) (xs : List (Grain × Held)) (e : Grain × Held) → AllByRecursion (Apart e) xs
    → lookup (is_at (grain_cmp q)) (placed xs e) ≡ cond (is_at (grain_cmp q) e.0) (Some e.1) (lookup (is_at (grain_cmp q)) xs)
lookup_placed q [] e apart = refl
lookup_placed q (x ∷ xs) e apart = by (nat_lt e.1.count x.1.count) (lookup_placed q xs e apart.1)
  where
    never : is_at (grain_cmp q) x.0 ≡ true → is_at (grain_cmp q) e.0 ≡ true → ⊥
    never =
        on_grain (λ b. b ≡ true → is_at (grain_cmp q) e.0 ≡ true → ⊥) q x.0
        (λ same yes. on_grain (λ b. b ≡ true → ⊥) q e.0 (λ also so. apart.0.0 (sym also ∙ same)) (λ other so. cc)) (λ other no. cc)

    by : (b : Bool) → lookup (is_at (grain_cmp q)) (placed xs e) ≡ cond (is_at (grain_cmp q) e.0) (Some e.1)
        (lookup (is_at (grain_cmp q)) xs)
        → lookup (is_at (grain_cmp q)) (cond b (e ∷ x ∷ xs) (x ∷ placed xs e))
        ≡ cond (is_at (grain_cmp q) e.0) (Some e.1) (cond (is_at (grain_cmp q) x.0) (Some x.1) (lookup (is_at (grain_cmp q)) xs))
    by true later = refl
    by false later =
        ap (λ o. cond (is_at (grain_cmp q) x.0) (Some x.1) o) later
        ∙ swapped (is_at (grain_cmp q) x.0) (is_at (grain_cmp q) e.0) (Some x.1) (Some e.1) (lookup (is_at (grain_cmp q)) xs) never

pub length_placed : (xs : List (Grain × Held)) (e : Grain × Held) → length (placed xs e) ≡ length xs + 1
length_placed [] e = refl
length_placed (x ∷ xs) e = by (nat_lt e.1.count x.1.count) (length_placed xs e)
  where
    by : (b : Bool) → length (placed xs e) ≡ length xs + 1 → length (cond b (e ∷ x ∷ xs) (x ∷ placed xs e)) ≡ length (x ∷ xs) + 1
    by true later = omega arith
    by false later = omega (later, arith)

-- one that began after all others comes last
pub placed_last : (xs : List (Grain × Held)) (e : Grain × Held) → AllByRecursion (λ x. x.1.count < e.1.count) xs
    → placed xs e ≡ xs ++ e ∷ []
placed_last [] e all = refl
placed_last (x ∷ xs) e all =
    ap (λ b. cond b (e ∷ x ∷ xs) (x ∷ placed xs e)) (not_below e.1.count x.1.count all.0) ∙ ap (λ l. x ∷ l) (placed_last xs e all.1)

-- ---- Many more.
fresh_on : (e : Grain × Held) (acc es : List (Grain × Held)) → AllByRecursion (Apart e) es
    → AllByRecursion (λ x. AllByRecursion (Apart x) acc) es
    → AllByRecursion (λ x. AllByRecursion (Apart x) (placed acc e)) es
fresh_on e acc [] apart fresh = tt
fresh_on e acc (x ∷ es) apart fresh = (all_placed (Apart x) acc e fresh.0 (flip e x apart.0), fresh_on e acc es apart.1 fresh.1)

-- with others that none of these is, or began at the count of
pub row_spread : (acc es : List (Grain × Held)) → IsRow acc → AllApart es → AllByRecursion (λ x. AllByRecursion (Apart x) acc) es
    → IsRow (fold placed acc es)
row_spread acc [] row apart fresh = row
row_spread acc (e ∷ es) row apart fresh =
    row_spread (placed acc e) es (row_placed acc e row fresh.0) apart.1 (fresh_on e acc es apart.0 fresh.1)

pub all_spread : (P : Grain × Held → Type 0) (acc es : List (Grain × Held)) → AllByRecursion P acc → AllByRecursion P es
    → AllByRecursion P (fold placed acc es)
all_spread P acc [] all more = all
all_spread P acc (e ∷ es) all more = all_spread P (placed acc e) es (all_placed P acc e all more.0) more.1

pub length_spread : (acc es : List (Grain × Held)) → length (fold placed acc es) ≡ length acc + length es
length_spread acc [] = omega arith
length_spread acc (e ∷ es) = let more = length_spread (placed acc e) es in let one = length_placed acc e in omega (more, one, arith)

-- none of the grain of one that is apart from all
pub absent : (q : Grain) (e : Grain × Held) (es : List (Grain × Held)) → q ≡ e.0 → AllByRecursion (λ x. e.0 ≡ x.0 → ⊥) es
    → lookup (is_at (grain_cmp q)) es ≡ None
absent q e [] is apart = refl
absent q e (x ∷ es) is apart =
    on_grain (λ b. cond b (Some x.1) (lookup (is_at (grain_cmp q)) es) ≡ None) q x.0 (λ same. absurd (apart.0 (sym is ∙ same)))
    (λ other. absent q e es is apart.1)

pub lookup_spread : (q : Grain) (acc es : List (Grain × Held)) → AllApart es → AllByRecursion (λ x. AllByRecursion (Apart x) acc) es
    → lookup (is_at (grain_cmp q)) (fold placed acc es) ≡ either (lookup (is_at (grain_cmp q)) es) (lookup (is_at (grain_cmp q)) acc)
lookup_spread q acc [] apart fresh = refl
lookup_spread q acc (e ∷ es) apart fresh =
    lookup_spread q (placed acc e) es apart.1 (fresh_on e acc es apart.0 fresh.1)
    ∙ ap (λ o. either (lookup (is_at (grain_cmp q)) es) o) (lookup_placed q acc e fresh.0)
    ∙ on_grain (λ b. either (lookup (is_at (grain_cmp q)) es) (cond b (Some e.1) (lookup (is_at (grain_cmp q)) acc))
    ≡ either (cond b (Some e.1) (lookup (is_at (grain_cmp q)) es)) (lookup (is_at (grain_cmp q)) acc)) q e.0
    (λ same. ap (λ o. either o (Some e.1)) (absent q e es same (all_map (Apart e) (λ x. e.0 ≡ x.0 → ⊥) es (λ x p. p.0) apart.0)))
    (λ other. refl)

-- ---- One less, and one changed.
all_removed : (P : Grain × Held → Type 0) (test : Grain → Bool) (xs : List (Grain × Held)) → AllByRecursion P xs
    → AllByRecursion P (remove_entry test xs)
all_removed P test [] all = tt
all_removed P test (x ∷ xs) all = by (test x.0) (all_removed P test xs all.1)
  where
    by : (b : Bool) → AllByRecursion P (remove_entry test xs) → AllByRecursion P (cond b xs (x ∷ remove_entry test xs))
    by true later = all.1
    by false later = (all.0, later)

pub row_removed : (test : Grain → Bool) (xs : List (Grain × Held)) → IsRow xs → IsRow (remove_entry test xs)
row_removed test [] row = tt
row_removed test (x ∷ xs) row = by (test x.0) (row_removed test xs row.1)
  where
    by : (b : Bool) → IsRow (remove_entry test xs) → IsRow (cond b xs (x ∷ remove_entry test xs))
    by true later = row.1
    by false later = (all_removed (Before x) test xs row.0, later)

-- what is written has the count of what is there
abbrev pub HasCount : (Grain → Bool) → List (Grain × Held) → Held → Type 0
HasCount test xs held = AllByRecursion (λ x. test x.0 ≡ true → x.1.count ≡ held.count) xs

before_set : (x : Grain × Held) (test : Grain → Bool) (xs : List (Grain × Held)) (held : Held) → HasCount test xs held
    → AllByRecursion (Before x) xs → AllByRecursion (Before x) (set_value test xs held)
before_set x test [] held same all = tt
before_set x test (y ∷ xs) held same all = by (test y.0) refl (before_set x test xs held same.1 all.1)
  where
    by : (b : Bool) → test y.0 ≡ b → AllByRecursion (Before x) (set_value test xs held)
        → AllByRecursion (Before x) (cond b ((y.0, held) ∷ xs) (y ∷ set_value test xs held))
    by true is later = ((all.0.0, subst (λ (n : ℕ). x.1.count < n) (same.0 is) all.0.1), all.1)
    by false is later = (all.0, later)

pub row_set : (test : Grain → Bool) (xs : List (Grain × Held)) (held : Held) → HasCount test xs held → IsRow xs
    → IsRow (set_value test xs held)
row_set test [] held same row = tt
row_set test (x ∷ xs) held same row = by (test x.0) refl (row_set test xs held same.1 row.1)
  where
    by : (b : Bool) → test x.0 ≡ b → IsRow (set_value test xs held) → IsRow (cond b ((x.0, held) ∷ xs) (x ∷ set_value test xs held))
    by true is later =
        (all_map (Before x) (Before (x.0, held)) xs (λ y p. (p.0, subst (λ (n : ℕ). n < y.1.count) (same.0 is) p.1)) row.0, row.1)
    by false is later = (before_set x test xs held same.1 row.0, later)
