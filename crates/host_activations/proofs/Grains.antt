-- Grains as keys: what a map by equality does is what the rule does by order, and each entry of distinct grains is found.
use Rattle.std.proofs.Common.{◌≡◌, refl, sym, ap, subst, ◌∙◌, List, [], ◌∷◌, ◌++◌, cond, Bool, true, false, Option, Some, None, true≢false}
use Rattle.std.specs.List.{AllByRecursion, IsDistinct}
use Rattle.std.specs.Map.{lookup, keys_of}
use Rattle.std.specs.BTreeMap.{is_at}
use Rattle.std.specs.Ordering.{is_eq, eq_by_cmp}
use Rattle.std.proofs.lemmas.Cmp.{tied_itself}
use Rattle.std.proofs.lemmas.Map.Keys.{IsDistinct-head, IsDistinct-tail}
use Rattle.texts.proofs.Orderings.{Equal-from}
use Rattle.silo_address.specs.Grain.{Grain, grain_cmp, grain_eq}
use Rattle.silo_address.proofs.Order.{grain_cmp_total, grain_cmp_exact, apart_in_order}
use Rattle.silo_address.proofs.Same.{Decides-grain}
use Rattle.directory_rules.specs.declared.Held.{Held}

-- equality and the order tell the same grains apart
pub same_test : (a b : Grain) → grain_eq a b ≡ is_at (grain_cmp a) b
same_test a b = by (grain_eq a b) refl
  where
    by : (t : Bool) → grain_eq a b ≡ t → t ≡ is_at (grain_cmp a) b
    by true h =
        subst (λ (g : Grain). true ≡ is_eq (grain_cmp a g)) ((Decides-grain a b).0 h) (sym (ap is_eq (tied_itself grain_cmp_total a)))
    by false h = sym (apart_in_order grain_cmp grain_cmp_exact a b (λ same. true≢false (sym ((Decides-grain a b).1 same) ∙ h)))

pub tests_alike : (a : Grain) → grain_eq a ≡ is_at (grain_cmp a)
tests_alike a = λ i b. same_test a b i

-- distinct by equality is distinct by order
pub by_order : (gs : List Grain) → IsDistinct grain_eq gs → IsDistinct (eq_by_cmp grain_cmp) gs
by_order gs apart = subst (λ (test : Grain → Grain → Bool). IsDistinct test gs) (λ i a b. same_test a b i) apart

-- two grains: one, or not
pub on_test : (P : Bool → Type 0) (b : Bool) → (b ≡ true → P true) → (b ≡ false → P false) → P b
on_test P true same other = same refl
on_test P false same other = other refl

pub on_grain : (P : Bool → Type 0) (a b : Grain) → (a ≡ b → P true) → (is_at (grain_cmp a) b ≡ false → P false) → P (is_at (grain_cmp a) b)
on_grain P a b same other = on_test P (is_at (grain_cmp a) b) (λ h. same (grain_cmp_exact a b (Equal-from (grain_cmp a b) h))) other

pub grain_at_itself : (g : Grain) → is_at (grain_cmp g) g ≡ true
grain_at_itself g = ap is_eq (tied_itself grain_cmp_total g)

-- a grain that is not the other
pub other_grain : (a b : Grain) → is_at (grain_cmp a) b ≡ false → a ≡ b → ⊥
other_grain a b other same = let h : true ≡ false = sym (grain_at_itself a) ∙ ap (λ (g : Grain). is_at (grain_cmp a) g) same ∙ other in cc

pub not_at : (a b : Grain) → (a ≡ b → ⊥) → is_at (grain_cmp a) b ≡ false
not_at a b apart = apart_in_order grain_cmp grain_cmp_exact a b apart

pub not_equal : (a b : Grain) → grain_eq a b ≡ false → a ≡ b → ⊥
not_equal a b other same = let h : true ≡ false = sym ((Decides-grain a b).1 same) ∙ other in cc

-- the first of two that is there
abbrev pub either : {A : Type 0} → Option A → Option A → Option A
either None o = o
either (Some x) o = Some x

pub either_none : {A : Type 0} (o : Option A) → either o None ≡ o
either_none None = refl
either_none (Some x) = refl

pub lookup_append : {K X : Type 0} (test : K → Bool) (xs ys : List (K × X))
    → lookup test (xs ++ ys) ≡ either (lookup test xs) (lookup test ys)
lookup_append test [] ys = refl
lookup_append test (x ∷ xs) ys = by (test x.0) (lookup_append test xs ys)
  where
    by : (b : Bool) → lookup test (xs ++ ys) ≡ either (lookup test xs) (lookup test ys)
        → cond b (Some x.1) (lookup test (xs ++ ys)) ≡ either (cond b (Some x.1) (lookup test xs)) (lookup test ys)
    by true later = refl
    by false later = later

-- an entry is what is found at its grain
abbrev pub IsFoundIn : List (Grain × Held) → Grain × Held → Type 0
IsFoundIn all e = lookup (is_at (grain_cmp e.0)) all ≡ Some e.1

pub all_map : {A : Type 0} (P Q : A → Type 0) (xs : List A) → ((x : A) → P x → Q x) → AllByRecursion P xs → AllByRecursion Q xs
all_map P Q [] so all = tt
all_map P Q (x ∷ xs) so all = (so x all.0, all_map P Q xs so all.1)

behind : (first : Grain × Held) (all es : List (Grain × Held)) → AllByRecursion (λ g. grain_eq first.0 g ≡ false) (keys_of es)
    → AllByRecursion (IsFoundIn all) es → AllByRecursion (IsFoundIn (first ∷ all)) es
behind first all [] apart found = tt
behind first all (e ∷ es) apart found = (here, behind first all es apart.1 found.1)
  where
    here : lookup (is_at (grain_cmp e.0)) (first ∷ all) ≡ Some e.1
    here =
        on_grain (λ b. cond b (Some first.1) (lookup (is_at (grain_cmp e.0)) all) ≡ Some e.1) e.0 first.0
        (λ same. absurd (not_equal first.0 e.0 apart.0 (sym same))) (λ other. found.0)

-- among entries of distinct grains each is
pub each_found : (es : List (Grain × Held)) → IsDistinct grain_eq (keys_of es) → AllByRecursion (IsFoundIn es) es
each_found [] apart = tt
each_found (e ∷ es) apart = (
  ap (λ b. cond b (Some e.1) (lookup (is_at (grain_cmp e.0)) es)) (grain_at_itself e.0),
  behind e es es (IsDistinct-head grain_eq e.0 (keys_of es) apart) (each_found es (IsDistinct-tail grain_eq e.0 (keys_of es) apart)),
)

-- what keeps of each entry keeps of what is found
pub found_all : (R : Held → Type 0) (q : Grain) (es : List (Grain × Held)) (h : Held) → AllByRecursion (λ e. R e.1) es
    → lookup (is_at (grain_cmp q)) es ≡ Some h → R h
found_all R q [] h all is = cc
found_all R q (e ∷ es) h all is = by (is_at (grain_cmp q) e.0) is (found_all R q es h all.1)
  where
    by : (b : Bool) → cond b (Some e.1) (lookup (is_at (grain_cmp q)) es) ≡ Some h → (lookup (is_at (grain_cmp q)) es ≡ Some h → R h) → R h
    by true is later = let same : e.1 ≡ h = cc in subst R same all.0
    by false is later = later is
