-- The number that a grain's activation has outstanding, after an activation begins, changes, or goes.
use Rattle.std.proofs.Common.{◌≡◌, refl, sym, ap, ◌∙◌, ℕ, List, [], ◌∷◌, ◌++◌, cond, Bool, true, false, Option, Some, None, option_and_then, IsSome}
use Rattle.std.specs.List.{IsDistinct}
use Rattle.std.specs.Map.{lookup, set_value, remove_entry, keys_of}
use Rattle.std.specs.BTreeMap.{is_at}
use Rattle.std.specs.Ordering.{nat_cmp}
use Rattle.std.proofs.lemmas.Cmp.{eq_by_cmp_equiv}
use Rattle.std.proofs.lemmas.Map.{lookup-set_value, lookup-remove_entry}
use Rattle.std.proofs.lemmas.Map.Lookups.{exact_unsigned}
use Rattle.texts.proofs.Orderings.{Equal-from}
use Rattle.silo_address.specs.Grain.{Grain, grain_cmp, grain_eq}
use Rattle.silo_address.proofs.Order.{grain_cmp_total}
use Rattle.directory_rules.specs.declared.Held.{Held}
use Rattle.host_activations.proofs.Grains.{by_order, grain_at_itself, on_grain, on_test}
use Rattle.host_activations.specs.Numbers.{number_in, number_of}
use Rattle.host_activations.proofs.Entries.{lookup_last, lookup_before}

-- two numbers: one, or not
pub on_number : (P : Bool → Type 0) (a b : ℕ) → (a ≡ b → P true) → (is_at (nat_cmp a) b ≡ false → P false) → P (is_at (nat_cmp a) b)
on_number P a b same other = on_test P (is_at (nat_cmp a) b) (λ h. same (exact_unsigned a b (Equal-from (nat_cmp a b) h))) other

-- a function over a choice
pub through : {A B : Type 0} (f : A → Option B) (b : Bool) (x y : Option A)
    → option_and_then f (cond b x y) ≡ cond b (option_and_then f x) (option_and_then f y)
through f true x y = refl
through f false x y = refl

-- the grain's activation has this number from now on, and the others have theirs
abbrev pub GivesNumber : Grain → Option ℕ → (old new : List (Grain × Held)) → Type 0
GivesNumber grain number old new = (q : Grain) → number_of q new ≡ cond (is_at (grain_cmp grain) q) number (number_of q old)

pub begun : (grain : Grain) (held : Held) (es : List (Grain × Held)) → lookup (is_at (grain_cmp grain)) es ≡ None
    → GivesNumber grain (number_in held.phase) es (es ++ (grain, held) ∷ [])
begun grain held es none q =
    on_grain (λ b. number_of q (es ++ (grain, held) ∷ []) ≡ cond b (number_in held.phase) (number_of q es)) grain q
    (λ same. ap (λ (g : Grain). number_of g (es ++ (grain, held) ∷ [])) (sym same)
    ∙ ap (λ found. option_and_then (λ (h : Held). number_in h.phase) found)
    (lookup_last (is_at (grain_cmp grain)) es (grain, held) none ∙ ap (λ b. cond b (Some held) None) (grain_at_itself grain)))
    (λ other. ap (λ found. option_and_then (λ (h : Held). number_in h.phase) found)
    (lookup_before (is_at (grain_cmp q)) es (grain, held) ((eq_by_cmp_equiv grain_cmp_total).symm q grain ∙ other)))

pub changed : (grain : Grain) (held : Held) (es : List (Grain × Held)) → IsSome (lookup (is_at (grain_cmp grain)) es)
    → GivesNumber grain (number_in held.phase) es (set_value (is_at (grain_cmp grain)) es held)
changed grain held es some q =
    ap (λ found. option_and_then (λ (h : Held). number_in h.phase) found)
    (lookup-set_value (eq_by_cmp_equiv grain_cmp_total) (is_at (grain_cmp grain)) ((eq_by_cmp_equiv grain_cmp_total).congr grain) q held es
    some)
    ∙ through (λ (h : Held). number_in h.phase) (is_at (grain_cmp grain) q) (Some held) (lookup (is_at (grain_cmp q)) es)

pub gone : (grain : Grain) (es : List (Grain × Held)) → IsDistinct grain_eq (keys_of es)
    → GivesNumber grain None es (remove_entry (is_at (grain_cmp grain)) es)
gone grain es apart q =
    ap (λ found. option_and_then (λ (h : Held). number_in h.phase) found)
    (lookup-remove_entry (eq_by_cmp_equiv grain_cmp_total) (is_at (grain_cmp grain)) ((eq_by_cmp_equiv grain_cmp_total).congr grain) q es
    (by_order (keys_of es) apart))
    ∙ through (λ (h : Held). number_in h.phase) (is_at (grain_cmp grain) q) None (lookup (is_at (grain_cmp q)) es)
