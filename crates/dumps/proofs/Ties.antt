-- Tests of lists by an order that tells apart what differs.
use Rattle.std.proofs.Common.{◌≡◌, Bool, true, false, not, List, [], ◌∷◌, refl, sym, ◌∙◌, ap, Ordering, is_eq}
use Rattle.std.specs.Prelude.{◌&&◌, ◌||◌}
use Rattle.std.specs.Bool.{Decides}
use Rattle.std.specs.Borrow.{Bor}
use Rattle.std.specs.BTreeMap.{is_at}
use Rattle.std.specs.BTreeSet.{BTreeSet, contains}
use Rattle.std.specs.Cmp.{IsTotalOrder}
use Rattle.std.specs.List.{list_any}
use Rattle.std.proofs.lemmas.Cmp.{tied_itself}
use Rattle.std.proofs.lemmas.Map.Lookups.{CmpEqualImpliesEq}
use Rattle.texts.proofs.Orderings.{Equal-from}
use Rattle.silo_address.specs.Silo.{Silo, silo_cmp, silo_eq}
use Rattle.silo_address.specs.Grain.{Grain, grain_cmp, grain_eq}
use Rattle.silo_address.specs.Activation.{activation_cmp, activation_eq, entry_cmp, entry_eq}
use Rattle.silo_address.specs.declared.ActivationId.{ActivationId}
use Rattle.silo_address.specs.declared.Entry.{Entry}
use Rattle.silo_address.proofs.Order.{silo_cmp_total, silo_cmp_exact, grain_cmp_total, grain_cmp_exact, activation_cmp_total, activation_cmp_exact, entry_cmp_total, entry_cmp_exact}
use Rattle.silo_address.proofs.Same.{Decides-silo, Decides-grain, Decides-activation, Decides-entry}
use Rattle.dump_rules.specs.Dump.{DumpValue}
use Rattle.dump_rules.specs.DumpShape.{are_distinct_by, has_row, row_silos}
use Rattle.dumps.specs.Mixed.{grains_lent}
use Rattle.dumps.specs.Sets.{HasItems}

-- what ties in the order is the same
tie : {K : Type 0} (R : K → K → Ordering) (E : K → K → Bool) → IsTotalOrder R → CmpEqualImpliesEq R → ((a b : K) → Decides (E a b) (a ≡ b))
    → (a b : K) → is_at (R a) b ≡ E a b
tie {K} R E total exact decides a b = by (is_eq (R a b)) (E a b) refl refl
  where
    by : (s t : Bool) → is_eq (R a b) ≡ s → E a b ≡ t → is_eq (R a b) ≡ E a b
    by true t is e = is ∙ sym ((decides a b).1 (exact a b (Equal-from (R a b) is)))
    by false true is e =
        let same : is_eq (R a b) ≡ true = ap (λ (x : K). is_eq (R a x)) (sym ((decides a b).0 e)) ∙ ap is_eq (tied_itself total a) in
        absurd (let no : false ≡ true = sym is ∙ same in cc)
    by false false is e = is ∙ sym e

pub silo_tie : (a b : Silo) → is_at (silo_cmp a) b ≡ silo_eq a b
silo_tie = tie silo_cmp silo_eq silo_cmp_total silo_cmp_exact Decides-silo

pub grain_tie : (a b : Grain) → is_at (grain_cmp a) b ≡ grain_eq a b
grain_tie = tie grain_cmp grain_eq grain_cmp_total grain_cmp_exact Decides-grain

pub activation_tie : (a b : ActivationId) → is_at (activation_cmp a) b ≡ activation_eq a b
activation_tie = tie activation_cmp activation_eq activation_cmp_total activation_cmp_exact Decides-activation

pub entry_tie : (a b : Entry) → is_at (entry_cmp a) b ≡ entry_eq a b
entry_tie = tie entry_cmp entry_eq entry_cmp_total entry_cmp_exact Decides-entry

pub list_any_alike : {X : Type 0} (p q : X → Bool) → ((x : X) → p x ≡ q x) → (xs : List X) → list_any p xs ≡ list_any q xs
list_any_alike p q alike [] = refl
list_any_alike p q alike (x ∷ xs) = ap (λ b. b || list_any p xs) (alike x) ∙ ap (λ b. q x || b) (list_any_alike p q alike xs)

pub distinct_alike : {X : Type 0} (p q : X → X → Bool) → ((x y : X) → p x y ≡ q x y) → (xs : List X)
    → are_distinct_by p xs ≡ are_distinct_by q xs
distinct_alike p q alike [] = refl
distinct_alike p q alike (x ∷ xs) =
    ap (λ b. not b && are_distinct_by p xs) (list_any_alike (p x) (q x) (alike x) xs)
    ∙ ap (λ b. not (list_any (q x) xs) && b) (distinct_alike p q alike xs)

-- lists of silos and activations, each once
pub distinct_silos : (xs : List Silo) → are_distinct_by (λ one. is_at (silo_cmp one)) xs ≡ are_distinct_by silo_eq xs
distinct_silos = distinct_alike (λ one. is_at (silo_cmp one)) silo_eq silo_tie

pub distinct_activations : (xs : List ActivationId)
    → are_distinct_by (λ one. is_at (activation_cmp one)) xs ≡ are_distinct_by activation_eq xs
distinct_activations = distinct_alike (λ one. is_at (activation_cmp one)) activation_eq activation_tie

-- the set of those that have rows
pub known_silos : (dump : DumpValue) (set : BTreeSet Silo) → HasItems silo_cmp set (row_silos dump) → (silo : Silo)
    → contains silo_cmp set silo ≡ has_row dump silo
known_silos dump set has silo = has silo ∙ list_any_alike (is_at (silo_cmp silo)) (silo_eq silo) (silo_tie silo) (row_silos dump)

-- grains behind references
any_lent : (grain : Grain) (grains : List (Bor Grain))
    → list_any (λ (one : Bor Grain). is_eq (grain_cmp grain one.now)) grains ≡ list_any (grain_eq grain) (grains_lent grains)
any_lent grain [] = refl
any_lent grain (one ∷ grains) =
    ap (λ b. b || list_any (λ (g : Bor Grain). is_eq (grain_cmp grain g.now)) grains) (grain_tie grain one.now)
    ∙ ap (λ b. grain_eq grain one.now || b) (any_lent grain grains)

pub distinct_lent : (grains : List (Bor Grain)) → are_distinct_by (λ (one other : Bor Grain). is_eq (grain_cmp one.now other.now)) grains
    ≡ are_distinct_by grain_eq (grains_lent grains)
distinct_lent [] = refl
distinct_lent (grain ∷ grains) =
    ap (λ b. not b && are_distinct_by (λ (one other : Bor Grain). is_eq (grain_cmp one.now other.now)) grains) (any_lent grain.now grains)
    ∙ ap (λ b. not (list_any (grain_eq grain.now) (grains_lent grains)) && b) (distinct_lent grains)
