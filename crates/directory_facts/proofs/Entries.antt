-- What holds of each entry under a key, once one is put in, set or taken out; and what is found where a key passes a test.
use Rattle.std.proofs.Common.{◌≡◌, refl, subst, List, [], ◌∷◌}
use Rattle.std.specs.Prelude.{Bool, true, cond, All, Some}
use Rattle.std.specs.Ordering.{match_ordering}
use Rattle.std.specs.declared.cmp.Ordering.{Ordering}
use Rattle.std.specs.declared.cmp.Ordering.TheVariants.{Less, Equal, Greater}
use Rattle.std.specs.Map.{lookup, set_value, remove_entry}
use Rattle.std.specs.BTreeMap.{is_at, insert_entry}
use Rattle.std.proofs.lemmas.List.Elements.{All-nil, All-cons, All-head, All-tail}
use Rattle.std.proofs.lemmas.Map.Lookups.{CmpEqualImpliesEq}
use Rattle.texts.proofs.Orderings.{Equal-from}
use Rattle.directory_rules.proofs.Cases.{on_bool}

-- a key that passes the test of another one is that key
pub same_key : {K : Type 0} (R : K → K → Ordering) → CmpEqualImpliesEq R → (key other : K) → is_at (R key) other ≡ true → key ≡ other
same_key R exact key other at = exact key other (Equal-from (R key other) at)

pub all_put : {K X : Type 0} (R : K → K → Ordering) → CmpEqualImpliesEq R → (P : K × X → Type 0) (key : K) (value : X) (es : List (K × X))
    → All P es → P (key, value) → All P (insert_entry R es key value)
all_put R exact P key value [] all new = All-cons P (key, value) [] new (All-nil P)
all_put R exact P key value (e ∷ es) all new = by (R key e.0) refl (all_put R exact P key value es (All-tail P e es all) new)
  where
    by : (r : Ordering) → R key e.0 ≡ r → All P (insert_entry R es key value)
        → All P (match_ordering r ((key, value) ∷ e ∷ es) ((e.0, value) ∷ es) (e ∷ insert_entry R es key value))
    by Less is later = All-cons P (key, value) (e ∷ es) new all
    by Equal is later = All-cons P (e.0, value) es (subst (λ k. P (k, value)) (exact key e.0 is) new) (All-tail P e es all)
    by Greater is later = All-cons P e (insert_entry R es key value) (All-head P e es all) later

pub all_removed : {K X : Type 0} (P : K × X → Type 0) (test : K → Bool) (es : List (K × X)) → All P es → All P (remove_entry test es)
all_removed P test [] all = all
all_removed P test (e ∷ es) all =
    on_bool (λ b. All P (cond b es (e ∷ remove_entry test es))) (test e.0) (λ t. All-tail P e es all)
    (λ f. All-cons P e (remove_entry test es) (All-head P e es all) (all_removed P test es (All-tail P e es all)))

-- the value that is set may rest on the one that it replaces
pub all_set : {K X : Type 0} (P : K × X → Type 0) (test : K → Bool) (value : X) (es : List (K × X))
    → ((key : K) (old : X) → test key ≡ true → P (key, old) → P (key, value)) → All P es → All P (set_value test es value)
all_set P test value [] so all = all
all_set P test value (e ∷ es) so all =
    on_bool (λ b. test e.0 ≡ b → All P (cond b ((e.0, value) ∷ es) (e ∷ set_value test es value))) (test e.0)
    (λ t is. All-cons P (e.0, value) es (so e.0 e.1 is (All-head P e es all)) (All-tail P e es all))
    (λ f is. All-cons P e (set_value test es value) (All-head P e es all) (all_set P test value es so (All-tail P e es all)))
    refl

-- what is found stands under a key that passes
pub found_so : {K X : Type 0} (P : K × X → Type 0) (test : K → Bool) (value : X) (es : List (K × X)) → All P es
    → lookup test es ≡ Some value → (key : K) × (test key ≡ true) × P (key, value)
found_so P test value [] all found = absurd (cc (found))
found_so {K} P test value (e ∷ es) all found =
    on_bool (λ b. test e.0 ≡ b → cond b (Some e.1) (lookup test es) ≡ Some value → (key : K) × (test key ≡ true) × P (key, value))
    (test e.0)
    (λ t is it. let there : e.1 ≡ value = cc (it) in (e.0, is, subst (λ v. P (e.0, v)) there (All-head P e es all)))
    (λ f is it. found_so P test value es (All-tail P e es all) it)
    refl found
