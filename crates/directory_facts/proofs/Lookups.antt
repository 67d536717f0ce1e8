-- What is found under a key after an entry was put in, set or taken out.
use Rattle.std.proofs.Common.{arith, ◌≡◌, ◌≢◌, suc, List, [], ◌∷◌, ◌++◌, refl, sym, ap, subst, ◌∙◌}
use Rattle.std.specs.Prelude.{Bool, true, false, cond, is_some, find, AllPairs, Contains, Some, None}
use Rattle.std.specs.Prelude.{All}
use Rattle.std.specs.List.{slice_index_or}
use Rattle.std.proofs.lemmas.List.Elements.{All-head, All-tail}
use Rattle.std.specs.Cmp.{IsTotalOrder}
use Rattle.std.specs.Ordering.{is_eq}
use Rattle.std.specs.declared.cmp.Ordering.{Ordering}
use Rattle.std.specs.Map.{lookup, set_value, remove_entry}
use Rattle.std.specs.BTreeMap.{is_at, insert_entry}
use Rattle.std.proofs.lemmas.Map.Lookups.{CmpEqualImpliesEq}
use Rattle.std.proofs.lemmas.Cmp.{tied_itself}
use Rattle.silo_address.proofs.Order.{apart_in_order}
use Rattle.texts.proofs.Entries.{lookup-insert_entry}
use Rattle.directory_rules.proofs.Cases.{on_bool}
use Rattle.directory_rules.proofs.Tables.{lookup-remove_other}
use Rattle.directory_facts.proofs.Entries.{same_key}

-- set where the key is there
set_at : {K X : Type 0} (test : K → Bool) (x : X) (es : List (K × X)) → is_some (lookup test es) ≡ true
    → lookup test (set_value test es x) ≡ Some x
set_at test x [] there = absurd (cc)
set_at test x (e ∷ es) there =
    on_bool (λ b. test e.0 ≡ b → is_some (cond b (Some e.1) (lookup test es)) ≡ true
    → lookup test (cond b ((e.0, x) ∷ es) (e ∷ set_value test es x)) ≡ Some x) (test e.0)
    (λ t is found. ap (λ b. cond b (Some x) (lookup test es)) is)
    (λ f is found. ap (λ b. cond b (Some e.1) (lookup test (set_value test es x))) is ∙ set_at test x es found)
    refl there

set_elsewhere : {K X : Type 0} (test other : K → Bool) → ((k : K) → test k ≡ true → other k ≡ false) → (x : X) (es : List (K × X))
    → lookup other (set_value test es x) ≡ lookup other es
set_elsewhere test other apart x [] = refl
set_elsewhere test other apart x (e ∷ es) =
    on_bool (λ b. lookup other (cond b ((e.0, x) ∷ es) (e ∷ set_value test es x)) ≡ cond (other e.0) (Some e.1) (lookup other es))
    (test e.0)
    (λ t. ap (λ b. cond b (Some x) (lookup other es)) (apart e.0 t) ∙ ap (λ b. cond b (Some e.1) (lookup other es)) (sym (apart e.0 t)))
    (λ f. ap (λ r. cond (other e.0) (Some e.1) r) (set_elsewhere test other apart x es))

pub at_itself : {K : Type 0} (R : K → K → Ordering) → IsTotalOrder R → (k : K) → is_at (R k) k ≡ true
at_itself R o k = ap is_eq (tied_itself o k)

-- another key than one that passes the test of k
other_at : {K : Type 0} (R : K → K → Ordering) → CmpEqualImpliesEq R → (k q : K) → q ≢ k → (i : K) → is_at (R k) i ≡ true
    → is_at (R q) i ≡ false
other_at R exact k q apart i at = apart_in_order R exact q i (λ e. apart (e ∙ sym (same_key R exact k i at)))

module _ {K X : Type 0} (R : K → K → Ordering) (o : IsTotalOrder R) (exact : CmpEqualImpliesEq R) where
  pub found_put : (k : K) (x : X) (es : List (K × X)) → lookup (is_at (R k)) (insert_entry R es k x) ≡ Some x
  found_put k x es = lookup-insert_entry o k x k es ∙ ap (λ b. cond b (Some x) (lookup (is_at (R k)) es)) (at_itself R o k)

  pub found_beside_put : (k : K) (x : X) (es : List (K × X)) (q : K) → q ≢ k
      → lookup (is_at (R q)) (insert_entry R es k x) ≡ lookup (is_at (R q)) es
  found_beside_put k x es q apart =
      lookup-insert_entry o k x q es ∙ ap (λ b. cond b (Some x) (lookup (is_at (R q)) es)) (apart_in_order R exact q k apart)

  pub found_beside_removed : (k : K) (es : List (K × X)) (q : K) → q ≢ k
      → lookup (is_at (R q)) (remove_entry (is_at (R k)) es) ≡ lookup (is_at (R q)) es
  found_beside_removed k es q apart = lookup-remove_other (is_at (R k)) (is_at (R q)) (other_at R exact k q apart) es

  pub found_set : (k : K) (x : X) (es : List (K × X)) → is_some (lookup (is_at (R k)) es) ≡ true
      → lookup (is_at (R k)) (set_value (is_at (R k)) es x) ≡ Some x
  found_set k x es there = set_at (is_at (R k)) x es there

  pub found_beside_set : (k : K) (x : X) (es : List (K × X)) (q : K) → q ≢ k
      → lookup (is_at (R q)) (set_value (is_at (R k)) es x) ≡ lookup (is_at (R q)) es
  found_beside_set k x es q apart = set_elsewhere (is_at (R k)) (is_at (R q)) (other_at R exact k q apart) x es

-- at the end of a list
end_found : {K X : Type 0} (test : K → Bool) (k : K) (x : X) (es : List (K × X)) → lookup test es ≡ None → test k ≡ true
    → lookup test (es ++ (k, x) ∷ []) ≡ Some x
end_found test k x [] none at = ap (λ b. cond b (Some x) None) at
end_found test k x (e ∷ es) none at =
    on_bool (λ b. cond b (Some e.1) (lookup test es) ≡ None → cond b (Some e.1) (lookup test (es ++ (k, x) ∷ [])) ≡ Some x) (test e.0)
    (λ t found. absurd (cc (found))) (λ f found. end_found test k x es found at) none

end_elsewhere : {K X : Type 0} (test : K → Bool) (k : K) (x : X) (es : List (K × X)) → test k ≡ false
    → lookup test (es ++ (k, x) ∷ []) ≡ lookup test es
end_elsewhere test k x [] apart = ap (λ b. cond b (Some x) None) apart
end_elsewhere test k x (e ∷ es) apart = ap (λ o. cond (test e.0) (Some e.1) o) (end_elsewhere test k x es apart)

-- found by a test of the whole entry, where no key stands twice
pub find_looked : {K X : Type 0} (R : K → K → Ordering) → IsTotalOrder R → CmpEqualImpliesEq R
    → (test : K × X → Bool) (es : List (K × X)) (e : K × X) → AllPairs (λ a later. a.0 ≢ later.0) es → find test es ≡ Some e
    → (test e ≡ true) × (lookup (is_at (R e.0)) es ≡ Some e.1) × Contains es e
find_looked R o exact test [] e pairs found = absurd (cc (found))
find_looked R o exact test (x ∷ xs) e pairs found =
    on_bool (λ b. test x ≡ b → cond b (Some x) (find test xs) ≡ Some e
    → (test e ≡ true) × (lookup (is_at (R e.0)) (x ∷ xs) ≡ Some e.1) × Contains (x ∷ xs) e) (test x)
    (λ t is its.
    let same : x ≡ e = cc (its) in
    subst (λ y. (test y ≡ true) × (lookup (is_at (R y.0)) (x ∷ xs) ≡ Some y.1) × Contains (x ∷ xs) y) same
    (is, ap (λ b. cond b (Some x.1) (lookup (is_at (R x.0)) xs)) (at_itself R o x.0), (0, omega arith, refl)))
    (λ f is its.
    let later = find_looked R o exact test xs e (λ i j d lt below. pairs (suc i) (suc j) d (omega (arith, lt)) (omega (arith, below))) its in
    let apart : x.0 ≢ e.0 = λ same. pairs 0 (suc later.2.0) e (omega arith) (omega (arith, later.2.1)) (same ∙ ap (λ y. y.0) (sym later.2.2)) in (
      later.0,
      ap (λ b. cond b (Some x.1) (lookup (is_at (R e.0)) xs)) (apart_in_order R exact e.0 x.0 (λ same. apart (sym same))) ∙ later.1,
      (suc later.2.0, omega (arith, later.2.1), later.2.2),
    ))
    refl found

module _ {K X : Type 0} (R : K → K → Ordering) (o : IsTotalOrder R) (exact : CmpEqualImpliesEq R) where
  pub found_at_end : (k : K) (x : X) (es : List (K × X)) → lookup (is_at (R k)) es ≡ None
      → lookup (is_at (R k)) (es ++ (k, x) ∷ []) ≡ Some x
  found_at_end k x es none = end_found (is_at (R k)) k x es none (at_itself R o k)

  pub found_beside_end : (k : K) (x : X) (es : List (K × X)) (q : K) → q ≢ k
      → lookup (is_at (R q)) (es ++ (k, x) ∷ []) ≡ lookup (is_at (R q)) es
  found_beside_end k x es q apart = end_elsewhere (is_at (R q)) k x es (apart_in_order R exact q k apart)

-- a list in which no key stands twice, after one was taken out
pub absent_found : {K X : Type 0} (R : K → K → Ordering) → CmpEqualImpliesEq R → (k : K) (es : List (K × X)) → All (λ e. k ≢ e.0) es
    → lookup (is_at (R k)) es ≡ None
absent_found R exact k [] all = refl
absent_found R exact k (e ∷ es) all =
    ap (λ b. cond b (Some e.1) (lookup (is_at (R k)) es)) (apart_in_order R exact k e.0 (All-head (λ x. k ≢ x.0) e es all))
    ∙ absent_found R exact k es (All-tail (λ x. k ≢ x.0) e es all)

pub once_removed : {K X : Type 0} (R : K → K → Ordering) → IsTotalOrder R → CmpEqualImpliesEq R → (k : K) (es : List (K × X))
    → AllPairs (λ a later. a.0 ≢ later.0) es → lookup (is_at (R k)) (remove_entry (is_at (R k)) es) ≡ None
once_removed R o exact k [] pairs = refl
once_removed R o exact k (e ∷ es) pairs =
    on_bool (λ b. is_at (R k) e.0 ≡ b → lookup (is_at (R k)) (cond b es (e ∷ remove_entry (is_at (R k)) es)) ≡ None) (is_at (R k) e.0)
    (λ t is.
    let same = same_key R exact k e.0 is in
    absent_found R exact k es (λ i d below. subst (λ q. q ≢ (slice_index_or es i d).0) (sym same)
    (pairs 0 (suc i) d (omega arith) (omega (arith, below)))))
    (λ f is. ap (λ b. cond b (Some e.1) (lookup (is_at (R k)) (remove_entry (is_at (R k)) es))) is
    ∙ once_removed R o exact k es (λ i j d lt below. pairs (suc i) (suc j) d (omega (arith, lt)) (omega (arith, below))))
    refl

-- what stands first
pub lookup_first : {K X : Type 0} (R : K → K → Ordering) → IsTotalOrder R → (k : K) (x : X) (es : List (K × X))
    → lookup (is_at (R k)) ((k, x) ∷ es) ≡ Some x
lookup_first R o k x es = ap (λ b. cond b (Some x) (lookup (is_at (R k)) es)) (at_itself R o k)

pub lookup_later : {K X : Type 0} (R : K → K → Ordering) → CmpEqualImpliesEq R → (q k : K) (x : X) (es : List (K × X)) → q ≢ k
    → lookup (is_at (R q)) ((k, x) ∷ es) ≡ lookup (is_at (R q)) es
lookup_later R exact q k x es apart = ap (λ b. cond b (Some x) (lookup (is_at (R q)) es)) (apart_in_order R exact q k apart)
