-- Sets made item by item, and what they tell of a list.
use Rattle.std.proofs.Common.{◌≡◌, ℕ, ◌+◌, ◌<◌, Bool, true, false, cond, not, List, [], ◌∷◌, ◌++◌, length, take, drop, get_or, refl, sym, ◌∙◌, ap, Ordering, Less, Equal, Greater, is_eq}
use Rattle.std.specs.Prelude.{◌&&◌, ◌||◌}
use Rattle.std.specs.BTreeMap.{is_at}
use Rattle.std.specs.BTreeSet.{BTreeSet, contains}
use Rattle.std.specs.Cmp.{IsTotalOrder}
use Rattle.std.specs.List.{list_any}
use Rattle.std.specs.Ordering.{ordering_reverse}
use Rattle.std.proofs.lemmas.List.{take_more, take-append-drop}
use Rattle.std.proofs.lemmas.List.Folds.{list_any-append, list_any_more}
use Rattle.dump_rules.specs.DumpShape.{are_distinct_by}
use Rattle.dumps.specs.Sets.{HasItems}

turned : (o : Ordering) → is_eq (ordering_reverse o) ≡ is_eq o
turned Less = refl
turned Equal = refl
turned Greater = refl

-- being the same goes both ways
both_ways : {K : Type 0} (R : K → K → Ordering) → IsTotalOrder R → (a b : K) → is_at (R a) b ≡ is_at (R b) a
both_ways R total a b = ap is_eq (total.antisymm a b) ∙ turned (R b a)

one_or : (b c : Bool) → cond b true c ≡ (c || b)
one_or true true = refl
one_or true false = refl
one_or false true = refl
one_or false false = refl

-- one item more
pub set_more : {K : Type 0} (R : K → K → Ordering) (total : IsTotalOrder R) (set next : BTreeSet K) (items : List K) (index : ℕ) (item : K)
    → index < length items → item ≡ get_or items index item
    → HasItems R set (take index items)
    → ((q : K) → contains R next q ≡ cond (is_at (R item) q) true (contains R set q))
    → HasItems R next (take (index + 1) items)
set_more R total set next items index item within here has put q =
    put q ∙ (one_or (is_at (R item) q) (contains R set q)
    ∙ (ap (λ b. b || is_at (R item) q) (has q)
    ∙ (ap (λ b. list_any (is_at (R q)) (take index items) || b) (both_ways R total item q ∙ ap (λ x. is_at (R q) x) here)
    ∙ sym (list_any_more (is_at (R q)) items index item within))))

same_if_none : {K : Type 0} (same : K → K → Bool) (xs ys : List K) → are_distinct_by same (xs ++ ys) ≡ true → are_distinct_by same xs ≡ true
same_if_none same [] ys apart = refl
same_if_none same (x ∷ xs) ys apart =
    by (list_any (same x) xs) (list_any (same x) ys) (are_distinct_by same xs) (are_distinct_by same (xs ++ ys))
    (ap (λ t. not t && are_distinct_by same (xs ++ ys)) (sym (list_any-append (same x) xs ys)) ∙ apart) (same_if_none same xs ys)
  where
    by : (a b c d : Bool) → (not (a || b) && d) ≡ true → (d ≡ true → c ≡ true) → (not a && c) ≡ true
    by true b c d told rest = absurd (cc)
    by false b c true told rest = rest refl
    by false true c false told rest = absurd (cc)
    by false false c false told rest = absurd (cc)

shuffle : (a b c d : Bool) → (not (a || (b || false)) && (d && not c)) ≡ ((not a && d) && not (b || c))
shuffle true b c d = refl
shuffle false true c true = refl
shuffle false true c false = refl
shuffle false false c d = refl

distinct_with : {K : Type 0} (same : K → K → Bool) → ((a b : K) → same a b ≡ same b a) → (xs : List K) (x : K)
    → are_distinct_by same (xs ++ x ∷ []) ≡ (are_distinct_by same xs && not (list_any (same x) xs))
distinct_with same turns [] x = refl
distinct_with same turns (y ∷ ys) x =
    ap (λ b. not b && are_distinct_by same (ys ++ x ∷ [])) (list_any-append (same y) ys (x ∷ []))
    ∙ (ap (λ b. not (list_any (same y) ys || (b || false)) && are_distinct_by same (ys ++ x ∷ [])) (turns y x)
    ∙ (ap (λ b. not (list_any (same y) ys || (same x y || false)) && b) (distinct_with same turns ys x)
    ∙ shuffle (list_any (same y) ys) (same x y) (list_any (same x) ys) (are_distinct_by same ys)))

-- an item that isn't among those before it leaves them distinct; one that is makes the whole list indistinct
pub distinct_more : {K : Type 0} (R : K → K → Ordering) (total : IsTotalOrder R) (set : BTreeSet K) (items : List K) (index : ℕ) (item : K)
    → index < length items → item ≡ get_or items index item → HasItems R set (take index items)
    → are_distinct_by (λ one. is_at (R one)) (take index items) ≡ true → contains R set item ≡ false
    → are_distinct_by (λ one. is_at (R one)) (take (index + 1) items) ≡ true
distinct_more R total set items index item within here has apart new =
    ap (are_distinct_by (λ one. is_at (R one))) (take_more items index item within ∙ ap (λ x. take index items ++ x ∷ []) (sym here))
    ∙ (distinct_with (λ one. is_at (R one)) (both_ways R total) (take index items) item
    ∙ (ap (λ b. b && not (list_any (is_at (R item)) (take index items))) apart ∙ ap not (sym (has item) ∙ new)))

pub distinct_no_more : {K : Type 0} (R : K → K → Ordering) (total : IsTotalOrder R) (set : BTreeSet K) (items : List K) (index : ℕ)
    (item : K)
    → index < length items → item ≡ get_or items index item → HasItems R set (take index items)
    → contains R set item ≡ true
    → are_distinct_by (λ one. is_at (R one)) items ≡ false
distinct_no_more {K} R total set items index item within here has old = by (are_distinct_by same items) refl
  where
    same : K → K → Bool
    same one = is_at (R one)

    never : (t : Bool) → (t && false) ≡ true → ⊥
    never true e = cc
    never false e = cc

    front : are_distinct_by same (take (index + 1) items) ≡ (are_distinct_by same (take index items) && false)
    front =
        ap (are_distinct_by same) (take_more items index item within ∙ ap (λ x. take index items ++ x ∷ []) (sym here))
        ∙ (distinct_with same (both_ways R total) (take index items) item
        ∙ ap (λ b. are_distinct_by same (take index items) && not b) (sym (has item) ∙ old))

    by : (t : Bool) → are_distinct_by same items ≡ t → are_distinct_by same items ≡ false
    by false other = other
    by true all = absurd (never (are_distinct_by same (take index items))
        (sym front ∙ same_if_none same (take (index + 1) items) (drop (index + 1) items)
        (ap (are_distinct_by same) (take-append-drop (index + 1) items) ∙ all)))

-- what the answer of an insert tells, by a test of it
pub was_there : (new had : Bool) → new ≡ not had → new ≡ false → had ≡ true
was_there new true is told = refl
was_there new false is told = absurd (let wrong : true ≡ false = sym is ∙ told in cc)

pub was_new : (new had : Bool) → new ≡ not had → new ≡ true → had ≡ false
was_new new true is told = absurd (let wrong : false ≡ true = sym is ∙ told in cc)
was_new new false is told = refl
