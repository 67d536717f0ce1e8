-- Entries in the order of their keys: one that is put in at a key that is there, and one that is taken out before another is put in.
use Rattle.std.proofs.Common.{◌≡◌, List, [], ◌∷◌, cond, Bool, true, false, Option, Some, None, IsSome, refl, sym, ◌∙◌, ap, subst}
use Rattle.std.specs.Cmp.{IsTotalOrder}
use Rattle.std.specs.List.{AllByRecursion}
use Rattle.std.specs.List.Sorted.{IsStrictlySortedBy}
use Rattle.std.specs.Map.{lookup, keys_of, set_value, remove_entry}
use Rattle.std.specs.BTreeMap.{is_at, insert_entry}
use Rattle.std.specs.Ordering.{is_eq, match_ordering}
use Rattle.std.specs.declared.cmp.Ordering.{Ordering}
use Rattle.std.specs.declared.cmp.Ordering.TheVariants.{Less, Equal, Greater}
use Rattle.std.proofs.lemmas.Option.{same_Some}
use Rattle.std.proofs.lemmas.Map.Keys.{sorted_head, sorted_tail}

-- a key that stands before the first of all is none of theirs
above_none : {K X : Type 0} (R : K → K → Ordering) (o : IsTotalOrder R) (k first : K) → R k first ≡ Less → (es : List (K × X))
    → AllByRecursion (λ y. R first y ≡ Less) (keys_of es)
    → lookup (is_at (R k)) es ≡ None
above_none R o k first less [] above = refl
above_none R o k first less (e ∷ es) above =
    ap (λ r. cond (is_eq r) (Some e.1) (lookup (is_at (R k)) es)) (o.trans k first e.0 less above.0)
    ∙ above_none R o k first less es above.1

pub none_not_some : {X : Type 0} (found : Option X) → found ≡ None → IsSome found → ⊥
none_not_some None none there = cc (there)
none_not_some (Some x) none there = cc (none)

-- an entry put in at a key that is there replaces that one
pub put_there : {K X : Type 0} (R : K → K → Ordering) (o : IsTotalOrder R) (k : K) (v : X) (es : List (K × X))
    → IsStrictlySortedBy R (keys_of es) → IsSome (lookup (is_at (R k)) es)
    → insert_entry R es k v ≡ set_value (is_at (R k)) es v
put_there R o k v [] sorted there = absurd (cc (there))
put_there {K} {X} R o k v (e ∷ es) sorted there =
    by (R k e.0) refl (λ later. put_there R o k v es (sorted_tail R e.0 (keys_of es) sorted) later)
    (λ less. above_none R o k e.0 less es (sorted_head R e.0 (keys_of es) sorted)) there
  where
    by : (r : Ordering) → R k e.0 ≡ r → (IsSome (lookup (is_at (R k)) es) → insert_entry R es k v ≡ set_value (is_at (R k)) es v)
        → (R k e.0 ≡ Less → lookup (is_at (R k)) es ≡ None) → IsSome (cond (is_eq r) (Some e.1) (lookup (is_at (R k)) es))
        → match_ordering r ((k, v) ∷ e ∷ es) ((e.0, v) ∷ es) (e ∷ insert_entry R es k v) ≡ cond (is_eq r) ((e.0, v) ∷ es)
        (e ∷ set_value (is_at (R k)) es v)
    by Less h later none there = absurd (none_not_some (lookup (is_at (R k)) es) (none h) there)
    by Equal h later none there = refl
    by Greater h later none there = ap (λ (l : List (K × X)). e ∷ l) (later there)

-- the value that was lent, changed, is written back: it is put in under its own key
pub put_at : {K X : Type 0} (R : K → K → Ordering) (o : IsTotalOrder R) (k : K) (es : List (K × X)) → IsStrictlySortedBy R (keys_of es)
    → (lent found left : X) (change : X → X)
    → Some lent ≡ lookup (is_at (R k)) es → lookup (is_at (R k)) es ≡ Some found → left ≡ change lent
    → set_value (is_at (R k)) es left ≡ insert_entry R es k (change found)
put_at R o k es sorted lent found left change there is left_is =
    ap (λ v. set_value (is_at (R k)) es v) (left_is ∙ ap change (same_Some lent found (there ∙ is)))
    ∙ sym (put_there R o k (change found) es sorted (subst (λ e. IsSome e) (sym is) refl))

-- an entry put in before all others
put_first : {K X : Type 0} (R : K → K → Ordering) (o : IsTotalOrder R) (k first : K) (v : X) (es : List (K × X)) → R k first ≡ Less
    → AllByRecursion (λ y. R first y ≡ Less) (keys_of es)
    → insert_entry R es k v ≡ (k, v) ∷ es
put_first R o k first v [] less above = refl
put_first R o k first v (e ∷ es) less above =
    ap (λ r. match_ordering r ((k, v) ∷ e ∷ es) ((e.0, v) ∷ es) (e ∷ insert_entry R es k v)) (o.trans k first e.0 less above.0)

-- whether another is taken out before an entry is put in, or after, is the same
pub taken_before : {K X : Type 0} (R : K → K → Ordering) (o : IsTotalOrder R) (exact : (a b : K) → R a b ≡ Equal → a ≡ b) (k old : K)
    (v : X) (es : List (K × X)) → IsStrictlySortedBy R (keys_of es)
    → is_at (R old) k ≡ false → remove_entry (is_at (R old)) (insert_entry R es k v) ≡ insert_entry R (remove_entry (is_at (R old)) es) k v
taken_before R o exact k old v [] sorted other = ap (λ b. cond b [] ((k, v) ∷ [])) other
taken_before {K} {X} R o exact k old v (e ∷ es) sorted other =
    by (R k e.0) refl (taken_before R o exact k old v es (sorted_tail R e.0 (keys_of es) sorted) other)
  where
    out : List (K × X)
    out = remove_entry (is_at (R old)) es

    first : (b : Bool) → R k e.0 ≡ Less → (k, v) ∷ cond b es (e ∷ out) ≡ insert_entry R (cond b es (e ∷ out)) k v
    first true less = sym (put_first R o k e.0 v es less (sorted_head R e.0 (keys_of es) sorted))
    first false less = sym (ap (λ r. match_ordering r ((k, v) ∷ e ∷ out) ((e.0, v) ∷ out) (e ∷ insert_entry R out k v)) less)

    behind : (b : Bool) → R k e.0 ≡ Greater → remove_entry (is_at (R old)) (insert_entry R es k v) ≡ insert_entry R out k v
        → cond b (insert_entry R es k v) (e ∷ remove_entry (is_at (R old)) (insert_entry R es k v)) ≡ insert_entry R (cond b es (e ∷ out)) k
        v
    behind true greater later = refl
    behind false greater later =
        ap (λ (l : List (K × X)). e ∷ l) later ∙ sym (ap
        (λ r. match_ordering r ((k, v) ∷ e ∷ out) ((e.0, v) ∷ out) (e ∷ insert_entry R out k v)) greater)

    by : (r : Ordering) → R k e.0 ≡ r → remove_entry (is_at (R old)) (insert_entry R es k v) ≡ insert_entry R out k v
        → remove_entry (is_at (R old)) (match_ordering r ((k, v) ∷ e ∷ es) ((e.0, v) ∷ es) (e ∷ insert_entry R es k v)) ≡ insert_entry R
        (cond (is_at (R old) e.0) es (e ∷ out)) k v
    by Less h later = ap (λ b. cond b (e ∷ es) ((k, v) ∷ cond (is_at (R old) e.0) es (e ∷ out))) other ∙ first (is_at (R old) e.0) h
    by Equal h later =
        let apart : is_at (R old) e.0 ≡ false = subst (λ q. is_at (R old) q ≡ false) (exact k e.0 h) other in
        ap (λ b. cond b es ((e.0, v) ∷ out)) apart
        ∙ sym (ap (λ r. match_ordering r ((k, v) ∷ e ∷ out) ((e.0, v) ∷ out) (e ∷ insert_entry R out k v)) h)
        ∙ sym (ap (λ b. insert_entry R (cond b es (e ∷ out)) k v) apart)
    by Greater h later = behind (is_at (R old) e.0) h later
