-- Entries in the order of their keys: what is found after one is put in, taken out or changed, and among those of them that a
-- function picks.
use Rattle.std.proofs.Common.{◌≡◌, suc, ◌+◌, List, [], ◌∷◌, length, cond, Bool, true, false, if◌then◌else◌, refl, sym, ◌∙◌, ap, map, Option, Some, None, option_and_then, arith}
use Rattle.std.specs.Cmp.{IsTotalOrder}
use Rattle.std.proofs.lemmas.Cmp.{alike_right, tied_itself}
use Rattle.std.proofs.lemmas.Map.Keys.{sorted_head, sorted_tail}
use Rattle.std.proofs.lemmas.Option.{same_Some}
use Rattle.std.specs.Option.{option_map}
use Rattle.std.specs.List.{AllByRecursion, filter_map, cons_option}
use Rattle.std.specs.List.Sorted.{IsStrictlySortedBy}
use Rattle.std.specs.Map.{lookup, keys_of, remove_entry, set_value}
use Rattle.std.specs.BTreeMap.{is_at, insert_entry}
use Rattle.std.specs.Ordering.{is_eq, match_ordering, ordering_reverse}
use Rattle.std.specs.declared.cmp.Ordering.{Ordering}
use Rattle.std.specs.declared.cmp.Ordering.TheVariants.{Less, Equal, Greater}
use Rattle.texts.proofs.Orderings.{Equal-from}

twice : {A : Type 0} (b : Bool) (x y z : A) → cond b x z ≡ cond b x (cond b y z)
twice true x y z = refl
twice false x y z = refl

pub swapped : {A : Type 0} (b c : Bool) (x y z : A) → (b ≡ true → c ≡ true → ⊥) → cond b x (cond c y z) ≡ cond c y (cond b x z)
swapped true true x y z never = absurd (never refl refl)
swapped true false x y z never = refl
swapped false c x y z never = refl

apart : (r : Ordering) → r ≡ Greater → r ≡ Equal → ⊥
apart r g e = let h : Greater ≡ Equal = sym g ∙ e in cc

below : (r : Ordering) → r ≡ Less → is_eq r ≡ false
below r h = ap is_eq h

pub sorted-nil : {K : Type 0} (R : K → K → Ordering) → IsStrictlySortedBy R []
unfolding IsStrictlySortedBy
sorted-nil R = tt

module _ {K X : Type 0} (test : K → Bool) where
  pub all-remove_entry : (P : K → Type 0) (es : List (K × X)) → AllByRecursion P (keys_of es)
      → AllByRecursion P (keys_of (remove_entry test es))
  all-remove_entry P [] all = tt
  all-remove_entry P (e ∷ es) all = by (test e.0) (all-remove_entry P es all.1)
    where
      by : (b : Bool) → AllByRecursion P (keys_of (remove_entry test es))
          → AllByRecursion P (keys_of (cond b es (e ∷ remove_entry test es)))
      by true later = all.1
      by false later = (all.0, later)

  -- the keys stay in order where one is taken out
  pub sorted-remove_entry : (R : K → K → Ordering) (es : List (K × X)) → IsStrictlySortedBy R (keys_of es)
      → IsStrictlySortedBy R (keys_of (remove_entry test es))
  unfolding IsStrictlySortedBy
  sorted-remove_entry R [] s = tt
  sorted-remove_entry R (e ∷ es) s = by (test e.0) (sorted-remove_entry R es s.1)
    where
      by : (b : Bool) → IsStrictlySortedBy R (keys_of (remove_entry test es))
          → IsStrictlySortedBy R (keys_of (cond b es (e ∷ remove_entry test es)))
      by true later = s.1
      by false later = (all-remove_entry (λ y. R e.0 y ≡ Less) es s.0, later)

module _ {K X : Type 0} {R : K → K → Ordering} (o : IsTotalOrder R) where
  -- what is found where an entry is put in
  pub lookup-insert_entry : (k : K) (v : X) (q : K) (es : List (K × X))
      → lookup (is_at (R q)) (insert_entry R es k v) ≡ cond (is_at (R q) k) (Some v) (lookup (is_at (R q)) es)
  lookup-insert_entry k v q [] = refl
  lookup-insert_entry k v q (e ∷ es) = by (R k e.0) refl (lookup-insert_entry k v q es)
    where
      by : (r : Ordering) → R k e.0 ≡ r → lookup (is_at (R q)) (insert_entry R es k v) ≡ cond (is_at (R q) k) (Some v)
          (lookup (is_at (R q)) es)
          → lookup (is_at (R q)) (match_ordering r ((k, v) ∷ e ∷ es) ((e.0, v) ∷ es) (e ∷ insert_entry R es k v))
          ≡ cond (is_at (R q) k) (Some v) (cond (is_at (R q) e.0) (Some e.1) (lookup (is_at (R q)) es))
      by Less h later = refl
      by Equal h later =
          twice (is_at (R q) e.0) (Some v) (Some e.1) (lookup (is_at (R q)) es)
          ∙ ap (λ r. cond (is_eq r) (Some v) (cond (is_at (R q) e.0) (Some e.1) (lookup (is_at (R q)) es)))
          (sym (alike_right o k e.0 q h))
      by Greater h later =
          ap (λ l. cond (is_at (R q) e.0) (Some e.1) l) later
          ∙ swapped (is_at (R q) e.0) (is_at (R q) k) (Some e.1) (Some v) (lookup (is_at (R q)) es) (λ a b.
          apart (R k e.0) h (sym (o.congr q k e.0 (Equal-from (R q k) b)) ∙ Equal-from (R q e.0) a))

  -- one entry more, where its key is new
  pub length-insert_entry : (k : K) (v : X) (es : List (K × X)) → lookup (is_at (R k)) es ≡ None
      → length (insert_entry R es k v) ≡ length es + 1
  length-insert_entry k v [] new = refl
  length-insert_entry k v (e ∷ es) new = by (R k e.0) new (length-insert_entry k v es)
    where
      by : (r : Ordering) → cond (is_eq r) (Some e.1) (lookup (is_at (R k)) es) ≡ None
          → (lookup (is_at (R k)) es ≡ None → length (insert_entry R es k v) ≡ length es + 1)
          → length (match_ordering r ((k, v) ∷ e ∷ es) ((e.0, v) ∷ es) (e ∷ insert_entry R es k v)) ≡ length (e ∷ es) + 1
      by Less none later = omega arith
      by Equal none later = cc
      by Greater none later = let h : length (insert_entry R es k v) ≡ length es + 1 = later none in omega arith

  all-insert_entry : (P : K → Type 0) (k : K) (v : X) (es : List (K × X)) → P k → AllByRecursion P (keys_of es)
      → AllByRecursion P (keys_of (insert_entry R es k v))
  all-insert_entry P k v [] p all = (p, tt)
  all-insert_entry P k v (e ∷ es) p all = by (R k e.0) (all-insert_entry P k v es p all.1)
    where
      by : (r : Ordering) → AllByRecursion P (keys_of (insert_entry R es k v))
          → AllByRecursion P (keys_of (match_ordering r ((k, v) ∷ e ∷ es) ((e.0, v) ∷ es) (e ∷ insert_entry R es k v)))
      by Less later = (p, all)
      by Equal later = all
      by Greater later = (all.0, later)

  pub all_above : (j k : K) (es : List (K × X)) → R j k ≡ Less → AllByRecursion (λ y. R k y ≡ Less) (keys_of es)
      → AllByRecursion (λ y. R j y ≡ Less) (keys_of es)
  all_above j k [] below above = tt
  all_above j k (e ∷ es) below above = (o.trans j k e.0 below above.0, all_above j k es below above.1)

  -- the keys stay in order
  pub sorted-insert_entry : (k : K) (v : X) (es : List (K × X)) → IsStrictlySortedBy R (keys_of es)
      → IsStrictlySortedBy R (keys_of (insert_entry R es k v))
  unfolding IsStrictlySortedBy
  sorted-insert_entry k v [] s = (tt, tt)
  sorted-insert_entry k v (e ∷ es) s = by (R k e.0) refl (sorted-insert_entry k v es s.1)
    where
      by : (r : Ordering) → R k e.0 ≡ r → IsStrictlySortedBy R (keys_of (insert_entry R es k v))
          → IsStrictlySortedBy R (keys_of (match_ordering r ((k, v) ∷ e ∷ es) ((e.0, v) ∷ es) (e ∷ insert_entry R es k v)))
      by Less h later = ((h, all_above k e.0 es h s.0), s)
      by Equal h later = s
      by Greater h later = (all-insert_entry (λ y. R e.0 y ≡ Less) k v es (less_from h) s.0, later)
        where
          less_from : R k e.0 ≡ Greater → R e.0 k ≡ Less
          less_from g = o.antisymm e.0 k ∙ ap ordering_reverse g

  -- what was put in at a new key and is taken out again leaves the entries as they were
  pub remove-insert_entry : (k : K) (v : X) (es : List (K × X)) → lookup (is_at (R k)) es ≡ None
      → remove_entry (is_at (R k)) (insert_entry R es k v) ≡ es
  remove-insert_entry k v [] none = ap (λ r. cond (is_eq r) [] ((k, v) ∷ [])) (tied_itself o k)
  remove-insert_entry k v (e ∷ es) none = by (R k e.0) refl none (remove-insert_entry k v es)
    where
      by : (r : Ordering) → R k e.0 ≡ r → cond (is_eq r) (Some e.1) (lookup (is_at (R k)) es) ≡ None
          → (lookup (is_at (R k)) es ≡ None → remove_entry (is_at (R k)) (insert_entry R es k v) ≡ es)
          → remove_entry (is_at (R k)) (match_ordering r ((k, v) ∷ e ∷ es) ((e.0, v) ∷ es) (e ∷ insert_entry R es k v)) ≡ e ∷ es
      by Less is none later = ap (λ r. cond (is_eq r) (e ∷ es) ((k, v) ∷ remove_entry (is_at (R k)) (e ∷ es))) (tied_itself o k)
      by Equal is none later = cc
      by Greater is none later =
          ap (λ r. cond (is_eq r) (insert_entry R es k v) (e ∷ remove_entry (is_at (R k)) (insert_entry R es k v))) is
          ∙ ap (λ l. e ∷ l) (later none)

  -- the values, with a change made to that at one key
  abbrev changed_at : (X → X) → K → List (K × X) → List (K × X)
  changed_at f k es = map (λ e. (e.0, if is_at (R k) e.0 then f e.1 else e.1)) es

  pub keys-changed : (f : X → X) (k : K) (es : List (K × X)) → keys_of (changed_at f k es) ≡ keys_of es
  keys-changed f k [] = refl
  keys-changed f k (e ∷ es) = ap (λ l. e.0 ∷ l) (keys-changed f k es)

  pub length-changed : (f : X → X) (k : K) (es : List (K × X)) → length (changed_at f k es) ≡ length es
  length-changed f k [] = refl
  length-changed f k (e ∷ es) = ap (λ n. suc n) (length-changed f k es)

  -- what is found where the value at one key is changed
  pub lookup-changed : (f : X → X) (k q : K) (es : List (K × X))
      → lookup (is_at (R q)) (changed_at f k es) ≡ option_map (λ x. if is_at (R k) q then f x else x) (lookup (is_at (R q)) es)
  lookup-changed f k q [] = refl
  lookup-changed f k q (e ∷ es) = by (R q e.0) refl (lookup-changed f k q es)
    where
      by : (r : Ordering) → R q e.0 ≡ r → lookup (is_at (R q)) (changed_at f k es) ≡ option_map (λ x. if is_at (R k) q then f x else x)
          (lookup (is_at (R q)) es)
          → cond (is_eq r) (Some (if is_at (R k) e.0 then f e.1 else e.1)) (lookup (is_at (R q)) (changed_at f k es))
          ≡ option_map (λ x. if is_at (R k) q then f x else x) (cond (is_eq r) (Some e.1) (lookup (is_at (R q)) es))
      by Less h later = later
      by Equal h later = ap (λ r. Some (if is_eq r then f e.1 else e.1)) (sym (alike_right o q e.0 k h))
      by Greater h later = later

  unchanged_above : (f : X → X) (j k : K) (es : List (K × X)) → R k j ≡ Equal → AllByRecursion (λ y. R j y ≡ Less) (keys_of es)
      → changed_at f k es ≡ es
  unchanged_above f j k [] same above = refl
  unchanged_above f j k (e ∷ es) same above =
      ap (λ r. (e.0, if is_eq r then f e.1 else e.1) ∷ changed_at f k es) (o.congr k j e.0 same ∙ above.0)
      ∙ ap (λ l. e ∷ l) (unchanged_above f j k es same above.1)

  -- a value that was found, written back changed
  pub set_value-changed : (f : X → X) (k : K) (es : List (K × X)) (x : X) → IsStrictlySortedBy R (keys_of es)
      → lookup (is_at (R k)) es ≡ Some x → set_value (is_at (R k)) es (f x) ≡ changed_at f k es
  set_value-changed f k [] x s found = refl
  set_value-changed f k (e ∷ es) x s found = by (R k e.0) refl found (set_value-changed f k es x (sorted_tail R e.0 (keys_of es) s))
    where
      by : (r : Ordering) → R k e.0 ≡ r → cond (is_eq r) (Some e.1) (lookup (is_at (R k)) es) ≡ Some x
          → (lookup (is_at (R k)) es ≡ Some x → set_value (is_at (R k)) es (f x) ≡ changed_at f k es)
          → cond (is_eq r) ((e.0, f x) ∷ es) (e ∷ set_value (is_at (R k)) es (f x)) ≡ (e.0, if is_eq r then f e.1 else e.1) ∷ changed_at f k
          es
      by Less h found later = ap (λ l. e ∷ l) (later found)
      by Equal h found later =
          ap (λ y. (e.0, f y) ∷ es) (sym (same_Some e.1 x found))
          ∙ ap (λ l. (e.0, f e.1) ∷ l) (sym (unchanged_above f e.0 k es h (sorted_head R e.0 (keys_of es) s)))
      by Greater h found later = ap (λ l. e ∷ l) (later found)

  -- a change at a key that is not there changes nothing
  pub changed_absent : (f : X → X) (k : K) (es : List (K × X)) → lookup (is_at (R k)) es ≡ None → changed_at f k es ≡ es
  changed_absent f k [] none = refl
  changed_absent f k (e ∷ es) none = by (R k e.0) none (changed_absent f k es)
    where
      by : (r : Ordering) → cond (is_eq r) (Some e.1) (lookup (is_at (R k)) es) ≡ None
          → (lookup (is_at (R k)) es ≡ None → changed_at f k es ≡ es)
          → (e.0, if is_eq r then f e.1 else e.1) ∷ changed_at f k es ≡ e ∷ es
      by Less none later = ap (λ l. e ∷ l) (later none)
      by Equal none later = cc
      by Greater none later = ap (λ l. e ∷ l) (later none)

  module _ {Y : Type 0} (pick : X → Option Y) where
    -- the entries of which a function picks something, with what it picks
    abbrev picked : List (K × X) → List (K × Y)
    picked es = filter_map (λ e. option_map (λ y. (e.0, y)) (pick e.1)) es

    none_picked : (j k : K) (es : List (K × X)) → R k j ≡ Equal → AllByRecursion (λ y. R j y ≡ Less) (keys_of es)
        → lookup (is_at (R k)) (picked es) ≡ None
    none_picked j k [] same above = refl
    none_picked j k (e ∷ es) same above = by (pick e.1) (none_picked j k es same above.1)
      where
        by : (p : Option Y) → lookup (is_at (R k)) (picked es) ≡ None
            → lookup (is_at (R k)) (cons_option (option_map (λ y. (e.0, y)) p) (picked es)) ≡ None
        by None later = later
        by (Some y) later = ap (λ r. cond (is_eq r) (Some y) (lookup (is_at (R k)) (picked es))) (o.congr k j e.0 same ∙ above.0) ∙ later

    -- what is found among what a function picks
    pub lookup-picked : (q : K) (es : List (K × X)) → IsStrictlySortedBy R (keys_of es)
        → lookup (is_at (R q)) (picked es) ≡ option_and_then pick (lookup (is_at (R q)) es)
    lookup-picked q [] s = refl
    lookup-picked q (e ∷ es) s = by (R q e.0) refl (pick e.1) refl (lookup-picked q es (sorted_tail R e.0 (keys_of es) s))
      where
        by : (r : Ordering) → R q e.0 ≡ r → (p : Option Y) → pick e.1 ≡ p
            → lookup (is_at (R q)) (picked es) ≡ option_and_then pick (lookup (is_at (R q)) es)
            → lookup (is_at (R q)) (cons_option (option_map (λ y. (e.0, y)) p) (picked es)) ≡ option_and_then pick
            (cond (is_eq r) (Some e.1) (lookup (is_at (R q)) es))
        by Less h None p later = later
        by Less h (Some y) p later = ap (λ r. cond (is_eq r) (Some y) (lookup (is_at (R q)) (picked es))) h ∙ later
        by Equal h None p later = none_picked e.0 q es h (sorted_head R e.0 (keys_of es) s) ∙ sym p
        by Equal h (Some y) p later = ap (λ r. cond (is_eq r) (Some y) (lookup (is_at (R q)) (picked es))) h ∙ sym p
        by Greater h None p later = later
        by Greater h (Some y) p later = ap (λ r. cond (is_eq r) (Some y) (lookup (is_at (R q)) (picked es))) h ∙ later

    all_picked : (P : K → Type 0) (es : List (K × X)) → AllByRecursion P (keys_of es) → AllByRecursion P (keys_of (picked es))
    all_picked P [] all = tt
    all_picked P (e ∷ es) all = by (pick e.1) (all_picked P es all.1)
      where
        by : (p : Option Y) → AllByRecursion P (keys_of (picked es))
            → AllByRecursion P (keys_of (cons_option (option_map (λ y. (e.0, y)) p) (picked es)))
        by None later = later
        by (Some y) later = (all.0, later)

    -- what is picked stays in order
    pub sorted-picked : (es : List (K × X)) → IsStrictlySortedBy R (keys_of es) → IsStrictlySortedBy R (keys_of (picked es))
    unfolding IsStrictlySortedBy
    sorted-picked [] s = tt
    sorted-picked (e ∷ es) s = by (pick e.1) (sorted-picked es s.1)
      where
        by : (p : Option Y) → IsStrictlySortedBy R (keys_of (picked es))
            → IsStrictlySortedBy R (keys_of (cons_option (option_map (λ y. (e.0, y)) p) (picked es)))
        by None later = later
        by (Some y) later = (all_picked (λ j. R e.0 j ≡ Less) es s.0, later)
