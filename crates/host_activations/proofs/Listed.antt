-- What is listed of a stretch of hashes: the activations that stand there, each once.
use Rattle.std.proofs.Common.{◌≡◌, inl, inr, refl, sym, ap, subst, ◌∙◌, ℕ, suc, ◌<◌, ◌≤◌, List, [], ◌∷◌, ◌++◌, slice_get, cond, Bool, true, false, ◌&&◌, not, filter, Option, Some, None, is_some, arith}
use Rattle.std.specs.Prelude.{nat_le, nat_lt}
use Rattle.std.specs.BTreeMap.{is_at}
use Rattle.std.specs.BTreeMap.Range.{entries_between, is_past_end, range_contains}
use Rattle.std.specs.List.{AllByRecursion, IsDistinct, cons_option}
use Rattle.std.specs.List.Sorted.{IsStrictlySortedBy}
use Rattle.std.specs.Map.{lookup, keys_of}
use Rattle.std.specs.Option.{option_map}
use Rattle.std.specs.Ordering.{is_gt, is_le, nat_cmp, ordering_then}
use Rattle.std.specs.declared.cmp.Ordering.{Ordering}
use Rattle.std.specs.declared.cmp.Ordering.TheVariants.{Less, Equal, Greater}
use Rattle.std.specs.declared.ops.Bound.TheVariants.{Included, Excluded, Unbounded}
use Rattle.std.proofs.lemmas.Bool.Decides.{nat_tests}
use Rattle.std.proofs.lemmas.Cmp.{eq_by_cmp_equiv, ranked}
use Rattle.std.proofs.lemmas.Map.Entries.{lookup_from_place, place_from_lookup}
use Rattle.std.proofs.lemmas.Map.Keys.{IsDistinct-from_sorted}
use Rattle.std.proofs.lemmas.Option.{none-some, same_Some}
use Rattle.texts.proofs.Orderings.{Equal-from, upto_nat}
use Rattle.silo_address.specs.Grain.{Grain, grain_cmp, grain_eq}
use Rattle.silo_address.proofs.Order.{grain_cmp_exact}
use Rattle.ring_range.specs.Range.{circle}
use Rattle.hash_ring.specs.declared.Hashing.{Hashing}
use Rattle.hash_ring.specs.Hash.{hash_grain}
use Rattle.hash_ring.proofs.HashesBelow.{grain_below}
use Rattle.hash_ring.proofs.Members.{In}
use Rattle.hash_ring.proofs.StrictOrder.{Rising, Rising-filter, Rising-from_sorted}
use Rattle.directory_rules.specs.declared.Held.{Held}
use Rattle.host_activations.specs.Begun.{AreApart}
use Rattle.host_activations.specs.ByHash.{AreByHash, IsUnder, hashed_count_cmp, key_of}
use Rattle.host_activations.specs.Listing.{RiseByHash, hashed_below, hashed_between}
use Rattle.host_activations.specs.Stretch.{end_at, first_at, standing_at}
use Rattle.host_activations.specs.declared.by_hash.HashedCount.{HashedCount}
use Rattle.host_activations.proofs.Grains.{IsFoundIn, grain_at_itself, not_at, on_grain, same_test}
use Rattle.host_activations.proofs.Indexed.{found_at, hashed_count_cmp_total, is_itself, on_key}

-- ---- A stretch of hashes stands between its bounds.
-- whether the hash is at the first or after it, and before the end, where that is no more than a hash
abbrev is_between : (first end hash : ℕ) → Bool
is_between first end hash = nat_le first hash && not (nat_lt end circle && nat_le end hash)

from_first : (first hash : ℕ) (r : Ordering) → is_gt r ≡ false → is_le (ordering_then (nat_cmp first hash) r) ≡ nat_le first hash
from_first first hash r least = by (nat_cmp first hash) refl r least
  where
    by : (o : Ordering) → o ≡ nat_cmp first hash → (r : Ordering) → is_gt r ≡ false → is_le (ordering_then o r) ≡ nat_le first hash
    by Less ranks r least = let below : first < hash = ranked first hash Less ranks in grind (arith, nat_tests)
    by Equal ranks Less least = let same : first ≡ hash = ranked first hash Equal ranks in grind (arith, nat_tests)
    by Equal ranks Equal least = let same : first ≡ hash = ranked first hash Equal ranks in grind (arith, nat_tests)
    by Equal ranks Greater least = cc
    by Greater ranks r least = let above : hash < first = ranked first hash Greater ranks in grind (arith, nat_tests)

contains_between : (first end : ℕ) (key : HashedCount)
    → range_contains hashed_count_cmp (Included (first_at first)) (end_at end) key ≡ is_between first end key.hash
contains_between first end key =
    λ i. from_first first key.hash (nat_cmp 0 key.count) (upto_nat 0 key.count (omega arith)) i && not (past (nat_lt end circle) i)
  where
    past : (b : Bool) → is_past_end hashed_count_cmp (cond b (Excluded (first_at end)) Unbounded) key ≡ (b && nat_le end key.hash)
    past true = from_first end key.hash (nat_cmp 0 key.count) (upto_nat 0 key.count (omega arith))
    past false = refl

same_passed : {X : Type 0} (p q : X → Bool) (xs : List X) → ((x : X) → p x ≡ q x) → filter p xs ≡ filter q xs
same_passed p q [] same = refl
same_passed p q (x ∷ xs) same = λ i. cond (same x i) (x ∷ same_passed p q xs same i) (same_passed p q xs same i)

-- and those that agree at each of them
passed_alike : {X : Type 0} (p q : X → Bool) (xs : List X) → AllByRecursion (λ x. p x ≡ q x) xs → filter p xs ≡ filter q xs
passed_alike p q [] all = refl
passed_alike p q (x ∷ xs) all = λ i. cond (all.0 i) (x ∷ passed_alike p q xs all.1 i) (passed_alike p q xs all.1 i)

each_weaker : (P Q : HashedCount × ℕ → Type 0) (xs : List (HashedCount × ℕ)) → ((x : HashedCount × ℕ) → P x → Q x)
    → AllByRecursion P xs → AllByRecursion Q xs
each_weaker P Q [] so all = tt
each_weaker P Q (x ∷ xs) so all = (so x all.0, each_weaker P Q xs so all.1)

-- ---- Each hash is one of the circle.
-- what is listed stands under hashes of the circle
abbrev pub AreHashes : List (HashedCount × ℕ) → Type 0
AreHashes hashed = AllByRecursion (λ x. x.0.hash < circle) hashed

between_test : (first end hash : ℕ) → end ≤ circle → hash < circle → is_between first end hash ≡ (nat_le first hash && nat_lt hash end)
between_test first end hash within below = ap (λ b. nat_le first hash && b) upto_end
  where
    upto_end : not (nat_lt end circle && nat_le end hash) ≡ nat_lt hash end
    upto_end = grind (arith, nat_tests)

pub between_are : (first end : ℕ) → end ≤ circle → (hashed : List (HashedCount × ℕ)) → AreHashes hashed
    → entries_between hashed_count_cmp (Included (first_at first)) (end_at end) hashed ≡ hashed_between first end hashed
between_are first end within hashed below =
    passed_alike (λ (x : HashedCount × ℕ). range_contains hashed_count_cmp (Included (first_at first)) (end_at end) x.0)
    (λ (x : HashedCount × ℕ). nat_le first x.0.hash && nat_lt x.0.hash end) hashed
    (each_weaker (λ x. x.0.hash < circle)
    (λ x. range_contains hashed_count_cmp (Included (first_at first)) (end_at end) x.0 ≡ (nat_le first x.0.hash && nat_lt x.0.hash end))
    hashed
    (λ x less. contains_between first end x.0 ∙ between_test first end x.0.hash within less) below)

-- those below a bound of those up to an end
abbrev is_below : (first end bound hash : ℕ) → Bool
is_below first end bound hash = (nat_le first hash && nat_lt hash end) && nat_lt hash bound

below_twice : (first end bound : ℕ) (hashed : List (HashedCount × ℕ))
    → hashed_below bound (hashed_between first end hashed) ≡ filter (λ x. is_below first end bound x.0.hash) hashed
below_twice first end bound [] = refl
below_twice first end bound (x ∷ xs) = by (nat_le first x.0.hash && nat_lt x.0.hash end) (below_twice first end bound xs)
  where
    by : (b : Bool) → hashed_below bound (hashed_between first end xs) ≡ filter (λ x. is_below first end bound x.0.hash) xs
        → hashed_below bound (cond b (x ∷ hashed_between first end xs) (hashed_between first end xs))
        ≡ cond (b && nat_lt x.0.hash bound) (x ∷ filter (λ x. is_below first end bound x.0.hash) xs)
        (filter (λ x. is_below first end bound x.0.hash) xs)
    by true rest = ap (λ l. cond (nat_lt x.0.hash bound) (x ∷ l) l) rest
    by false rest = rest

pub below_earlier : (first end bound : ℕ) → bound ≤ end → (hashed : List (HashedCount × ℕ))
    → hashed_below bound (hashed_between first end hashed) ≡ hashed_between first bound hashed
below_earlier first end bound less hashed =
    below_twice first end bound hashed
    ∙ same_passed (λ (x : HashedCount × ℕ). is_below first end bound x.0.hash)
    (λ (x : HashedCount × ℕ). nat_le first x.0.hash && nat_lt x.0.hash bound) hashed
    (λ (x : HashedCount × ℕ). tests (nat_le first x.0.hash) x.0.hash)
  where
    tests : (b : Bool) (hash : ℕ) → ((b && nat_lt hash end) && nat_lt hash bound) ≡ (b && nat_lt hash bound)
    tests true hash = grind (arith, nat_tests)
    tests false hash = refl

pub below_later : (first end bound : ℕ) → end ≤ bound → (hashed : List (HashedCount × ℕ))
    → hashed_below bound (hashed_between first end hashed) ≡ hashed_between first end hashed
below_later first end bound more hashed =
    below_twice first end bound hashed
    ∙ same_passed (λ (x : HashedCount × ℕ). is_below first end bound x.0.hash)
    (λ (x : HashedCount × ℕ). nat_le first x.0.hash && nat_lt x.0.hash end) hashed
    (λ (x : HashedCount × ℕ). tests (nat_le first x.0.hash) x.0.hash)
  where
    tests : (b : Bool) (hash : ℕ) → ((b && nat_lt hash end) && nat_lt hash bound) ≡ (b && nat_lt hash end)
    tests true hash = grind (arith, nat_tests)
    tests false hash = refl

-- ---- All that are listed are there.
module _ (hashing : Hashing) (es : List (Grain × Held)) where
  from_each : {X : Type 0} (P : X → Type 0) (xs : List X) → ((i : ℕ) (x : X) → slice_get xs i ≡ Some x → P x) → AllByRecursion P xs
  from_each P [] each = tt
  from_each P (x ∷ xs) each = (each 0 x refl, from_each P xs (λ i y at. each (suc i) y at))

  all_passed : {X : Type 0} (P : X → Type 0) (p : X → Bool) (xs : List X) → AllByRecursion P xs → AllByRecursion P (filter p xs)
  all_passed P p [] all = tt
  all_passed P p (x ∷ xs) all = by (p x) (all_passed P p xs all.1)
    where
      by : (b : Bool) → AllByRecursion P (filter p xs) → AllByRecursion P (cond b (x ∷ filter p xs) (filter p xs))
      by true rest = (all.0, rest)
      by false rest = rest

  pub each_under : (hashed : List (HashedCount × ℕ)) → AreByHash hashing es hashed → IsStrictlySortedBy hashed_count_cmp (keys_of hashed)
      → AllByRecursion (IsUnder hashing es) hashed
  each_under hashed are sorted =
      from_each (IsUnder hashing es) hashed
      (λ i x at. (are x.0 x.1).0 (lookup_from_place (eq_by_cmp_equiv hashed_count_cmp_total) hashed i x.0 x.1
      (IsDistinct-from_sorted hashed_count_cmp (keys_of hashed) sorted) at))

  pub all_under : (p : HashedCount × ℕ → Bool) (hashed : List (HashedCount × ℕ)) → AreByHash hashing es hashed
      → IsStrictlySortedBy hashed_count_cmp (keys_of hashed) → AllByRecursion (IsUnder hashing es) (filter p hashed)
  all_under p hashed are sorted = all_passed (IsUnder hashing es) p hashed (each_under hashed are sorted)

  pub all_found : IsDistinct grain_eq (keys_of es) → (listed : List (HashedCount × ℕ))
      → AllByRecursion (IsFoundIn es) (standing_at es listed)
  all_found apart [] = tt
  all_found apart (x ∷ listed) = by (slice_get es x.1) refl (all_found apart listed)
    where
      by : (o : Option (Grain × Held)) → slice_get es x.1 ≡ o → AllByRecursion (IsFoundIn es) (standing_at es listed)
          → AllByRecursion (IsFoundIn es) (cons_option o (standing_at es listed))
      by None at rest = rest
      by (Some e) at rest = (found_at es apart x.1 e at, rest)

  -- ---- And what is there is listed.
  is_listed : (p : HashedCount × ℕ → Bool) (q : Grain) (h : Held) (index : ℕ) (key : HashedCount) → slice_get es index ≡ Some (q, h)
      → p (key, index) ≡ true
      → (hashed : List (HashedCount × ℕ)) → lookup (is_at (hashed_count_cmp key)) hashed ≡ Some index
      → is_some (lookup (is_at (grain_cmp q)) (standing_at es (filter p hashed))) ≡ true
  is_listed p q h index key stands passes [] found = cc
  is_listed p q h index key stands passes (x ∷ hashed) found =
      on_key (λ b. cond b (Some x.1) (lookup (is_at (hashed_count_cmp key)) hashed) ≡ Some index
      → is_some (lookup (is_at (grain_cmp q)) (standing_at es (cond (p x) (x ∷ filter p hashed) (filter p hashed)))) ≡ true)
      key x.0
      (λ same at. here (same_Some x.1 index at) same)
      (λ other at. later (p x) (is_listed p q h index key stands passes hashed at)) found
    where
      here : x.1 ≡ index → key ≡ x.0 → is_some (lookup (is_at (grain_cmp q))
          (standing_at es (cond (p x) (x ∷ filter p hashed) (filter p hashed)))) ≡ true
      here at same =
          ap (λ b. is_some (lookup (is_at (grain_cmp q)) (standing_at es (cond b (x ∷ filter p hashed) (filter p hashed)))))
          ((λ i. p (sym same i, at i)) ∙ passes)
          ∙ ap (λ o. is_some (lookup (is_at (grain_cmp q)) (cons_option o (standing_at es (filter p hashed)))))
          (ap (slice_get es) at ∙ stands)
          ∙ ap (λ b. is_some (cond b (Some h) (lookup (is_at (grain_cmp q)) (standing_at es (filter p hashed))))) (grain_at_itself q)

      behind : (o : Option (Grain × Held)) (rest : List (Grain × Held)) → is_some (lookup (is_at (grain_cmp q)) rest) ≡ true
          → is_some (lookup (is_at (grain_cmp q)) (cons_option o rest)) ≡ true
      behind None rest there = there
      behind (Some e) rest there = either_way (is_at (grain_cmp q) e.0)
        where
          either_way : (b : Bool) → is_some (cond b (Some e.1) (lookup (is_at (grain_cmp q)) rest)) ≡ true
          either_way true = refl
          either_way false = there

      later : (b : Bool) → is_some (lookup (is_at (grain_cmp q)) (standing_at es (filter p hashed))) ≡ true
          → is_some (lookup (is_at (grain_cmp q)) (standing_at es (cond b (x ∷ filter p hashed) (filter p hashed)))) ≡ true
      later true there = behind (slice_get es x.1) (standing_at es (filter p hashed)) there
      later false there = there

  pub are_hashes : (hashed : List (HashedCount × ℕ)) → AllByRecursion (IsUnder hashing es) hashed → AreHashes hashed
  are_hashes [] under = tt
  are_hashes (x ∷ hashed) under = (by (slice_get es x.1) under.0, are_hashes hashed under.1)
    where
      by : (o : Option (Grain × Held)) → option_map (key_of hashing) o ≡ Some x.0 → x.0.hash < circle
      by None key = absurd (none-some x.0 key)
      by (Some e) key =
          subst (λ (n : ℕ). n < circle) (ap (λ (k : HashedCount). k.hash) (same_Some (key_of hashing e) x.0 key)) (grain_below hashing e.0)

  -- what passes a test by its hash is there, where the activation's hash passes
  pub listed_there : (test : ℕ → Bool) (hashed : List (HashedCount × ℕ)) → AreByHash hashing es hashed → (q : Grain) (h : Held)
      → lookup (is_at (grain_cmp q)) es ≡ Some h → test (hash_grain hashing q) ≡ true
      → is_some (lookup (is_at (grain_cmp q)) (standing_at es (filter (λ x. test x.0.hash) hashed))) ≡ true
  listed_there test hashed are q h there passes =
      let at = place_from_lookup (is_at (grain_cmp q)) es h there in
      let same : q ≡ at.1 = grain_cmp_exact q at.1 (Equal-from (grain_cmp q at.1) at.3) in
      let stands : slice_get es at.0 ≡ Some (q, h) = at.2 ∙ ap (λ (g : Grain). Some (g, h)) (sym same) in
      is_listed (λ x. test x.0.hash) q h at.0 (key_of hashing (q, h)) stands passes hashed
      ((are (key_of hashing (q, h)) at.0).1 (ap (option_map (key_of hashing)) stands))

  -- what holds of the hashes of all that are listed holds of the hash of what is found there
  pub found_under : (P : ℕ → Type 0) (listed : List (HashedCount × ℕ)) → AllByRecursion (IsUnder hashing es) listed
      → AllByRecursion (λ x. P x.0.hash) listed → (q : Grain) (h : Held)
      → lookup (is_at (grain_cmp q)) (standing_at es listed) ≡ Some h → P (hash_grain hashing q)
  found_under P [] under all q h found = absurd (none-some h found)
  found_under P (x ∷ listed) under all q h found = by (slice_get es x.1) under.0 found (found_under P listed under.1 all.1 q h)
    where
      by : (o : Option (Grain × Held)) → option_map (key_of hashing) o ≡ Some x.0
          → lookup (is_at (grain_cmp q)) (cons_option o (standing_at es listed)) ≡ Some h
          → (lookup (is_at (grain_cmp q)) (standing_at es listed) ≡ Some h → P (hash_grain hashing q)) → P (hash_grain hashing q)
      by None key found later = absurd (none-some x.0 key)
      by (Some e) key found later =
          on_grain (λ b. cond b (Some e.1) (lookup (is_at (grain_cmp q)) (standing_at es listed)) ≡ Some h → P (hash_grain hashing q)) q e.0
          (λ same at. subst P
          (sym (ap (λ (k : HashedCount). k.hash) (same_Some (key_of hashing e) x.0 key)) ∙ ap (hash_grain hashing) (sym same)) all.0)
          (λ other at. later at) found

-- ---- Each stands there once.
-- pairs whose keys stand in order stand in order
abbrev pair_cmp : HashedCount × ℕ → HashedCount × ℕ → Ordering
pair_cmp x y = hashed_count_cmp x.0 y.0

from_keys : (xs : List (HashedCount × ℕ)) → Rising hashed_count_cmp (keys_of xs) → Rising pair_cmp xs
from_keys [] rising = tt
from_keys (x ∷ xs) rising = (λ y there. rising.0 y.0 (key_in y xs there), from_keys xs rising.1)
  where
    key_in : (y : HashedCount × ℕ) (ys : List (HashedCount × ℕ)) → In y ys → In y.0 (keys_of ys)
    key_in y [] there = absurd there
    key_in y (z ∷ ys) (inl here) = inl (ap (λ (w : HashedCount × ℕ). w.0) here)
    key_in y (z ∷ ys) (inr later) = inr (key_in y ys later)

-- so none of them stands under the key of one before it
abbrev pub AreOnce : List (HashedCount × ℕ) → Type 0
AreOnce [] = Unit {0}
AreOnce (x ∷ xs) = AllByRecursion (λ y. x.0 ≡ y.0 → ⊥) xs × AreOnce xs

once_from_rising : (xs : List (HashedCount × ℕ)) → Rising pair_cmp xs → AreOnce xs
once_from_rising [] rising = tt
once_from_rising (x ∷ xs) rising = (all_of xs (λ y there same. apart y (rising.0 y there) same), once_from_rising xs rising.1)
  where
    apart : (y : HashedCount × ℕ) → hashed_count_cmp x.0 y.0 ≡ Less → x.0 ≡ y.0 → ⊥
    apart y less same =
        let no : Less ≡ Equal = sym less ∙ ap (hashed_count_cmp x.0) (sym same) ∙ Equal-from (hashed_count_cmp x.0 x.0) (is_itself x.0) in
        cc

    all_of : (ys : List (HashedCount × ℕ)) → ((y : HashedCount × ℕ) → In y ys → x.0 ≡ y.0 → ⊥) → AllByRecursion (λ y. x.0 ≡ y.0 → ⊥) ys
    all_of [] each = tt
    all_of (y ∷ ys) each = (each y (inl refl), all_of ys (λ z there. each z (inr there)))

pub listed_once : (p : HashedCount × ℕ → Bool) (hashed : List (HashedCount × ℕ)) → IsStrictlySortedBy hashed_count_cmp (keys_of hashed)
    → AreOnce (filter p hashed)
listed_once p hashed sorted =
    once_from_rising (filter p hashed)
    (Rising-filter pair_cmp p hashed (from_keys hashed (Rising-from_sorted hashed_count_cmp (keys_of hashed) sorted)))

-- of two stretches, too, where none of the one stands under a key of the other
pub both_once : (xs ys : List (HashedCount × ℕ)) → AreOnce xs → AreOnce ys
    → AllByRecursion (λ x. AllByRecursion (λ y. x.0 ≡ y.0 → ⊥) ys) xs → AreOnce (xs ++ ys)
both_once [] ys one other apart = other
both_once (x ∷ xs) ys one other apart = (both xs ys one.0 apart.0, both_once xs ys one.1 other apart.1)
  where
    both : (vs ws : List (HashedCount × ℕ)) → AllByRecursion (λ y. x.0 ≡ y.0 → ⊥) vs → AllByRecursion (λ y. x.0 ≡ y.0 → ⊥) ws
        → AllByRecursion (λ y. x.0 ≡ y.0 → ⊥) (vs ++ ws)
    both [] ws first second = second
    both (v ∷ vs) ws first second = (first.0, both vs ws first.1 second)

-- no hash is below one before it
pub rise_by_hash : (p : HashedCount × ℕ → Bool) (hashed : List (HashedCount × ℕ)) → IsStrictlySortedBy hashed_count_cmp (keys_of hashed)
    → RiseByHash (filter p hashed)
rise_by_hash p hashed sorted =
    from_rising (filter p hashed)
    (Rising-filter pair_cmp p hashed (from_keys hashed (Rising-from_sorted hashed_count_cmp (keys_of hashed) sorted)))
  where
    upto : (a b : HashedCount) → hashed_count_cmp a b ≡ Less → a.hash ≤ b.hash
    upto a b less = by (nat_cmp a.hash b.hash) refl less
      where
        by : (r : Ordering) → r ≡ nat_cmp a.hash b.hash → ordering_then r (nat_cmp a.count b.count) ≡ Less → a.hash ≤ b.hash
        by Less ranks less = let below : a.hash < b.hash = ranked a.hash b.hash Less ranks in omega (arith, below)
        by Equal ranks less = let same : a.hash ≡ b.hash = ranked a.hash b.hash Equal ranks in omega (arith, same)
        by Greater ranks less = cc

    from_rising : (xs : List (HashedCount × ℕ)) → Rising pair_cmp xs → RiseByHash xs
    from_rising [] rising = tt
    from_rising (x ∷ xs) rising = (each xs (λ y there. upto x.0 y.0 (rising.0 y there)), from_rising xs rising.1)
      where
        each : (ys : List (HashedCount × ℕ)) → ((y : HashedCount × ℕ) → In y ys → x.0.hash ≤ y.0.hash)
            → AllByRecursion (λ y. x.0.hash ≤ y.0.hash) ys
        each [] so = tt
        each (y ∷ ys) so = (so y (inl refl), each ys (λ z there. so z (inr there)))

module _ (hashing : Hashing) (es : List (Grain × Held)) (are : AreApart es) where
  other_grains : (e : Grain × Held) → IsFoundIn es e → (listed : List (HashedCount × ℕ)) → AllByRecursion (IsUnder hashing es) listed
      → AllByRecursion (λ y. key_of hashing e ≡ y.0 → ⊥) listed
      → AllByRecursion (λ g. grain_eq e.0 g ≡ false) (keys_of (standing_at es listed))
  other_grains e found [] under apart = tt
  other_grains e found (y ∷ listed) under apart = by (slice_get es y.1) refl under.0 (other_grains e found listed under.1 apart.1)
    where
      never : (f : Grain × Held) → IsFoundIn es f → key_of hashing f ≡ y.0 → e.0 ≡ f.0 → ⊥
      never f also key same =
          let held : e.1 ≡ f.1 = same_Some e.1 f.1 (sym found ∙ ap (λ (g : Grain). lookup (is_at (grain_cmp g)) es) same ∙ also) in
          apart.0 ((λ i. key_of hashing (same i, held i)) ∙ key)

      by : (o : Option (Grain × Held)) → slice_get es y.1 ≡ o → option_map (key_of hashing) o ≡ Some y.0
          → AllByRecursion (λ g. grain_eq e.0 g ≡ false) (keys_of (standing_at es listed))
          → AllByRecursion (λ g. grain_eq e.0 g ≡ false) (keys_of (cons_option o (standing_at es listed)))
      by None at key rest = rest
      by (Some f) at key rest =
          (same_test e.0 f.0 ∙ not_at e.0 f.0 (never f (found_at es are.grains y.1 f at) (same_Some (key_of hashing f) y.0 key)), rest)

  pub stand_once : (listed : List (HashedCount × ℕ)) → AllByRecursion (IsUnder hashing es) listed → AreOnce listed
      → IsDistinct grain_eq (keys_of (standing_at es listed))
  unfolding IsDistinct
  stand_once [] under once = tt
  stand_once (x ∷ listed) under once = by (slice_get es x.1) refl under.0 (stand_once listed under.1 once.1)
    where
      by : (o : Option (Grain × Held)) → slice_get es x.1 ≡ o → option_map (key_of hashing) o ≡ Some x.0
          → IsDistinct grain_eq (keys_of (standing_at es listed))
          → IsDistinct grain_eq (keys_of (cons_option o (standing_at es listed)))
      by None at key rest = rest
      by (Some e) at key rest = (
        other_grains e (found_at es are.grains x.1 e at) listed under.1
            (subst (λ k. AllByRecursion (λ y. k ≡ y.0 → ⊥) listed) (sym (same_Some (key_of hashing e) x.0 key)) once.0),
        rest,
      )

  pub among_all : (listed : List (Grain × Held)) → AllByRecursion (IsFoundIn es) listed → (q : Grain) (h : Held)
      → lookup (is_at (grain_cmp q)) listed ≡ Some h → lookup (is_at (grain_cmp q)) es ≡ Some h
  among_all [] all q h is = cc
  among_all (e ∷ listed) all q h is =
      on_grain (λ b. cond b (Some e.1) (lookup (is_at (grain_cmp q)) listed) ≡ Some h → lookup (is_at (grain_cmp q)) es ≡ Some h) q e.0
      (λ same at. ap (λ (g : Grain). lookup (is_at (grain_cmp g)) es) same ∙ all.0 ∙ at) (λ other at. among_all listed all.1 q h at) is
