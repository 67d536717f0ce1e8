-- Entries in order, of which the first ones stand before a key: what is found, put in and taken out.
use Rattle.std.proofs.Common.{arith, ◌≡◌, refl, sym, ap, ◌∙◌, ℕ, zero, suc, ◌<◌, ◌≤◌, List, [], ◌∷◌, ◌++◌, length, take, drop, set, get_or, drop-cons}
use Rattle.std.proofs.lemmas.Bool.Decides.{nat_tests}
use Rattle.std.proofs.lemmas.Cmp.{ranked}
use Rattle.std.proofs.lemmas.List.{set_split, take-append-drop}
use Rattle.std.proofs.lemmas.Map.Keys.{sorted_head, sorted_tail}
use Rattle.std.specs.BTreeMap.{insert_entry, is_at}
use Rattle.std.specs.List.{AllByRecursion, insert, remove}
use Rattle.std.specs.List.Sorted.{IsPartitionedBy, IsStrictlySortedBy}
use Rattle.std.specs.Map.{keys_of, lookup, remove_entry}
use Rattle.std.specs.Ordering.{is_eq, is_gt, match_ordering, nat_cmp, ordering_reverse, ordering_then}
use Rattle.std.specs.Prelude.{Bool, true, false, cond, nat_lt, Some, None}
use Rattle.std.specs.declared.cmp.Ordering.{Ordering}
use Rattle.std.specs.declared.cmp.Ordering.TheVariants.{Less, Equal, Greater}
use Rattle.texts.proofs.Orderings.{Equal-from}
use Rattle.silo_address.specs.declared.ActivationId.{ActivationId}
use Rattle.grain_table.specs.declared.hashed_grain.HashedGrain.{HashedGrain}
use Rattle.grain_table.specs.Buckets.{is_before, is_first}
use Rattle.grain_table.specs.Hashed.{Hashed, hashed_cmp, text_cmp}
use Rattle.grain_table.proofs.Order.{hashed_cmp_exact, hashed_cmp_total}

-- ---- Facts about all of a list.
module _ {X : Type 0} where
  pub front_all : (P : X → Type 0) (xs : List X) (n : ℕ) → ((k : ℕ) (d : X) → 0 ≤ k → k < n → P (get_or xs k d))
      → AllByRecursion P (take n xs)
  front_all P [] zero each = tt
  front_all P [] (suc n) each = tt
  front_all P (x ∷ xs) zero each = tt
  front_all P (x ∷ xs) (suc n) each =
      (each 0 x (omega arith) (omega arith), front_all P xs n (λ k d low lt. each (suc k) d (omega arith) (omega arith)))

  pub back_all : (P : X → Type 0) (xs : List X) (n : ℕ) → ((k : ℕ) (d : X) → n ≤ k → k < length xs → P (get_or xs k d))
      → AllByRecursion P (drop n xs)
  back_all P [] zero each = tt
  back_all P [] (suc n) each = tt
  back_all P (x ∷ xs) zero each =
      (each 0 x (omega arith) (omega arith), back_all P xs 0 (λ k d low lt. each (suc k) d (omega arith) (omega arith)))
  back_all P (x ∷ xs) (suc n) each = back_all P xs n (λ k d low lt. each (suc k) d (omega arith) (omega arith))

  pub all_so : (P Q : X → Type 0) → ((x : X) → P x → Q x) → (xs : List X) → AllByRecursion P xs → AllByRecursion Q xs
  all_so P Q so [] all = tt
  all_so P Q so (x ∷ xs) all = (so x all.0, all_so P Q so xs all.1)

  pub all_append : (P : X → Type 0) (xs ys : List X) → AllByRecursion P xs → AllByRecursion P ys → AllByRecursion P (xs ++ ys)
  all_append P [] ys one other = other
  all_append P (x ∷ xs) ys one other = (one.0, all_append P xs ys one.1 other)

  pub all_front : (P : X → Type 0) (xs ys : List X) → AllByRecursion P (xs ++ ys) → AllByRecursion P xs
  all_front P [] ys all = tt
  all_front P (x ∷ xs) ys all = (all.0, all_front P xs ys all.1)

  pub all_back : (P : X → Type 0) (xs ys : List X) → AllByRecursion P (xs ++ ys) → AllByRecursion P ys
  all_back P [] ys all = all
  all_back P (x ∷ xs) ys all = all_back P xs ys all.1

  pub all_at : (P : X → Type 0) (xs : List X) → AllByRecursion P xs → (k : ℕ) (d : X) → k < length xs → P (get_or xs k d)
  all_at P [] all k d lt = absurd (omega arith)
  all_at P (x ∷ xs) all zero d lt = all.0
  all_at P (x ∷ xs) all (suc k) d lt = all_at P xs all.1 k d (omega arith)

-- ---- What stands before a key and behind it.
greater : (o : Ordering) → is_gt o ≡ true → o ≡ Greater
greater Less is = let no : false ≡ true = is in cc
greater Equal is = let no : false ≡ true = is in cc
greater Greater is = refl

less : (o : Ordering) → is_gt o ≡ false → is_eq o ≡ false → o ≡ Less
less Less not same = refl
less Equal not same = let no : true ≡ false = same in cc
less Greater not same = let no : true ≡ false = not in cc

pub before_key : (key : HashedGrain) (e : HashedGrain × ActivationId) → e.0.hash < key.hash → is_before key e ≡ true
before_key key e lower = by (nat_cmp key.hash e.0.hash) refl
  where
    by : (o : Ordering) → o ≡ nat_cmp key.hash e.0.hash → is_gt (ordering_then o (text_cmp key.grain e.0.grain)) ≡ true
    by Less is = absurd (let below : key.hash < e.0.hash = ranked key.hash e.0.hash Less is in omega arith)
    by Equal is = absurd (let same : key.hash ≡ e.0.hash = ranked key.hash e.0.hash Equal is in omega arith)
    by Greater is = refl

pub behind_key : (key : HashedGrain) (e : HashedGrain × ActivationId) → key.hash < e.0.hash → hashed_cmp key e.0 ≡ Less
behind_key key e higher = by (nat_cmp key.hash e.0.hash) refl
  where
    by : (o : Ordering) → o ≡ nat_cmp key.hash e.0.hash → ordering_then o (text_cmp key.grain e.0.grain) ≡ Less
    by Less is = refl
    by Equal is = absurd (let same : key.hash ≡ e.0.hash = ranked key.hash e.0.hash Equal is in omega arith)
    by Greater is = absurd (let above : e.0.hash < key.hash = ranked key.hash e.0.hash Greater is in omega arith)

hash_rises : (a b : HashedGrain) → hashed_cmp a b ≡ Less → a.hash ≤ b.hash
hash_rises a b rises = by (nat_cmp a.hash b.hash) refl rises
  where
    by : (o : Ordering) → o ≡ nat_cmp a.hash b.hash → ordering_then o (text_cmp a.grain b.grain) ≡ Less → a.hash ≤ b.hash
    by Less is rises = let below : a.hash < b.hash = ranked a.hash b.hash Less is in omega arith
    by Equal is rises = let same : a.hash ≡ b.hash = ranked a.hash b.hash Equal is in omega arith
    by Greater is rises = let no : Greater ≡ Less = rises in cc

-- ---- What a search may ask of entries in order.
module _ (p : HashedGrain × ActivationId → Bool) (down : (e f : HashedGrain × ActivationId) → hashed_cmp e.0 f.0 ≡ Less → p f ≡ true
    → p e ≡ true) where
  later : (e : HashedGrain × ActivationId) (es : Hashed) → AllByRecursion (λ y. hashed_cmp e.0 y ≡ Less) (keys_of es)
      → (k : ℕ) (d : HashedGrain × ActivationId) → k < length es
      → hashed_cmp e.0 (get_or es k d).0 ≡ Less
  later e [] all k d lt = absurd (omega arith)
  later e (f ∷ es) all zero d lt = all.0
  later e (f ∷ es) all (suc k) d lt = later e es all.1 k d (omega arith)

  parted : (es : Hashed) → IsStrictlySortedBy hashed_cmp (keys_of es) → IsPartitionedBy p es
  parted [] sorted i j d le lt passes = absurd (omega arith)
  parted (e ∷ es) sorted zero zero d le lt passes = passes
  parted (e ∷ es) sorted zero (suc j) d le lt passes =
      down e (get_or es j d) (later e es (sorted_head hashed_cmp e.0 (keys_of es) sorted) j d (omega arith)) passes
  parted (e ∷ es) sorted (suc i) zero d le lt passes = absurd (omega arith)
  parted (e ∷ es) sorted (suc i) (suc j) d le lt passes =
      parted es (sorted_tail hashed_cmp e.0 (keys_of es) sorted) i j d (omega arith) (omega arith) passes

pub parted_before : (key : HashedGrain) (es : Hashed) → IsStrictlySortedBy hashed_cmp (keys_of es) → IsPartitionedBy (is_before key) es
parted_before key = parted (is_before key) down
  where
    down : (e f : HashedGrain × ActivationId) → hashed_cmp e.0 f.0 ≡ Less → is_before key f ≡ true → is_before key e ≡ true
    down e f rises before =
        let behind : hashed_cmp f.0 key ≡ Less = hashed_cmp_total.antisymm f.0 key ∙ ap ordering_reverse (greater (hashed_cmp key f.0) before) in
        ap is_gt (hashed_cmp_total.antisymm key e.0 ∙ ap ordering_reverse (hashed_cmp_total.trans e.0 f.0 key rises behind))

pub parted_lower : (hash : ℕ) (es : Hashed) → IsStrictlySortedBy hashed_cmp (keys_of es) → IsPartitionedBy (λ e. nat_lt e.0.hash hash) es
parted_lower hash = parted (λ e. nat_lt e.0.hash hash) down
  where
    down : (e f : HashedGrain × ActivationId) → hashed_cmp e.0 f.0 ≡ Less → nat_lt f.0.hash hash ≡ true → nat_lt e.0.hash hash ≡ true
    down e f rises lower = let up : e.0.hash ≤ f.0.hash = hash_rises e.0 f.0 rises in grind (arith, nat_tests)

-- ---- Parts of entries in order are in order.
pub sorted_drop : (n : ℕ) (es : Hashed) → IsStrictlySortedBy hashed_cmp (keys_of es) → IsStrictlySortedBy hashed_cmp (keys_of (drop n es))
sorted_drop zero es sorted = sorted
sorted_drop (suc n) [] sorted = sorted
sorted_drop (suc n) (e ∷ es) sorted = sorted_drop n es (sorted_tail hashed_cmp e.0 (keys_of es) sorted)

pub sorted_take : (n : ℕ) (es : Hashed) → IsStrictlySortedBy hashed_cmp (keys_of es) → IsStrictlySortedBy hashed_cmp (keys_of (take n es))
unfolding IsStrictlySortedBy
sorted_take zero es sorted = tt
sorted_take (suc n) [] sorted = tt
sorted_take (suc n) (e ∷ es) sorted = (all_taken n es sorted.0, sorted_take n es sorted.1)
  where
    all_taken : (n : ℕ) (es : Hashed) → AllByRecursion (λ y. hashed_cmp e.0 y ≡ Less) (keys_of es)
        → AllByRecursion (λ y. hashed_cmp e.0 y ≡ Less) (keys_of (take n es))
    all_taken zero es all = tt
    all_taken (suc n) [] all = tt
    all_taken (suc n) (f ∷ es) all = (all.0, all_taken n es all.1)

-- ---- Found, put in and taken out: past what stands before the key, and in front of what stands behind it.
abbrev pub AllBefore : HashedGrain → Hashed → Type 0
AllBefore key es = AllByRecursion (λ e. is_before key e ≡ true) es

abbrev pub AllBehind : HashedGrain → Hashed → Type 0
AllBehind key es = AllByRecursion (λ e. hashed_cmp key e.0 ≡ Less) es

module _ (key : HashedGrain) where
  pub lookup_past : (front back : Hashed) → AllBefore key front
      → lookup (is_at (hashed_cmp key)) (front ++ back) ≡ lookup (is_at (hashed_cmp key)) back
  lookup_past [] back before = refl
  lookup_past (e ∷ front) back before =
      ap (λ o. cond (is_eq o) (Some e.1) (lookup (is_at (hashed_cmp key)) (front ++ back))) (greater (hashed_cmp key e.0) before.0)
      ∙ lookup_past front back before.1

  pub remove_past : (front back : Hashed) → AllBefore key front
      → remove_entry (is_at (hashed_cmp key)) (front ++ back) ≡ front ++ remove_entry (is_at (hashed_cmp key)) back
  remove_past [] back before = refl
  remove_past (e ∷ front) back before =
      ap (λ o. cond (is_eq o) (front ++ back) (e ∷ remove_entry (is_at (hashed_cmp key)) (front ++ back)))
      (greater (hashed_cmp key e.0) before.0)
      ∙ ap (λ l. e ∷ l) (remove_past front back before.1)

  lookup_none : (back : Hashed) → AllBehind key back → lookup (is_at (hashed_cmp key)) back ≡ None
  lookup_none [] behind = refl
  lookup_none (e ∷ back) behind =
      ap (λ o. cond (is_eq o) (Some e.1) (lookup (is_at (hashed_cmp key)) back)) behind.0 ∙ lookup_none back behind.1

  remove_none : (back : Hashed) → AllBehind key back → remove_entry (is_at (hashed_cmp key)) back ≡ back
  remove_none [] behind = refl
  remove_none (e ∷ back) behind =
      ap (λ o. cond (is_eq o) back (e ∷ remove_entry (is_at (hashed_cmp key)) back)) behind.0 ∙ ap (λ l. e ∷ l) (remove_none back behind.1)

  pub lookup_front : (front back : Hashed) → AllBehind key back
      → lookup (is_at (hashed_cmp key)) (front ++ back) ≡ lookup (is_at (hashed_cmp key)) front
  lookup_front [] back behind = lookup_none back behind
  lookup_front (e ∷ front) back behind = ap (λ r. cond (is_at (hashed_cmp key) e.0) (Some e.1) r) (lookup_front front back behind)

  pub remove_front : (front back : Hashed) → AllBehind key back
      → remove_entry (is_at (hashed_cmp key)) (front ++ back) ≡ remove_entry (is_at (hashed_cmp key)) front ++ back
  remove_front [] back behind = remove_none back behind
  remove_front (e ∷ front) back behind = by (is_at (hashed_cmp key) e.0) (remove_front front back behind)
    where
      by : (b : Bool) → remove_entry (is_at (hashed_cmp key)) (front ++ back) ≡ remove_entry (is_at (hashed_cmp key)) front ++ back
          → cond b (front ++ back) (e ∷ remove_entry (is_at (hashed_cmp key)) (front ++ back)) ≡ cond b front
          (e ∷ remove_entry (is_at (hashed_cmp key)) front) ++ back
      by true rest = refl
      by false rest = ap (λ l. e ∷ l) rest

  module _ (v : ActivationId) where
    abbrev pub put : Hashed → Hashed
    put es = insert_entry hashed_cmp es key v

    pub put_past : (front back : Hashed) → AllBefore key front → put (front ++ back) ≡ front ++ put back
    put_past [] back before = refl
    put_past (e ∷ front) back before =
        ap (λ o. match_ordering o ((key, v) ∷ e ∷ (front ++ back)) ((e.0, v) ∷ (front ++ back)) (e ∷ put (front ++ back)))
        (greater (hashed_cmp key e.0) before.0)
        ∙ ap (λ l. e ∷ l) (put_past front back before.1)

    put_first : (back : Hashed) → AllBehind key back → put back ≡ (key, v) ∷ back
    put_first [] behind = refl
    put_first (e ∷ back) behind = ap (λ o. match_ordering o ((key, v) ∷ e ∷ back) ((e.0, v) ∷ back) (e ∷ put back)) behind.0

    pub put_front : (front back : Hashed) → AllBehind key back → put (front ++ back) ≡ put front ++ back
    put_front [] back behind = put_first back behind
    put_front (e ∷ front) back behind = by (hashed_cmp key e.0) (put_front front back behind)
      where
        by : (o : Ordering) → put (front ++ back) ≡ put front ++ back
            → match_ordering o ((key, v) ∷ e ∷ (front ++ back)) ((e.0, v) ∷ (front ++ back)) (e ∷ put (front ++ back))
            ≡ match_ordering o ((key, v) ∷ e ∷ front) ((e.0, v) ∷ front) (e ∷ put front) ++ back
        by Less rest = refl
        by Equal rest = refl
        by Greater rest = ap (λ l. e ∷ l) rest

    -- what holds of hashes holds still
    pub all_put : (P : ℕ → Type 0) → P key.hash → (es : Hashed) → AllByRecursion (λ e. P e.0.hash) es
        → AllByRecursion (λ e. P e.0.hash) (put es)
    all_put P its [] all = (its, tt)
    all_put P its (e ∷ es) all = by (hashed_cmp key e.0) (all_put P its es all.1)
      where
        by : (o : Ordering) → AllByRecursion (λ e. P e.0.hash) (put es)
            → AllByRecursion (λ e. P e.0.hash) (match_ordering o ((key, v) ∷ e ∷ es) ((e.0, v) ∷ es) (e ∷ put es))
        by Less rest = (its, all)
        by Equal rest = (all.0, all.1)
        by Greater rest = (all.0, rest)

  pub all_removed : (P : HashedGrain × ActivationId → Type 0) (es : Hashed) → AllByRecursion P es
      → AllByRecursion P (remove_entry (is_at (hashed_cmp key)) es)
  all_removed P [] all = tt
  all_removed P (e ∷ es) all = by (is_at (hashed_cmp key) e.0) (all_removed P es all.1)
    where
      by : (b : Bool) → AllByRecursion P (remove_entry (is_at (hashed_cmp key)) es)
          → AllByRecursion P (cond b es (e ∷ remove_entry (is_at (hashed_cmp key)) es))
      by true rest = all.1
      by false rest = (all.0, rest)

-- ---- At an index: those before it stand before the key, the others don't.
module _ (key : HashedGrain) (es : Hashed) (sorted : IsStrictlySortedBy hashed_cmp (keys_of es)) (index : ℕ)
    (front : AllBefore key (take index es))
    (back : AllByRecursion (λ e. is_before key e ≡ false) (drop index es)) where
  all_behind : (e : HashedGrain × ActivationId) (es : Hashed) → hashed_cmp key e.0 ≡ Less
      → AllByRecursion (λ y. hashed_cmp e.0 y ≡ Less) (keys_of es) → AllBehind key es
  all_behind e [] below all = tt
  all_behind e (f ∷ es) below all = (hashed_cmp_total.trans key e.0 f.0 below all.0, all_behind e es below all.1)

  behind : (es : Hashed) → IsStrictlySortedBy hashed_cmp (keys_of es) → AllByRecursion (λ e. is_before key e ≡ false) es
      → is_first key es ≡ false → AllBehind key es
  behind [] sorted not none = tt
  behind (e ∷ es) sorted not none =
      let below = less (hashed_cmp key e.0) not.0 none in (below, all_behind e es below (sorted_head hashed_cmp e.0 (keys_of es) sorted))

  whole : es ≡ take index es ++ drop index es
  whole = sym (take-append-drop index es)

  module _ (none : is_first key (drop index es) ≡ false) where
    past : AllBehind key (drop index es)
    past = behind (drop index es) (sorted_drop index es sorted) back none

    pub none_found : lookup (is_at (hashed_cmp key)) es ≡ None
    none_found =
        ap (lookup (is_at (hashed_cmp key))) whole ∙ lookup_past key (take index es) (drop index es) front
        ∙ lookup_none key (drop index es) past

    pub none_taken : remove_entry (is_at (hashed_cmp key)) es ≡ es
    none_taken =
        ap (remove_entry (is_at (hashed_cmp key))) whole ∙ remove_past key (take index es) (drop index es) front
        ∙ ap (λ l. take index es ++ l) (remove_none key (drop index es) past) ∙ take-append-drop index es

    pub put_between : (v : ActivationId) → insert_entry hashed_cmp es key v ≡ insert es index (key, v)
    put_between v =
        ap (λ l. insert_entry hashed_cmp l key v) whole ∙ put_past key v (take index es) (drop index es) front
        ∙ ap (λ l. take index es ++ l) (put_first key v (drop index es) past)

  module _ (within : index < length es) (d : HashedGrain × ActivationId) (is : is_first key (drop index es) ≡ true) where
    parts : drop index es ≡ get_or es index d ∷ drop (suc index) es
    parts = drop-cons es index d within

    here : hashed_cmp key (get_or es index d).0 ≡ Equal
    here = Equal-from (hashed_cmp key (get_or es index d).0) (ap (is_first key) (sym parts) ∙ is)

    pub one_found : lookup (is_at (hashed_cmp key)) es ≡ Some (get_or es index d).1
    one_found =
        ap (lookup (is_at (hashed_cmp key))) whole ∙ lookup_past key (take index es) (drop index es) front
        ∙ ap (lookup (is_at (hashed_cmp key))) parts
        ∙ ap (λ o. cond (is_eq o) (Some (get_or es index d).1) (lookup (is_at (hashed_cmp key)) (drop (suc index) es))) here

    pub one_taken : remove_entry (is_at (hashed_cmp key)) es ≡ remove es index
    one_taken =
        ap (remove_entry (is_at (hashed_cmp key))) whole ∙ remove_past key (take index es) (drop index es) front
        ∙ ap (λ l. take index es ++ remove_entry (is_at (hashed_cmp key)) l) parts
        ∙ ap (λ o. take index es ++ cond (is_eq o) (drop (suc index) es)
        (get_or es index d ∷ remove_entry (is_at (hashed_cmp key)) (drop (suc index) es))) here

    pub put_over : (v : ActivationId) → insert_entry hashed_cmp es key v ≡ set es index (key, v)
    put_over v =
        ap (λ l. insert_entry hashed_cmp l key v) whole ∙ put_past key v (take index es) (drop index es) front
        ∙ ap (λ l. take index es ++ insert_entry hashed_cmp l key v) parts
        ∙ ap (λ o. take index es ++ match_ordering o ((key, v) ∷ get_or es index d ∷ drop (suc index) es)
        (((get_or es index d).0, v) ∷ drop (suc index) es)
        (get_or es index d ∷ insert_entry hashed_cmp (drop (suc index) es) key v)) here
        ∙ ap (λ (k : HashedGrain). take index es ++ (k, v) ∷ drop (suc index) es) (sym (hashed_cmp_exact key (get_or es index d).0 here))
        ∙ sym (set_split es index (key, v) within)
