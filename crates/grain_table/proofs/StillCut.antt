-- Buckets stay cut where one of them changes, is cut in two or comes behind the others, and where some entries or buckets go.
use Rattle.std.proofs.Common.{arith, ◌≡◌, sym, ap, ◌∙◌, subst, ℕ, zero, suc, ◌<◌, ◌≤◌, List, [], ◌∷◌, ◌++◌, length, take, drop, set, map, get_or}
use Rattle.std.proofs.lemmas.List.{append-nil, append_assoc, get_or_default, length-append, length-map, length-set, length-take, take-append-drop}
use Rattle.std.specs.List.{AllByRecursion, insert}
use Rattle.std.specs.Prelude.{Bool, filter}
use Rattle.silo_address.specs.declared.ActivationId.{ActivationId}
use Rattle.grain_table.specs.declared.hashed_grain.HashedGrain.{HashedGrain}
use Rattle.grain_table.specs.Buckets.{AreBuckets, AreCut, IsAmid, IsCutAt, joined}
use Rattle.grain_table.specs.Hashed.{Hashed}
use Rattle.grain_table.proofs.Cuts.{AreBelow, AreFrom, Passes, Reaches}
use Rattle.grain_table.proofs.Filters.{all_passed}
use Rattle.grain_table.proofs.InOrder.{all_append, all_back, all_front, all_so}
use Rattle.grain_table.proofs.Joined.{joined_append, joined_at, joined_filtered, joined_set, length_filtered}

-- ---- A bucket changes.
module _ (hash : ℕ) (new : Hashed) where
  pub cut_set : (cuts : List ℕ) (buckets : List Hashed) → AreCut cuts buckets → (index : ℕ) (d : Hashed) → index < length buckets
      → Passes cuts hash index → Reaches cuts (suc hash) index
      → ((c : ℕ) → c ≤ hash → AreFrom c (get_or buckets index d) → AreFrom c new)
      → ((c : ℕ) → hash < c → AreBelow c (get_or buckets index d) → AreBelow c new)
      → AreCut cuts (set buckets index new)
  cut_set [] buckets cut index d lt pass reach low high = let same = length-set buckets index new in omega (arith, same)
  cut_set (c ∷ cuts) [] cut index d lt pass reach low high = absurd cut
  cut_set (c ∷ cuts) (b ∷ buckets) cut zero d lt pass reach low high = (high c (omega arith) cut.0, cut.1, cut.2, cut.3)
  cut_set (c ∷ cuts) (b ∷ buckets) cut (suc index) d lt pass reach low high =
      (cut.0, cut.1, from, cut_set cuts buckets cut.3 index d (omega arith) pass.1 reach low high)
    where
      inside : index < length buckets
      inside = omega arith

      split : AreFrom c (joined (take index buckets) ++ (get_or buckets index d ++ joined (drop (suc index) buckets)))
      split = subst (AreFrom c) (joined_at buckets index d inside) cut.2

      rest : AreFrom c (get_or buckets index d ++ joined (drop (suc index) buckets))
      rest = all_back (λ e. c ≤ e.0.hash) (joined (take index buckets)) (get_or buckets index d ++ joined (drop (suc index) buckets)) split

      from : AreFrom c (joined (set buckets index new))
      from =
          subst (AreFrom c) (sym (joined_set buckets index new inside))
          (all_append (λ e. c ≤ e.0.hash) (joined (take index buckets)) (new ++ joined (drop (suc index) buckets))
          (all_front (λ e. c ≤ e.0.hash) (joined (take index buckets)) (get_or buckets index d ++ joined (drop (suc index) buckets)) split)
          (all_append (λ e. c ≤ e.0.hash) new (joined (drop (suc index) buckets))
          (low c pass.0 (all_front (λ e. c ≤ e.0.hash) (get_or buckets index d) (joined (drop (suc index) buckets)) rest))
          (all_back (λ e. c ≤ e.0.hash) (get_or buckets index d) (joined (drop (suc index) buckets)) rest)))

  pub cut_push : (cuts : List ℕ) (buckets : List Hashed) → AreCut cuts buckets → (index : ℕ) → length buckets ≤ index
      → Passes cuts hash index
      → ((c : ℕ) → c ≤ hash → AreFrom c new) → AreCut cuts (buckets ++ new ∷ [])
  cut_push [] buckets cut zero le pass low = let more = length-append buckets (new ∷ []) in omega (arith, more)
  cut_push [] buckets cut (suc index) le pass low = absurd pass
  cut_push (c ∷ cuts) [] cut index le pass low = absurd cut
  cut_push (c ∷ cuts) (b ∷ buckets) cut zero le pass low = absurd (omega arith)
  cut_push (c ∷ cuts) (b ∷ buckets) cut (suc index) le pass low = (
    cut.0,
    cut.1,
    subst (AreFrom c) (sym (joined_append buckets (new ∷ [])))
        (all_append (λ e. c ≤ e.0.hash) (joined buckets) (new ++ []) cut.2 (subst (AreFrom c) (sym (append-nil new)) (low c pass.0))),
    cut_push cuts buckets cut.3 index (omega arith) pass.1 low,
  )

-- ---- A bucket cut in two.
module _ (hash : ℕ) (lower upper : Hashed) where
  joined_two : (buckets : List Hashed) (index : ℕ) (d : Hashed) → index < length buckets → lower ++ upper ≡ get_or buckets index d
      → joined (insert (set buckets index lower) (suc index) upper) ≡ joined buckets
  joined_two [] index d lt whole = absurd (omega arith)
  joined_two (b ∷ buckets) zero d lt whole = sym (append_assoc lower upper (joined buckets)) ∙ ap (λ l. l ++ joined buckets) whole
  joined_two (b ∷ buckets) (suc index) d lt whole = ap (λ l. b ++ l) (joined_two buckets index d (omega arith) whole)

  cut_two : (cuts : List ℕ) (buckets : List Hashed) → AreCut cuts buckets → (index : ℕ) (d : Hashed) → index < length buckets
      → index ≤ length cuts → IsAmid hash (get_or buckets index d)
      → IsCutAt hash (get_or buckets index d) lower upper
      → AreCut (insert cuts index hash) (insert (set buckets index lower) (suc index) upper)
  cut_two [] [] cut index d lt le amid two = absurd (omega arith)
  cut_two [] (b ∷ []) cut zero d lt le amid two = (two.lower, tt, subst (AreFrom hash) (sym (append-nil upper)) two.upper, omega arith)
  cut_two [] (b ∷ []) cut (suc index) d lt le amid two = absurd (omega arith)
  cut_two [] (b ∷ other ∷ buckets) cut index d lt le amid two = absurd (omega arith)
  cut_two (c ∷ cuts) [] cut index d lt le amid two = absurd cut
  cut_two (c ∷ cuts) (b ∷ buckets) cut zero d lt le amid two = (
    two.lower,
    (up, all_so (λ n. c ≤ n) (λ n. hash ≤ n) (λ n over. omega (arith, up)) cuts cut.1),
    all_append (λ e. hash ≤ e.0.hash) upper (joined buckets) two.upper
        (all_so (λ e. c ≤ e.0.hash) (λ e. hash ≤ e.0.hash) (λ e over. omega (arith, up)) (joined buckets) cut.2),
    (all_back (λ e. e.0.hash < c) lower upper (subst (AreBelow c) (sym two.whole) cut.0), cut.1, cut.2, cut.3),
  )
    where
      up : hash ≤ c
      up = amid.below c cut.0
  cut_two (c ∷ cuts) (b ∷ buckets) cut (suc index) d lt le amid two = (
    cut.0,
    cuts_from,
    subst (AreFrom c) (sym (joined_two buckets index d inside two.whole)) cut.2,
    cut_two cuts buckets cut.3 index d
        inside (omega arith) amid two,
  )
    where
      inside : index < length buckets
      inside = omega arith

      low : c ≤ hash
      low =
          amid.above c
          (all_front (λ e. c ≤ e.0.hash) (get_or buckets index d) (joined (drop (suc index) buckets))
          (all_back (λ e. c ≤ e.0.hash) (joined (take index buckets)) (get_or buckets index d ++ joined (drop (suc index) buckets))
          (subst (AreFrom c) (joined_at buckets index d inside) cut.2)))

      cuts_from : AllByRecursion (λ n. c ≤ n) (insert cuts index hash)
      cuts_from =
          let parts : AllByRecursion (λ n. c ≤ n) (take index cuts ++ drop index cuts) = subst (AllByRecursion (λ n. c ≤ n)) (sym (take-append-drop index cuts)) cut.1 in
          all_append (λ n. c ≤ n) (take index cuts) (hash ∷ drop index cuts)
          (all_front (λ n. c ≤ n) (take index cuts) (drop index cuts) parts)
          (low, all_back (λ n. c ≤ n) (take index cuts) (drop index cuts) parts)

  -- as the one that was looked at and the one that was cut tell
  module _ (cuts : List ℕ) (buckets : List Hashed) (cut : AreCut cuts buckets) (index next : ℕ) (follows : next ≡ suc index)
      (within : index < length buckets) (old : Hashed) (is : old ≡ get_or buckets index old) (two : IsCutAt hash old lower upper) where
    there : IsCutAt hash (get_or buckets index old) lower upper
    there = subst (λ b. IsCutAt hash b lower upper) is two

    pub joined_both : joined (insert (set buckets index lower) next upper) ≡ joined buckets
    joined_both = ap (λ n. joined (insert (set buckets index lower) n upper)) follows ∙ joined_two buckets index old within there.whole

    pub cut_both : index ≤ length cuts → (seen : Hashed) → seen ≡ get_or buckets index seen → IsAmid hash seen
        → AreCut (insert cuts index hash) (insert (set buckets index lower) next upper)
    cut_both le seen sees amid =
        subst (λ n. AreCut (insert cuts index hash) (insert (set buckets index lower) n upper)) (sym follows)
        (cut_two cuts buckets cut index old within le (subst (IsAmid hash) (sees ∙ get_or_default buckets index seen old within) amid)
        there)

-- ---- Some entries go.
cut_filtered : (p : HashedGrain × ActivationId → Bool) (cuts : List ℕ) (buckets : List Hashed) → AreCut cuts buckets
    → AreCut cuts (map (filter p) buckets)
cut_filtered p [] buckets cut = let same = length-map buckets (filter p) in omega (arith, same)
cut_filtered p (c ∷ cuts) [] cut = absurd cut
cut_filtered p (c ∷ cuts) (b ∷ buckets) cut = (
  all_passed p (λ e. e.0.hash < c) b cut.0,
  cut.1,
  subst (AreFrom c) (sym (joined_filtered p buckets)) (all_passed p (λ e. c ≤ e.0.hash) (joined buckets) cut.2),
  cut_filtered p cuts buckets cut.3,
)

module _ (p : HashedGrain × ActivationId → Bool) (cuts : List ℕ) (buckets new : List Hashed) (len : ℕ) (are : AreBuckets cuts buckets len)
    (kept : new ≡ map (filter p) buckets) where
  pub kept_entries : joined new ≡ filter p (joined buckets)
  kept_entries = ap joined kept ∙ joined_filtered p buckets

  pub kept_most : (seen : List Hashed) → seen ≡ new → length (joined seen) ≤ len
  kept_most seen sees =
      let same : length (joined seen) ≡ length (filter p (joined buckets)) = ap (λ l. length (joined l)) sees ∙ ap length kept_entries in
      let fewer = length_filtered p (joined buckets) in omega (arith, same, fewer, are.counted)

  pub kept_are : (seen : List Hashed) → seen ≡ new → (count : ℕ) → count ≡ length (joined seen) → AreBuckets cuts new count
  kept_are seen sees count counted = record {
    cut = subst (AreCut cuts) (sym kept) (cut_filtered p cuts buckets are.cut);
    counted = counted ∙ ap (λ l. length (joined l)) sees;
  }

-- ---- The first cuts with their buckets.
all_taken : {X : Type 0} (P : X → Type 0) (xs : List X) (n : ℕ) → AllByRecursion P xs → AllByRecursion P (take n xs)
all_taken P xs n all = all_front P (take n xs) (drop n xs) (subst (AllByRecursion P) (sym (take-append-drop n xs)) all)

joined_taken : (P : HashedGrain × ActivationId → Type 0) (buckets : List Hashed) (n : ℕ) → AllByRecursion P (joined buckets)
    → AllByRecursion P (joined (take n buckets))
joined_taken P buckets n all =
    all_front P (joined (take n buckets)) (joined (drop n buckets))
    (subst (AllByRecursion P) (ap joined (sym (take-append-drop n buckets)) ∙ joined_append (take n buckets) (drop n buckets)) all)

pub cut_taken : (cuts : List ℕ) (buckets : List Hashed) → AreCut cuts buckets → (n : ℕ) → AreCut (take n cuts) (take (suc n) buckets)
cut_taken [] buckets cut zero = let long = length-take 1 buckets in omega (arith, long)
cut_taken [] buckets cut (suc n) = let long = length-take (suc (suc n)) buckets in omega (arith, long)
cut_taken (c ∷ cuts) [] cut n = absurd cut
cut_taken (c ∷ cuts) (b ∷ buckets) cut zero = omega arith
cut_taken (c ∷ cuts) (b ∷ buckets) cut (suc n) =
    (cut.0, all_taken (λ m. c ≤ m) cuts n cut.1, joined_taken (λ e. c ≤ e.0.hash) buckets (suc n) cut.2, cut_taken cuts buckets cut.3 n)

pub passes_taken : (cuts : List ℕ) (hash index : ℕ) → Passes cuts hash index → Passes (take index cuts) hash index
passes_taken [] hash zero pass = tt
passes_taken [] hash (suc index) pass = absurd pass
passes_taken (c ∷ cuts) hash zero pass = tt
passes_taken (c ∷ cuts) hash (suc index) pass = (pass.0, passes_taken cuts hash index pass.1)

pub reaches_taken : (cuts : List ℕ) (high index : ℕ) → Reaches (take index cuts) high index
reaches_taken [] high zero = tt
reaches_taken [] high (suc index) = tt
reaches_taken (c ∷ cuts) high zero = tt
reaches_taken (c ∷ cuts) high (suc index) = reaches_taken cuts high index
