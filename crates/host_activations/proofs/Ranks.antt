-- What is outstanding, in its order, under the numbers from one on: each has its rank for a number.
use Rattle.std.proofs.Common.{arith, ◌≡◌, refl, sym, ap, ◌∙◌, ℕ, List, [], ◌∷◌, ◌++◌, ◌+◌, ◌≤◌, ◌<◌, cond, length, map, Option, Some, None}
use Rattle.std.specs.Prelude.{nat_lt, count_by}
use Rattle.std.specs.List.{AllByRecursion, cons_option, enumerate_from}
use Rattle.std.specs.Option.{option_map}
use Rattle.std.specs.List.Sorted.{IsStrictlySortedBy}
use Rattle.std.specs.Map.{lookup, keys_of, values_of}
use Rattle.std.specs.BTreeMap.{is_at, insert_entry}
use Rattle.std.specs.Ordering.{nat_cmp, match_ordering}
use Rattle.std.specs.declared.cmp.Ordering.{Ordering}
use Rattle.std.specs.declared.cmp.Ordering.TheVariants.{Less, Equal, Greater}
use Rattle.std.proofs.lemmas.Bool.{ltb-true, ltb-false}
use Rattle.std.proofs.lemmas.Cmp.{ranked, tied_itself, nat_cmp_total}
use Rattle.std.proofs.lemmas.List.Sums.{sum_by-cons}
use Rattle.std.proofs.lemmas.Map.Keys.{sorted_head, sorted_tail}
use Rattle.texts.proofs.Orderings.{at_itself}
use Rattle.silo_address.specs.Grain.{Grain}
use Rattle.directory_rules.proofs.Cases.{on_bool}
use Rattle.host_activations.specs.declared.asked.OutstandingRequest.{OutstandingRequest}
use Rattle.host_activations.specs.Asked.{find_in, finds_in}
use Rattle.host_activations.proofs.Numbers.{on_number}

-- ---- Numbers in order.
pub less_is : (j k : ℕ) → j < k → nat_cmp j k ≡ Less
less_is j k lt = by (nat_cmp j k) refl
  where
    by : (r : Ordering) → nat_cmp j k ≡ r → r ≡ Less
    by Less h = refl
    by Equal h = let same : j ≡ k = ranked j k Equal (sym h) in absurd (omega (same, lt, arith))
    by Greater h = let above : k < j = ranked j k Greater (sym h) in absurd (omega (above, lt, arith))

pub less_means : (j k : ℕ) → nat_cmp j k ≡ Less → j < k
less_means j k h = ranked j k Less (sym h)

module _ {X : Type 0} where
  -- an entry under a number above all others comes last
  pub put_last : (es : List (ℕ × X)) (k : ℕ) (x : X) → AllByRecursion (λ j. j < k) (keys_of es)
      → insert_entry nat_cmp es k x ≡ es ++ (k, x) ∷ []
  put_last [] k x below = refl
  put_last (e ∷ es) k x below = by (nat_cmp k e.0) refl (put_last es k x below.1)
    where
      by : (r : Ordering) → nat_cmp k e.0 ≡ r → insert_entry nat_cmp es k x ≡ es ++ (k, x) ∷ []
          → match_ordering r ((k, x) ∷ e ∷ es) ((e.0, x) ∷ es) (e ∷ insert_entry nat_cmp es k x) ≡ e ∷ (es ++ (k, x) ∷ [])
      by Less h later = let lt = less_means k e.0 h in let low = below.0 in absurd (omega (lt, low, arith))
      by Equal h later = let same : k ≡ e.0 = ranked k e.0 Equal (sym h) in let low = below.0 in absurd (omega (same, low, arith))
      by Greater h later = ap (λ l. e ∷ l) later

  pub below_last : (es : List (ℕ × X)) (k : ℕ) (x : X) → AllByRecursion (λ j. j < k) (keys_of es)
      → AllByRecursion (λ j. j < k + 1) (keys_of (es ++ (k, x) ∷ []))
  below_last [] k x below = (omega arith, tt)
  below_last (e ∷ es) k x below = (let low = below.0 in omega (low, arith), below_last es k x below.1)

  above_found : (j k : ℕ) (x : X) (es : List (ℕ × X)) → AllByRecursion (λ y. nat_cmp j y ≡ Less) (keys_of es)
      → lookup (is_at (nat_cmp k)) es ≡ Some x → nat_cmp j k ≡ Less
  above_found j k x [] above found = cc
  above_found j k x (e ∷ es) above found =
      on_number (λ b. cond b (Some e.1) (lookup (is_at (nat_cmp k)) es) ≡ Some x → nat_cmp j k ≡ Less) k e.0
      (λ same it. ap (λ (n : ℕ). nat_cmp j n) same ∙ above.0) (λ other it. above_found j k x es above.1 it) found

  -- what is found behind the first entry is found
  pub found_behind : (e : ℕ × X) (es : List (ℕ × X)) (k : ℕ) (x : X) → IsStrictlySortedBy nat_cmp (keys_of (e ∷ es))
      → lookup (is_at (nat_cmp k)) es ≡ Some x
      → lookup (is_at (nat_cmp k)) (e ∷ es) ≡ Some x
  found_behind e es k x sorted found =
      let above : nat_cmp e.0 k ≡ Less = above_found e.0 k x es (sorted_head nat_cmp e.0 (keys_of es) sorted) found in
      on_number (λ b. cond b (Some e.1) (lookup (is_at (nat_cmp k)) es) ≡ Some x) k e.0
      (λ same. let h : Equal ≡ Less = sym (tied_itself nat_cmp_total e.0) ∙ ap (λ (n : ℕ). nat_cmp e.0 n) (sym same) ∙ above in cc)
      (λ other. found)

  pub all_from : (j m : ℕ) (xs : List X) → j < m → AllByRecursion (λ k. nat_cmp j k ≡ Less) (keys_of (enumerate_from m xs))
  all_from j m [] lt = tt
  all_from j m (x ∷ xs) lt = (less_is j m lt, all_from j (m + 1) xs (omega (lt, arith)))

  pub sorted-enumerate_from : (m : ℕ) (xs : List X) → IsStrictlySortedBy nat_cmp (keys_of (enumerate_from m xs))
  unfolding IsStrictlySortedBy
  sorted-enumerate_from m [] = tt
  sorted-enumerate_from m (x ∷ xs) = (all_from m (m + 1) xs (omega arith), sorted-enumerate_from (m + 1) xs)

  -- ---- Ranks: how many numbers lie below one.
  abbrev pub below : ℕ → List (ℕ × X) → ℕ
  below k es = count_by (λ e. nat_lt e.0 k) es

  below_cons : (k : ℕ) (e : ℕ × X) (es : List (ℕ × X)) → below k (e ∷ es) ≡ cond (nat_lt e.0 k) 1 0 + below k es
  below_cons k e es = sum_by-cons (λ x. cond (nat_lt x.0 k) 1 0) e es

  none_below : (k : ℕ) (es : List (ℕ × X)) → AllByRecursion (λ y. nat_cmp k y ≡ Less) (keys_of es) → below k es ≡ 0
  none_below k [] above = refl
  none_below k (e ∷ es) above =
      let here = below_cons k e es in let later = none_below k es above.1 in let lt = less_means k e.0 above.0 in
      on_bool (λ b. below k (e ∷ es) ≡ cond b 1 0 + below k es → below k (e ∷ es) ≡ 0) (nat_lt e.0 k)
      (λ t h. let low = ltb-true e.0 k t in absurd (omega (low, lt, arith))) (λ f h. omega (h, later, arith)) here

  below_first : (e : ℕ × X) (es : List (ℕ × X)) → AllByRecursion (λ y. nat_cmp e.0 y ≡ Less) (keys_of es) → below e.0 (e ∷ es) ≡ 0
  below_first e es above =
      let here = below_cons e.0 e es in let later = none_below e.0 es above in
      on_bool (λ b. below e.0 (e ∷ es) ≡ cond b 1 0 + below e.0 es → below e.0 (e ∷ es) ≡ 0) (nat_lt e.0 e.0)
      (λ t h. let low = ltb-true e.0 e.0 t in absurd (omega (low, arith))) (λ f h. omega (h, later, arith)) here

  below_behind : (k : ℕ) (e : ℕ × X) (es : List (ℕ × X)) → e.0 < k → below k (e ∷ es) ≡ 1 + below k es
  below_behind k e es lt =
      let here = below_cons k e es in
      on_bool (λ b. below k (e ∷ es) ≡ cond b 1 0 + below k es → below k (e ∷ es) ≡ 1 + below k es) (nat_lt e.0 k)
      (λ t h. h) (λ f h. let high = ltb-false e.0 k f in absurd (omega (high, lt, arith))) here

  -- the numbers from m on are what f gives the keys, in order
  abbrev pub Ranks : (ℕ → ℕ) → ℕ → List (ℕ × X) → Type 0
  Ranks f m [] = Unit {0}
  Ranks f m (e ∷ es) = (f e.0 ≡ m) × Ranks f (m + 1) es

  pub ranks_from : (f : ℕ → ℕ) (low m : ℕ) (es : List (ℕ × X)) → IsStrictlySortedBy nat_cmp (keys_of es)
      → AllByRecursion (λ k. low ≤ k) (keys_of es)
      → ((k : ℕ) → low ≤ k → f k ≡ m + below k es) → Ranks f m es
  ranks_from f low m [] sorted high counts = tt
  ranks_from f low m (e ∷ es) sorted high counts = (
    (let here = counts e.0 high.0 in let none = below_first e es (sorted_head nat_cmp e.0 (keys_of es) sorted) in
        omega (here, none, arith)),
    ranks_from f (e.0 + 1) (m + 1) es (sorted_tail nat_cmp e.0 (keys_of es) sorted)
        (above (keys_of es) (sorted_head nat_cmp e.0 (keys_of es) sorted))
        (λ k le. let low : low ≤ k = (let first = high.0 in omega (first, le, arith)) in
        let here = counts k low in let more = below_behind k e es (omega (le, arith)) in omega (here, more, arith)),
  )
    where
      above : (ks : List ℕ) → AllByRecursion (λ k. nat_cmp e.0 k ≡ Less) ks → AllByRecursion (λ k. e.0 + 1 ≤ k) ks
      above [] all = tt
      above (k ∷ ks) all = (let lt = less_means e.0 k all.0 in omega (lt, arith), above ks all.1)

  -- what is found under a number is found under its rank
  pub record IsRanked (f : ℕ → ℕ) (m : ℕ) (es : List (ℕ × X)) (k : ℕ) (x : X) : Type 0 where
    pub low : m ≤ f k
    pub high : f k < m + length es
    pub found : lookup (is_at (nat_cmp (f k))) (enumerate_from m (values_of es)) ≡ Some x

  pub rank_found : (f : ℕ → ℕ) (m : ℕ) (es : List (ℕ × X)) (k : ℕ) (x : X) → Ranks f m es → lookup (is_at (nat_cmp k)) es ≡ Some x
      → IsRanked f m es k x
  rank_found f m [] k x ranks found = cc
  rank_found f m (e ∷ es) k x ranks found =
      on_number (λ b. cond b (Some e.1) (lookup (is_at (nat_cmp k)) es) ≡ Some x → IsRanked f m (e ∷ es) k x) k e.0
      (λ same it. first (ap f same ∙ ranks.0) it)
      (λ other it. later (rank_found f (m + 1) es k x ranks.1 it)) found
    where
      first : f k ≡ m → Some e.1 ≡ Some x → IsRanked f m (e ∷ es) k x
      first is it = record {
        low = omega (is, arith);
        high = omega (is, arith);
        found = ap (λ (n : ℕ). lookup (is_at (nat_cmp n)) (enumerate_from m (values_of (e ∷ es)))) is
            ∙ ap (λ b. cond b (Some e.1) (lookup (is_at (nat_cmp m)) (enumerate_from (m + 1) (values_of es)))) (at_itself m) ∙ it;
      }

      later : IsRanked f (m + 1) es k x → IsRanked f m (e ∷ es) k x
      later is = record {
        low = let low = is.low in omega (low, arith);
        high = let high = is.high in omega (high, arith);
        found = on_number (λ b. cond b (Some e.1) (lookup (is_at (nat_cmp (f k))) (enumerate_from (m + 1) (values_of es))) ≡ Some x) (f k) m
            (λ same. let low = is.low in absurd (omega (low, same, arith))) (λ other. is.found);
      }

  -- and what is found under a rank is found under a number of that rank
  pub rank_back : (f : ℕ → ℕ) (m : ℕ) (es : List (ℕ × X)) (n : ℕ) (x : X) → IsStrictlySortedBy nat_cmp (keys_of es) → Ranks f m es
      → lookup (is_at (nat_cmp n)) (enumerate_from m (values_of es)) ≡ Some x
      → (k : ℕ) × (lookup (is_at (nat_cmp k)) es ≡ Some x) × (f k ≡ n)
  rank_back f m [] n x sorted ranks found = cc
  rank_back f m (e ∷ es) n x sorted ranks found =
      on_number (λ b. cond b (Some e.1) (lookup (is_at (nat_cmp n)) (enumerate_from (m + 1) (values_of es))) ≡ Some x
      → (k : ℕ) × (lookup (is_at (nat_cmp k)) (e ∷ es) ≡ Some x) × (f k ≡ n)) n m
      (λ same it. (e.0, ap (λ b. cond b (Some e.1) (lookup (is_at (nat_cmp e.0)) es)) (at_itself e.0) ∙ it, ranks.0 ∙ sym same))
      (λ other it. let back = rank_back f (m + 1) es n x (sorted_tail nat_cmp e.0 (keys_of es) sorted) ranks.1 it in
      (back.0, found_behind e es back.0 x sorted back.1, back.2)) found

-- the finds have their ranks
pub finds-enumerate_from : (f : ℕ → ℕ) (m : ℕ) (es : List (ℕ × OutstandingRequest)) → Ranks f m es
    → finds_in (enumerate_from m (values_of es)) ≡ map (λ e. (f e.0, e.1)) (finds_in es)
finds-enumerate_from f m [] ranks = refl
finds-enumerate_from f m (e ∷ es) ranks = by (find_in e.1) (finds-enumerate_from f (m + 1) es ranks.1)
  where
    by : (o : Option Grain) → finds_in (enumerate_from (m + 1) (values_of es)) ≡ map (λ x. (f x.0, x.1)) (finds_in es)
        → cons_option (option_map (λ g. (m, g)) o) (finds_in (enumerate_from (m + 1) (values_of es))) ≡ map (λ x. (f x.0, x.1))
        (cons_option (option_map (λ g. (e.0, g)) o) (finds_in es))
    by None later = later
    by (Some g) later = λ i. (sym ranks.0 i, g) ∷ later i
