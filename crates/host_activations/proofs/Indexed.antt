-- Each activation stands under its hashed count again where one begins, changes or ends.
use Rattle.std.proofs.Common.{◌≡◌, refl, sym, ap, subst, ◌∙◌, ℕ, zero, suc, ◌-◌, ◌<◌, ◌↔◌, List, [], ◌∷◌, ◌++◌, length, take, set, swap_remove, slice_get, get_or, cond, Bool, true, false, nat_eq, nat_lt, Option, Some, None, IsSome, is_some, Result, Ok, Err, OnErr, IsOk, true≢false, arith}
use Rattle.std.specs.Prelude.{⊤, MatchOption}
use Rattle.std.specs.Option.{option_map}
use Rattle.std.specs.Cmp.{IsTotalOrder}
use Rattle.std.specs.Map.{lookup, keys_of, set_value}
use Rattle.std.specs.List.{IsDistinct}
use Rattle.std.specs.BTreeMap.{is_at}
use Rattle.std.specs.Ordering.{is_eq, nat_cmp}
use Rattle.std.proofs.lemmas.Bool.Decides.{nat_tests}
use Rattle.std.proofs.lemmas.Cmp.{eq_by_cmp_equiv, then_total, on_total, nat_cmp_total, tied_itself}
use Rattle.std.proofs.lemmas.List.{length-append, length-take}
use Rattle.std.proofs.Math.Seq.{take-append_seam}
use Rattle.std.proofs.lemmas.Map.Entries.{lookup_from_place}
use Rattle.std.proofs.lemmas.Map.Lookups.{CmpEqualImpliesEq, exact_unsigned}
use Rattle.std.proofs.lemmas.Option.{none-some, same_Some, slice_get_past, slice_get_within, slice_get-get_or}
use Rattle.texts.proofs.Orderings.{Equal-from}
use Rattle.indexmap.proofs.MapLemmas.{swap_remove_last}
use Rattle.silo_address.specs.Grain.{Grain, grain_cmp, grain_eq}
use Rattle.silo_address.specs.declared.ActivationId.{ActivationId}
use Rattle.silo_address.proofs.Order.{both_tie, grain_cmp_total}
use Rattle.hash_ring.specs.declared.Hashing.{Hashing}
use Rattle.hash_ring.specs.Hash.{hash_grain}
use Rattle.directory_rules.specs.declared.Held.{Held}
use Rattle.directory_rules.specs.declared.Phase.{Phase}
use Rattle.host_activations.specs.Begun.{AreBegun}
use Rattle.host_activations.specs.ByHash.{AreByHash, hashed_count_cmp, key_of}
use Rattle.host_activations.specs.declared.by_hash.HashedCount.{HashedCount}
use Rattle.host_activations.proofs.Changes.{at, with_parts}
use Rattle.host_activations.proofs.Grains.{IsFoundIn, by_order, on_grain, on_test, tests_alike}

-- ---- The order of hashed counts.
pub hashed_count_cmp_total : IsTotalOrder hashed_count_cmp
hashed_count_cmp_total = then_total (on_total (λ k. k.hash) nat_cmp_total) (on_total (λ k. k.count) nat_cmp_total)

abbrev hashed_count : ℕ → ℕ → HashedCount
hashed_count hash count = record { hash = hash; count = count }

same_key : (a b : HashedCount) → a.hash ≡ b.hash → a.count ≡ b.count → a ≡ b
same_key a b hash count = λ i. hashed_count (hash i) (count i)

pub hashed_count_cmp_exact : CmpEqualImpliesEq hashed_count_cmp
hashed_count_cmp_exact a b tied =
    let both = both_tie (nat_cmp a.hash b.hash) (nat_cmp a.count b.count) tied in
    same_key a b (exact_unsigned a.hash b.hash both.0) (exact_unsigned a.count b.count both.1)

abbrev pub is : HashedCount → HashedCount → Bool
is a b = is_at (hashed_count_cmp a) b

-- two hashed counts: one, or not
pub on_key : (P : Bool → Type 0) (a b : HashedCount) → (a ≡ b → P true) → (is a b ≡ false → P false) → P (is a b)
on_key P a b same other = on_test P (is a b) (λ h. same (hashed_count_cmp_exact a b (Equal-from (hashed_count_cmp a b) h))) other

pub is_itself : (k : HashedCount) → is k k ≡ true
is_itself k = ap is_eq (tied_itself hashed_count_cmp_total k)

other_key : (a b : HashedCount) → is a b ≡ false → a ≡ b → ⊥
other_key a b other same = let h : true ≡ false = sym (is_itself a) ∙ ap (λ (k : HashedCount). is a k) same ∙ other in cc

on_number : (P : Type 0) (i n : ℕ) → (i ≡ n → P) → ((i ≡ n → ⊥) → P) → P
on_number P i n same other = by (nat_eq i n) refl
  where
    by : (b : Bool) → nat_eq i n ≡ b → P
    by true h = same (grind (arith, nat_tests))
    by false h = other (λ e. grind (arith, nat_tests))

-- ---- The one tells the index of a key, the other the key at an index.
abbrev Inverse : (ℕ → Option HashedCount) → (HashedCount → Option ℕ) → Type 0
Inverse at of = (key : HashedCount) (i : ℕ) → of key ≡ Some i ↔ at i ≡ Some key

module _ (at new : ℕ → Option HashedCount) (of after : HashedCount → Option ℕ) (inverse : Inverse at of) where
  -- one comes, behind the last
  one_more : (n : ℕ) (k : HashedCount) → at n ≡ None → of k ≡ None → new n ≡ Some k → ((i : ℕ) → (i ≡ n → ⊥) → new i ≡ at i)
      → ((q : HashedCount) → after q ≡ cond (is k q) (Some n) (of q)) → Inverse new after
  one_more n k past fresh here others told q i = (found, stands)
    where
      found : after q ≡ Some i → new i ≡ Some q
      found so =
          on_key (λ b. cond b (Some n) (of q) ≡ Some i → new i ≡ Some q) k q
          (λ same e. ap new (sym (same_Some n i e)) ∙ here ∙ ap (λ (x : HashedCount). Some x) same)
          (λ other e. let was = (inverse q i).0 e in others i (λ last. none-some q (sym past ∙ ap at (sym last) ∙ was)) ∙ was)
          (sym (told q) ∙ so)

      stands : new i ≡ Some q → after q ≡ Some i
      stands so =
          told q
          ∙ on_number (cond (is k q) (Some n) (of q) ≡ Some i) i n
          (λ last. on_key (λ b. cond b (Some n) (of q) ≡ Some i) k q (λ same. ap (λ (x : ℕ). Some x) (sym last))
          (λ other. absurd (other_key k q other (same_Some k q (sym here ∙ ap new (sym last) ∙ so)))))
          (λ apart. let was = (inverse q i).1 (sym (others i apart) ∙ so) in
          on_key (λ b. cond b (Some n) (of q) ≡ Some i) k q (λ same. absurd (none-some i (sym fresh ∙ ap of same ∙ was))) (λ other. was))

  -- the last one goes
  last_less : (p : ℕ) (k : HashedCount) → at p ≡ Some k → new p ≡ None → ((i : ℕ) → (i ≡ p → ⊥) → new i ≡ at i)
      → ((q : HashedCount) → after q ≡ cond (is k q) None (of q)) → Inverse new after
  last_less p k was_there gone others told q i = (found, stands)
    where
      found : after q ≡ Some i → new i ≡ Some q
      found so =
          on_key (λ b. cond b None (of q) ≡ Some i → new i ≡ Some q) k q
          (λ same e. absurd (none-some i e))
          (λ other e. let was = (inverse q i).0 e in others i
          (λ here. other_key k q other (same_Some k q (sym was_there ∙ ap at (sym here) ∙ was))) ∙ was)
          (sym (told q) ∙ so)

      stands : new i ≡ Some q → after q ≡ Some i
      stands so =
          told q
          ∙ on_number (cond (is k q) None (of q) ≡ Some i) i p
          (λ here. absurd (none-some q (sym gone ∙ ap new (sym here) ∙ so)))
          (λ apart. let was = (inverse q i).1 (sym (others i apart) ∙ so) in
          on_key (λ b. cond b None (of q) ≡ Some i) k q
          (λ same. absurd (apart (same_Some i p (sym was ∙ ap of (sym same) ∙ (inverse k p).1 was_there)))) (λ other. was))

  -- one before the last goes, and the last takes its room
  one_less : (p n : ℕ) (k m : HashedCount) → at p ≡ Some k → at n ≡ Some m → (p ≡ n → ⊥) → new p ≡ Some m → new n ≡ None
      → ((i : ℕ) → (i ≡ n → ⊥) → (i ≡ p → ⊥) → new i ≡ at i)
      → ((q : HashedCount) → after q ≡ cond (is m q) (Some p) (cond (is k q) None (of q))) → Inverse new after
  one_less p n k m was_there last differ moved gone others told q i = (found, stands)
    where
      found : after q ≡ Some i → new i ≡ Some q
      found so =
          on_key (λ b. cond b (Some p) (cond (is k q) None (of q)) ≡ Some i → new i ≡ Some q) m q
          (λ same e. ap new (sym (same_Some p i e)) ∙ moved ∙ ap (λ (x : HashedCount). Some x) same)
          (λ not_m. on_key (λ b. cond b None (of q) ≡ Some i → new i ≡ Some q) k q
          (λ same e. absurd (none-some i e))
          (λ not_k e. let was = (inverse q i).0 e in
          others i (λ here. other_key m q not_m (same_Some m q (sym last ∙ ap at (sym here) ∙ was)))
          (λ here. other_key k q not_k (same_Some k q (sym was_there ∙ ap at (sym here) ∙ was))) ∙ was))
          (sym (told q) ∙ so)

      stands : new i ≡ Some q → after q ≡ Some i
      stands so =
          told q
          ∙ on_number (cond (is m q) (Some p) (cond (is k q) None (of q)) ≡ Some i) i n
          (λ here. absurd (none-some q (sym gone ∙ ap new (sym here) ∙ so)))
          (λ not_n. on_number (cond (is m q) (Some p) (cond (is k q) None (of q)) ≡ Some i) i p
          (λ here. on_key (λ b. cond b (Some p) (cond (is k q) None (of q)) ≡ Some i) m q (λ same. ap (λ (x : ℕ). Some x) (sym here))
          (λ other. absurd (other_key m q other (same_Some m q (sym moved ∙ ap new (sym here) ∙ so)))))
          (λ not_p. let was = (inverse q i).1 (sym (others i not_n not_p) ∙ so) in
          on_key (λ b. cond b (Some p) (cond (is k q) None (of q)) ≡ Some i) m q
          (λ same. absurd (not_n (same_Some i n (sym was ∙ ap of (sym same) ∙ (inverse m n).1 last))))
          (λ not_m. on_key (λ b. cond b None (of q) ≡ Some i) k q
          (λ same. absurd (not_p (same_Some i p (sym was ∙ ap of (sym same) ∙ (inverse k p).1 was_there)))) (λ not_k. was))))

-- ---- What stands at an index of a changed list.
module _ {X : Type 0} where
  push_here : (xs : List X) (x : X) → slice_get (xs ++ x ∷ []) (length xs) ≡ Some x
  push_here [] x = refl
  push_here (y ∷ xs) x = push_here xs x

  push_other : (xs : List X) (x : X) (i : ℕ) → (i ≡ length xs → ⊥) → slice_get (xs ++ x ∷ []) i ≡ slice_get xs i
  push_other [] x zero apart = absurd (apart refl)
  push_other [] x (suc i) apart = refl
  push_other (y ∷ xs) x zero apart = refl
  push_other (y ∷ xs) x (suc i) apart = push_other xs x i (λ same. apart (omega (same, arith)))

  taken : (n : ℕ) (xs : List X) (i : ℕ) → i < n → slice_get (take n xs) i ≡ slice_get xs i
  taken zero xs i below = absurd (omega (below, arith))
  taken (suc n) [] i below = refl
  taken (suc n) (x ∷ xs) zero below = refl
  taken (suc n) (x ∷ xs) (suc i) below = taken n xs i (omega (below, arith))

  set_here : (xs : List X) (i : ℕ) (x : X) → i < length xs → slice_get (set xs i x) i ≡ Some x
  set_here [] i x below = absurd (omega (below, arith))
  set_here (y ∷ xs) zero x below = refl
  set_here (y ∷ xs) (suc i) x below = set_here xs i x (omega (below, arith))

  set_other : (xs : List X) (p : ℕ) (x : X) (i : ℕ) → (i ≡ p → ⊥) → slice_get (set xs p x) i ≡ slice_get xs i
  set_other [] p x i apart = refl
  set_other (y ∷ xs) zero x zero apart = absurd (apart refl)
  set_other (y ∷ xs) zero x (suc i) apart = refl
  set_other (y ∷ xs) (suc p) x zero apart = refl
  set_other (y ∷ xs) (suc p) x (suc i) apart = set_other xs p x i (λ same. apart (omega (same, arith)))

  module _ (xs : List X) (p : ℕ) (d : X) (within : p < length xs) where
    abbrev n : ℕ
    n = length xs - 1

    abbrev written : List X
    written = set xs p (get_or xs n d)

    swapped_last : slice_get (swap_remove xs p d) n ≡ None
    swapped_last = slice_get_past (take n written) n (let short = length-take n written in omega (short, arith))

    swapped_here : (p ≡ n → ⊥) → slice_get (swap_remove xs p d) p ≡ slice_get xs n
    swapped_here differ =
        taken n written p (omega (within, differ, arith)) ∙ set_here xs p (get_or xs n d) within
        ∙ sym (slice_get-get_or xs n d (omega (within, arith)))

    swapped_other : (i : ℕ) → (i ≡ n → ⊥) → (i ≡ p → ⊥) → slice_get (swap_remove xs p d) i ≡ slice_get xs i
    swapped_other i not_n not_p = by (nat_lt i n) refl
      where
        by : (b : Bool) → nat_lt i n ≡ b → slice_get (swap_remove xs p d) i ≡ slice_get xs i
        by true h = taken n written i (grind (arith, nat_tests)) ∙ set_other xs p (get_or xs n d) i not_p
        by false h =
            let past : n < i = grind (arith, nat_tests) in
            slice_get_past (take n written) i (let short = length-take n written in omega (short, past, arith))
            ∙ sym (slice_get_past xs i (omega (past, arith)))

-- ---- One begins.
abbrev key_at : Hashing → List (Grain × Held) → ℕ → Option HashedCount
key_at hashing es i = option_map (key_of hashing) (slice_get es i)

abbrev index_of : List (HashedCount × ℕ) → HashedCount → Option ℕ
index_of hashed key = lookup (is_at (hashed_count_cmp key)) hashed

-- what stands at an index is found by its grain
pub found_at : (es : List (Grain × Held)) → IsDistinct grain_eq (keys_of es) → (i : ℕ) (e : Grain × Held) → slice_get es i ≡ Some e
    → IsFoundIn es e
found_at es apart i e stands = lookup_from_place (eq_by_cmp_equiv grain_cmp_total) es i e.0 e.1 (by_order (keys_of es) apart) stands

pub begun_by_hash : (hashing : Hashing) (next : ℕ) (es : List (Grain × Held)) (hashed : List (HashedCount × ℕ)) → AreBegun next es
    → AreByHash hashing es hashed → (g : Grain) (h : Held) → h.count ≡ next
    → (new : List (Grain × Held)) → new ≡ es ++ (g, h) ∷ [] → (after : List (HashedCount × ℕ))
    → ((q : HashedCount) → index_of after q ≡ cond (is (key_of hashing (g, h)) q) (Some (length es)) (index_of hashed q))
    → AreByHash hashing new after
begun_by_hash hashing next es hashed are inverse g h count new new_is after told =
    one_more (key_at hashing es) (key_at hashing new) (index_of hashed) (index_of after) inverse (length es) (key_of hashing (g, h))
    (ap (option_map (key_of hashing)) (slice_get_past es (length es) (omega arith))) (fresh (index_of hashed (key_of hashing (g, h))) refl)
    (ap (option_map (key_of hashing)) (ap (λ l. slice_get l (length es)) new_is ∙ push_here es (g, h)))
    (λ i apart. ap (option_map (key_of hashing)) (ap (λ l. slice_get l i) new_is ∙ push_other es (g, h) i apart)) told
  where
    never : (i : ℕ) (o : Option (Grain × Held)) → slice_get es i ≡ o → option_map (key_of hashing) o ≡ Some (key_of hashing (g, h)) → ⊥
    never i None stands is_key = none-some (key_of hashing (g, h)) is_key
    never i (Some e) stands is_key =
        let below = are.below e.0 e.1 (found_at es are.apart.grains i e stands) in
        let same : e.1.count ≡ h.count = ap (λ (k : HashedCount). k.count) (same_Some (key_of hashing e) (key_of hashing (g, h)) is_key) in
        absurd (omega (below, same, count, arith))

    fresh : (o : Option ℕ) → index_of hashed (key_of hashing (g, h)) ≡ o → o ≡ None
    fresh None found = refl
    fresh (Some i) found = absurd (never i (slice_get es i) refl ((inverse (key_of hashing (g, h)) i).0 found))

-- ---- One changes.
pub set_by_hash : (hashing : Hashing) (es : List (Grain × Held)) (hashed : List (HashedCount × ℕ)) → AreByHash hashing es hashed
    → (test : Grain → Bool) (was h : Held)
    → lookup test es ≡ Some was → was.count ≡ h.count → (new : List (Grain × Held)) → new ≡ set_value test es h
    → AreByHash hashing new hashed
set_by_hash hashing es hashed inverse test was h there count new new_is q i =
    ((λ e. keys i ∙ (inverse q i).0 e), (λ e. (inverse q i).1 (sym (keys i) ∙ e)))
  where
    same : (xs : List (Grain × Held)) → lookup test xs ≡ Some was → (j : ℕ) → key_at hashing (set_value test xs h) j ≡ key_at hashing xs j
    same [] found j = refl
    same (x ∷ xs) found j = by (test x.0) found j (same xs)
      where
        by : (b : Bool) → cond b (Some x.1) (lookup test xs) ≡ Some was → (j : ℕ)
            → (lookup test xs ≡ Some was → (j : ℕ) → key_at hashing (set_value test xs h) j ≡ key_at hashing xs j)
            → key_at hashing (cond b ((x.0, h) ∷ xs) (x ∷ set_value test xs h)) j ≡ key_at hashing (x ∷ xs) j
        by true found zero later =
            ap (λ (n : ℕ). Some (hashed_count (hash_grain hashing x.0) n))
            (sym count ∙ sym (ap (λ (k : Held). k.count) (same_Some x.1 was found)))
        by true found (suc j) later = refl
        by false found zero later = refl
        by false found (suc j) later = later found j

    keys : (j : ℕ) → key_at hashing new j ≡ key_at hashing es j
    keys j = ap (λ l. key_at hashing l j) new_is ∙ same es there j

-- ---- One ends.
module _ (hashing : Hashing) (es : List (Grain × Held)) (hashed : List (HashedCount × ℕ)) (inverse : AreByHash hashing es hashed) (p : ℕ)
    (e : Grain × Held) (stands : slice_get es p ≡ Some e)
    (new : List (Grain × Held)) (new_is : new ≡ swap_remove es p e) (gone : List (HashedCount × ℕ))
    (gone_is : (q : HashedCount) → index_of gone q ≡ cond (is (key_of hashing e) q) None (index_of hashed q)) where
  within : p < length es
  within = slice_get_within es p e stands

  abbrev last : ℕ
  last = length es - 1

  was_there : key_at hashing es p ≡ Some (key_of hashing e)
  was_there = ap (option_map (key_of hashing)) stands

  none_last : key_at hashing new last ≡ None
  none_last = ap (option_map (key_of hashing)) (ap (λ l. slice_get l last) new_is ∙ swapped_last es p e within)

  others : (i : ℕ) → (i ≡ last → ⊥) → (i ≡ p → ⊥) → key_at hashing new i ≡ key_at hashing es i
  others i not_last not_p = ap (option_map (key_of hashing)) (ap (λ l. slice_get l i) new_is ∙ swapped_other es p e within i not_last not_p)

  -- what stands at the index now stood last
  was_last : (m : Grain × Held) → slice_get new p ≡ Some m → (p ≡ last → ⊥) × (key_at hashing es last ≡ Some (key_of hashing m))
  was_last m moved =
      let differ : p ≡ last → ⊥ = λ same. none-some m (sym (swapped_last es p e within) ∙ ap (slice_get (swap_remove es p e)) (sym same) ∙ ap (λ l. slice_get l p) (sym new_is) ∙ moved) in
      (differ, ap (option_map (key_of hashing)) (sym (swapped_here es p e within differ) ∙ ap (λ l. slice_get l p) (sym new_is) ∙ moved))

  pub still_there : MatchOption (slice_get new p) ⊤ (λ m. IsSome (index_of gone (key_of hashing m)))
  still_there = by (slice_get new p) refl
    where
      by : (o : Option (Grain × Held)) → slice_get new p ≡ o → MatchOption o ⊤ (λ m. IsSome (index_of gone (key_of hashing m)))
      by None moved = tt
      by (Some m) moved =
          let was = was_last m moved in
          let at_last = (inverse (key_of hashing m) last).1 was.1 in
          ap is_some
          (gone_is (key_of hashing m)
          ∙ on_key (λ b. cond b None (index_of hashed (key_of hashing m)) ≡ Some last) (key_of hashing e) (key_of hashing m)
          (λ same. absurd (was.0 (same_Some p last (sym ((inverse (key_of hashing e) p).1 was_there) ∙ ap (index_of hashed) same
          ∙ at_last))))
          (λ other. at_last))

  pub ended_by_hash : (after : List (HashedCount × ℕ))
      → MatchOption (slice_get new p) (after ≡ gone) (λ m. (q : HashedCount)
      → index_of after q ≡ cond (is (key_of hashing m) q) (Some p) (index_of gone q)) → AreByHash hashing new after
  ended_by_hash after noted = by (slice_get new p) refl noted
    where
      by : (o : Option (Grain × Held)) → slice_get new p ≡ o
          → MatchOption o (after ≡ gone) (λ m. (q : HashedCount)
          → index_of after q ≡ cond (is (key_of hashing m) q) (Some p) (index_of gone q))
          → AreByHash hashing new after
      by None moved same =
          let none : key_at hashing new p ≡ None = ap (option_map (key_of hashing)) moved in
          last_less (key_at hashing es) (key_at hashing new) (index_of hashed) (index_of after) inverse p (key_of hashing e) was_there none
          (λ i apart. on_number (key_at hashing new i ≡ key_at hashing es i) i last
          (λ at_last. absurd (apart (at_last ∙ sym (is_last moved)))) (λ not_last. others i not_last apart))
          (λ q. ap (λ l. index_of l q) same ∙ gone_is q)
        where
          is_last : slice_get new p ≡ None → p ≡ last
          is_last moved =
              on_number (p ≡ last) p last (λ same. same)
              (λ differ. absurd (none-some (get_or es last e)
              (sym moved ∙ ap (λ l. slice_get l p) new_is ∙ swapped_here es p e within differ
              ∙ slice_get-get_or es last e (omega (within, arith)))))
      by (Some m) moved told =
          let was = was_last m moved in
          one_less (key_at hashing es) (key_at hashing new) (index_of hashed) (index_of after) inverse p last (key_of hashing e)
          (key_of hashing m) was_there was.1 was.0
          (ap (option_map (key_of hashing)) moved) none_last others
          (λ q. told q ∙ ap (λ o. cond (is (key_of hashing m) q) (Some p) o) (gone_is q))

-- what can only fail at a new key doesn't
pub there_is_put : {X E : Type 0} (o : Option ℕ) (r : Result X E) → OnErr r (o ≡ None) → IsSome o → IsOk r
there_is_put o (Ok x) absent there = refl
there_is_put o (Err e) absent there = absurd (true≢false (sym there ∙ ap is_some absent))

-- ---- What a call says of a map.
pub at_some : {X : Type 0} (A : Type 0) (P : X → Type 0) (o : Option X) (x : X) → o ≡ Some x → MatchOption o A P → P x
at_some {X = X} A P o x some given = subst (λ (o : Option X). MatchOption o A P) some given

-- one that was put in goes again
pub undone : {X : Type 0} (old put new : List X) (x : X) (index : ℕ) → index ≡ length old → put ≡ old ++ x ∷ []
    → MatchOption (slice_get put index) (new ≡ put) (λ e. new ≡ swap_remove put index e) → new ≡ old
undone old put new x index last is given =
    let short : length (old ++ x ∷ []) - 1 ≡ length old = omega (arith, length-append old (x ∷ [])) in
    at_some (new ≡ put) (λ e. new ≡ swap_remove put index e) (slice_get put index) x ((λ i. slice_get (is i) (last i)) ∙ push_here old x)
    given
    ∙ (λ i. swap_remove (is i) (last i) x)
    ∙ ap (λ n. swap_remove (old ++ x ∷ []) n x) (sym short)
    ∙ swap_remove_last (old ++ x ∷ []) x
    ∙ ap (λ n. take n (old ++ x ∷ [])) short
    ∙ take-append_seam old (x ∷ [])

-- nothing goes where there is nothing
pub none_gone : (es : List (Grain × Held)) (g : Grain) → lookup (grain_eq g) es ≡ None
    → (q : Grain) → lookup (is_at (grain_cmp q)) es ≡ cond (is_at (grain_cmp g) q) None (lookup (is_at (grain_cmp q)) es)
none_gone es g none q =
    on_grain (λ b. lookup (is_at (grain_cmp q)) es ≡ cond b None (lookup (is_at (grain_cmp q)) es)) g q
    (λ same. ap (λ test. lookup test es) (sym (tests_alike q)) ∙ ap (λ (x : Grain). lookup (grain_eq x) es) (sym same) ∙ none)
    (λ other. refl)

-- one is written, or none
pub written_by_hash : (hashing : Hashing) (es : List (Grain × Held)) (hashed : List (HashedCount × ℕ)) → AreByHash hashing es hashed
    → (g : Grain) (phase : Phase) (previous : Option ActivationId)
    → (new : List (Grain × Held)) → MatchOption (at g es) (new ≡ es)
    (λ held. new ≡ set_value (is_at (grain_cmp g)) es (with_parts held phase previous)) → AreByHash hashing new hashed
written_by_hash hashing es hashed inverse g phase previous new written = by (at g es) refl written
  where
    by : (o : Option Held) → at g es ≡ o → MatchOption o (new ≡ es)
        (λ held. new ≡ set_value (is_at (grain_cmp g)) es (with_parts held phase previous)) → AreByHash hashing new hashed
    by None none new_is = subst (λ l. AreByHash hashing l hashed) (sym new_is) inverse
    by (Some was) there new_is =
        set_by_hash hashing es hashed inverse (is_at (grain_cmp g)) was (with_parts was phase previous) there refl new new_is
