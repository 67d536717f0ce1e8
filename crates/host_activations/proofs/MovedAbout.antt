-- The requests about a grain under new numbers, which are above all, beside the others under theirs.
use Rattle.std.proofs.Common.{arith, ◌≡◌, refl, sym, ap, ◌∙◌, ℕ, List, [], ◌∷◌, ◌++◌, ◌+◌, ◌≤◌, ◌<◌, cond, Bool, true, false, not, filter, length, Option, Some, None, is_some, option_and_then}
use Rattle.std.specs.Prelude.{MatchOption}
use Rattle.std.specs.List.{AllByRecursion, enumerate_from}
use Rattle.std.specs.List.Sorted.{IsStrictlySortedBy}
use Rattle.std.specs.Ordering.{nat_cmp}
use Rattle.std.specs.declared.cmp.Ordering.TheVariants.{Less}
use Rattle.std.specs.Map.{keys_of, values_of}
use Rattle.std.specs.BTreeMap.{is_at}
use Rattle.std.proofs.lemmas.Cmp.{nat_cmp_total}
use Rattle.std.proofs.lemmas.Map.Lookups.{exact_unsigned}
use Rattle.membership_view.proofs.Found.{same_entries}
use Rattle.silo_address.specs.Grain.{Grain}
use Rattle.host_activations.specs.declared.asked.OutstandingRequest.{OutstandingRequest}
use Rattle.host_activations.specs.Asked.{asked_under}
use Rattle.host_activations.specs.Outstanding.{AreAllBelow, about_grain, about_others}
use Rattle.host_activations.proofs.AboutGrain.{from_passed, is_about, lookup_passed, not_passed, only, sorted_passed, to_passed}
use Rattle.host_activations.proofs.AskedAgain.{each_asked}
use Rattle.host_activations.proofs.Found.{all_map}
use Rattle.host_activations.proofs.Grains.{either, lookup_append, on_test}
use Rattle.host_activations.proofs.Numbers.{on_number}
use Rattle.host_activations.proofs.Ranks.{all_from, sorted-enumerate_from}

-- ---- Lists.
pub all_passed : {A : Type 0} (p : A → Bool) (xs : List A) → AllByRecursion (λ x. p x ≡ true) (filter p xs)
all_passed p [] = tt
all_passed p (x ∷ xs) = by (p x) refl (all_passed p xs)
  where
    by : (b : Bool) → p x ≡ b → AllByRecursion (λ y. p y ≡ true) (filter p xs)
        → AllByRecursion (λ y. p y ≡ true) (cond b (x ∷ filter p xs) (filter p xs))
    by true ever rest = (ever, rest)
    by false never rest = rest

filter_all : {A : Type 0} (p : A → Bool) (xs : List A) → AllByRecursion (λ x. p x ≡ true) xs → filter p xs ≡ xs
filter_all p [] all = refl
filter_all p (x ∷ xs) all = λ i. cond (all.0 i) (x ∷ filter_all p xs all.1 i) (filter_all p xs all.1 i)

filter_none : {A : Type 0} (p : A → Bool) (xs : List A) → AllByRecursion (λ x. p x ≡ false) xs → filter p xs ≡ []
filter_none p [] none = refl
filter_none p (x ∷ xs) none = λ i. cond (none.0 i) (x ∷ filter p xs) (filter_none p xs none.1 i)

filter-append : {A : Type 0} (p : A → Bool) (xs ys : List A) → filter p (xs ++ ys) ≡ filter p xs ++ filter p ys
filter-append p [] ys = refl
filter-append p (x ∷ xs) ys = by (p x) (filter-append p xs ys)
  where
    by : (b : Bool) → filter p (xs ++ ys) ≡ filter p xs ++ filter p ys
        → cond b (x ∷ filter p (xs ++ ys)) (filter p (xs ++ ys)) ≡ cond b (x ∷ filter p xs) (filter p xs) ++ filter p ys
    by true later = ap (λ l. x ∷ l) later
    by false later = later

all_values : {X : Type 0} (P : X → Type 0) (m : ℕ) (es : List (ℕ × X)) → AllByRecursion (λ e. P e.1) es
    → AllByRecursion (λ e. P e.1) (enumerate_from m (values_of es))
all_values P m [] all = tt
all_values P m (e ∷ es) all = (all.0, all_values P (m + 1) es all.1)

pub length-numbered : {X : Type 0} (m : ℕ) (es : List (ℕ × X)) → length (enumerate_from m (values_of es)) ≡ length es
length-numbered m [] = refl
length-numbered m (e ∷ es) = let later = length-numbered (m + 1) es in omega (later, arith)

all_keys : {X : Type 0} (P : ℕ → Type 0) (es : List (ℕ × X)) → AllByRecursion (λ e. P e.0) es → AllByRecursion P (keys_of es)
all_keys P [] all = tt
all_keys P (e ∷ es) all = (all.0, all_keys P es all.1)

both_keys : {X : Type 0} (P : ℕ → Type 0) (xs ys : List (ℕ × X)) → AllByRecursion P (keys_of xs) → AllByRecursion P (keys_of ys)
    → AllByRecursion P (keys_of (xs ++ ys))
both_keys P [] ys all also = also
both_keys P (x ∷ xs) ys all also = (all.0, both_keys P xs ys all.1 also)

sorted_append : {X : Type 0} (xs ys : List (ℕ × X)) → IsStrictlySortedBy nat_cmp (keys_of xs) → IsStrictlySortedBy nat_cmp (keys_of ys)
    → AllByRecursion (λ j. AllByRecursion (λ k. nat_cmp j k ≡ Less) (keys_of ys)) (keys_of xs)
    → IsStrictlySortedBy nat_cmp (keys_of (xs ++ ys))
unfolding IsStrictlySortedBy
sorted_append [] ys s t all = t
sorted_append (x ∷ xs) ys s t all = (both_keys (λ k. nat_cmp x.0 k ≡ Less) xs ys s.0 all.0, sorted_append xs ys s.1 t all.1)

-- what stands under numbers from one on
pub enumerated_between : (m : ℕ) (es : List (ℕ × OutstandingRequest)) (n : ℕ) (asked : OutstandingRequest)
    → asked_under n (enumerate_from m (values_of es)) ≡ Some asked → (m ≤ n) × (n < m + length es)
enumerated_between m [] n asked found = cc
enumerated_between m (e ∷ es) n asked found =
    on_number (λ b. cond b (Some e.1) (asked_under n (enumerate_from (m + 1) (values_of es))) ≡ Some asked
    → (m ≤ n) × (n < m + length (e ∷ es))) n m
    (λ same it. (omega (same, arith), omega (same, arith)))
    (λ other it. let later = enumerated_between (m + 1) es n asked it in let low = later.0 in let high = later.1 in
    (omega (low, arith), omega (high, arith)))
    found

not_true : (b : Bool) → b ≡ false → not b ≡ true
not_true b never = ap not never

from_not : (b : Bool) → not b ≡ true → b ≡ false
from_not true is = cc
from_not false is = refl

module _ (out : List (ℕ × OutstandingRequest)) (sorted : IsStrictlySortedBy nat_cmp (keys_of out)) (g : Grain) (next : ℕ)
    (low : AreAllBelow next out) where
  -- those about the grain, the others, and all under their numbers then
  abbrev mine : List (ℕ × OutstandingRequest)
  mine = about_grain g out

  abbrev others : List (ℕ × OutstandingRequest)
  others = about_others g out

  abbrev numbered : List (ℕ × OutstandingRequest)
  numbered = enumerate_from next (values_of mine)

  abbrev now : List (ℕ × OutstandingRequest)
  now = others ++ numbered

  pub mine_sorted : IsStrictlySortedBy nat_cmp (keys_of mine)
  mine_sorted = sorted_passed (is_about g) out sorted

  pub others_sorted : IsStrictlySortedBy nat_cmp (keys_of others)
  others_sorted = sorted_passed (λ a. not (is_about g a)) out sorted

  pub of_mine : (n : ℕ) (asked : OutstandingRequest) → asked_under n mine ≡ Some asked
      → (asked_under n out ≡ Some asked) × (is_about g asked ≡ true)
  of_mine n asked found = from_passed (is_about g) (asked_under n out) asked (sym (lookup_passed (is_about g) out sorted n) ∙ found)

  pub of_others : (n : ℕ) (asked : OutstandingRequest) → asked_under n others ≡ Some asked
      → (asked_under n out ≡ Some asked) × (is_about g asked ≡ false)
  of_others n asked found =
      let both = from_passed (λ a. not (is_about g a)) (asked_under n out) asked (sym (lookup_passed (λ a. not (is_about g a)) out sorted n) ∙ found) in
      (both.0, from_not (is_about g asked) both.1)

  pub in_mine : (n : ℕ) (asked : OutstandingRequest) → asked_under n out ≡ Some asked → is_about g asked ≡ true
      → asked_under n mine ≡ Some asked
  in_mine n asked found ever = lookup_passed (is_about g) out sorted n ∙ to_passed (is_about g) (asked_under n out) asked found ever

  pub in_others : (n : ℕ) (asked : OutstandingRequest) → asked_under n out ≡ Some asked → is_about g asked ≡ false
      → asked_under n others ≡ Some asked
  in_others n asked found never =
      lookup_passed (λ a. not (is_about g a)) out sorted n
      ∙ to_passed (λ a. not (is_about g a)) (asked_under n out) asked found (not_true (is_about g asked) never)

  pub found_now : (n : ℕ) → asked_under n now ≡ either (asked_under n others) (asked_under n numbered)
  found_now n = lookup_append (is_at (nat_cmp n)) others numbered

  others_low : (n : ℕ) (asked : OutstandingRequest) → asked_under n others ≡ Some asked → n < next
  others_low n asked found = low n asked (of_others n asked found).0

  pub numbered_high : (n : ℕ) (asked : OutstandingRequest) → asked_under n numbered ≡ Some asked → (next ≤ n) × (n < next + length mine)
  numbered_high n asked found = enumerated_between next mine n asked found

  pub no_other : (n : ℕ) → next ≤ n → asked_under n others ≡ None
  no_other n high = by (asked_under n others) refl
    where
      by : (o : Option OutstandingRequest) → asked_under n others ≡ o → o ≡ None
      by None at = refl
      by (Some asked) at = let under = others_low n asked at in absurd (omega (under, high, arith))

  pub below_now : (n : ℕ) (asked : OutstandingRequest) → asked_under n now ≡ Some asked → n < next + length mine
  below_now n asked found = by (asked_under n others) refl (sym (found_now n) ∙ found)
    where
      by : (o : Option OutstandingRequest) → asked_under n others ≡ o → either o (asked_under n numbered) ≡ Some asked
          → n < next + length mine
      by None none it = (numbered_high n asked it).1
      by (Some a) at it = let under = others_low n a at in omega (under, arith)

  pub now_sorted : IsStrictlySortedBy nat_cmp (keys_of now)
  now_sorted =
      sorted_append others numbered others_sorted (sorted-enumerate_from next (values_of mine))
      (all_keys (λ j. AllByRecursion (λ k. nat_cmp j k ≡ Less) (keys_of numbered)) others
      (all_map (λ e. asked_under e.0 others ≡ Some e.1) (λ e. AllByRecursion (λ k. nat_cmp e.0 k ≡ Less) (keys_of numbered)) others
      (λ e found. all_from e.0 next (values_of mine) (others_low e.0 e.1 found)) (each_asked others others_sorted)))

  -- those about the grain are then those under the new numbers
  pub mine_now : about_grain g now ≡ numbered
  mine_now =
      filter-append (λ e. is_about g e.1) others numbered
      ∙ (λ i. filter_none (λ e. is_about g e.1) others none i ++ filter_all (λ e. is_about g e.1) numbered all i)
    where
      none : AllByRecursion (λ e. is_about g e.1 ≡ false) others
      none =
          all_map (λ e. not (is_about g e.1) ≡ true) (λ e. is_about g e.1 ≡ false) others (λ e ever. from_not (is_about g e.1) ever)
          (all_passed (λ e. not (is_about g e.1)) out)

      all : AllByRecursion (λ e. is_about g e.1 ≡ true) numbered
      all = all_values (λ a. is_about g a ≡ true) next mine (all_passed (λ e. is_about g e.1) out)

  -- what stands under each number, once the new ones came and the old ones went
  pub now_is : (last : List (ℕ × OutstandingRequest)) → IsStrictlySortedBy nat_cmp (keys_of last)
      → ((n : ℕ) → asked_under n last ≡ cond (is_some (asked_under n mine)) None (either (asked_under n numbered) (asked_under n out)))
      → last ≡ now
  now_is last rising found =
      same_entries nat_cmp_total exact_unsigned last now rising now_sorted
      (λ n. found n ∙ by n (asked_under n out) refl ∙ sym (found_now n))
    where
      none_mine : (n : ℕ) (asked : OutstandingRequest) → asked_under n out ≡ Some asked → is_about g asked ≡ false
          → asked_under n mine ≡ None
      none_mine n asked at never = lookup_passed (is_about g) out sorted n ∙ not_passed (is_about g) (asked_under n out) asked at never

      none_other : (n : ℕ) (asked : OutstandingRequest) → asked_under n out ≡ Some asked → is_about g asked ≡ true
          → asked_under n others ≡ None
      none_other n asked at ever =
          lookup_passed (λ a. not (is_about g a)) out sorted n
          ∙ not_passed (λ a. not (is_about g a)) (asked_under n out) asked at (ap not ever)

      none_numbered : (n : ℕ) (asked : OutstandingRequest) → asked_under n out ≡ Some asked → asked_under n numbered ≡ None
      none_numbered n asked at = by_number (asked_under n numbered) refl
        where
          by_number : (o : Option OutstandingRequest) → asked_under n numbered ≡ o → o ≡ None
          by_number None told = refl
          by_number (Some a) told =
              let high = (numbered_high n a told).0 in let under = low n asked at in absurd (omega (high, under, arith))

      either_none : (o : Option OutstandingRequest) → either o None ≡ o
      either_none None = refl
      either_none (Some a) = refl

      by : (n : ℕ) (o : Option OutstandingRequest) → asked_under n out ≡ o
          → cond (is_some (asked_under n mine)) None (either (asked_under n numbered) (asked_under n out)) ≡ either (asked_under n others)
          (asked_under n numbered)
      by n None at =
          (λ i. cond (is_some ((lookup_passed (is_about g) out sorted n ∙ ap (option_and_then (only (is_about g))) at) i)) None
          (either (asked_under n numbered) (at i)))
          ∙ either_none (asked_under n numbered)
          ∙ ap (λ o. either o (asked_under n numbered)) (sym
          (lookup_passed (λ a. not (is_about g a)) out sorted n ∙ ap (option_and_then (only (λ a. not (is_about g a)))) at))
      by n (Some asked) at =
          on_test (λ b. is_about g asked ≡ b → cond (is_some (asked_under n mine)) None
          (either (asked_under n numbered) (asked_under n out)) ≡ either (asked_under n others) (asked_under n numbered))
          (is_about g asked)
          (λ _ ever. ap (λ o. cond (is_some o) None (either (asked_under n numbered) (asked_under n out))) (in_mine n asked at ever)
          ∙ (λ i. either (sym (none_other n asked at ever) i) (sym (none_numbered n asked at) i)))
          (λ _ never. (λ i. cond (is_some (none_mine n asked at never i)) None (either (none_numbered n asked at i) (at i)))
          ∙ ap (λ o. either o (asked_under n numbered)) (sym (in_others n asked at never)))
          refl

  -- the new numbers are free
  pub free_below : (n : ℕ) → is_some (asked_under n numbered) ≡ true → asked_under n out ≡ None
  free_below n some = by (asked_under n numbered) refl (asked_under n out) refl some
    where
      by : (o : Option OutstandingRequest) → asked_under n numbered ≡ o → (p : Option OutstandingRequest) → asked_under n out ≡ p
          → is_some o ≡ true → p ≡ None
      by None told p at some = cc
      by (Some a) told None at some = refl
      by (Some a) told (Some b) at some =
          let high = (numbered_high n a told).0 in let under = low n b at in absurd (omega (high, under, arith))

-- what is there after some came
pub put_either : (o p q : Option OutstandingRequest) → MatchOption o (q ≡ p) (λ asked. q ≡ Some asked) → q ≡ either o p
put_either None p q is = is
put_either (Some asked) p q is = is
