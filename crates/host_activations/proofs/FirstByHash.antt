-- What is listed stretch by stretch in the order of hashes is the first of what is asked for.
use Rattle.std.proofs.Common.{◌≡◌, ◌⊎◌, inl, inr, refl, sym, ap, ◌∙◌, ℕ, ◌+◌, ◌-◌, ◌<◌, ◌≤◌, List, [], ◌∷◌, ◌++◌, cond, Bool, true, false, ◌||◌, filter, length, map, Option, Some, None, is_some, slice_get, arith}
use Rattle.std.specs.Prelude.{nat_lt}
use Rattle.std.specs.BTreeMap.{is_at}
use Rattle.std.specs.BTreeMap.Range.{entries_between}
use Rattle.std.specs.List.{AllByRecursion, IsDistinct}
use Rattle.std.specs.List.Sorted.{IsStrictlySortedBy}
use Rattle.std.specs.Map.{lookup, keys_of}
use Rattle.std.specs.declared.ops.Bound.{Bound}
use Rattle.std.specs.declared.ops.Bound.TheVariants.{Included}
use Rattle.std.proofs.lemmas.Bool.{and_parts, cases_lt, lt-ltb, ltb-true}
use Rattle.std.proofs.lemmas.List.{map-append}
use Rattle.std.proofs.lemmas.List.Elements.{filter-append, filter_map-append}
use Rattle.silo_address.specs.Grain.{Grain, grain_cmp, grain_eq}
use Rattle.ring_range.specs.Range.{IsRange, circle, holds}
use Rattle.hash_ring.specs.declared.Hashing.{Hashing}
use Rattle.hash_ring.specs.Hash.{hash_grain}
use Rattle.hash_ring.proofs.HashesBelow.{grain_below}
use Rattle.directory_rules.specs.declared.Held.{Held}
use Rattle.directory_rules.specs.Standing.{stands_behind, steps_to}
use Rattle.host_activations.specs.Begun.{AreApart}
use Rattle.host_activations.specs.ByHash.{AreByHash, IsUnder, hashed_count_cmp}
use Rattle.host_activations.specs.Firm.{is_told}
use Rattle.host_activations.specs.Listing.{AddsBetween, AddsFirst, AreFirst, ListsThen, as_listed, asked_for, hashed_below, hashed_between, is_asked_for, is_first, passing, steps_before, steps_of}
use Rattle.host_activations.specs.Stretch.{end_at, first_at, standing_at}
use Rattle.host_activations.specs.declared.activations.page.PageAsked.{PageAsked}
use Rattle.host_activations.specs.declared.by_hash.HashedCount.{HashedCount}
use Rattle.host_activations.proofs.Circles.{before_low, before_over, between_parts, in_either, in_low, in_over, stands_between}
use Rattle.host_activations.proofs.Grains.{either, lookup_append}
use Rattle.host_activations.proofs.Listed.{AreOnce, all_found, all_under, among_all, are_hashes, below_earlier, below_later, between_are, both_once, each_under, found_under, listed_once, listed_there, stand_once}
use Rattle.host_activations.proofs.Pages.{and_true, steps_from, told_inside}
use Rattle.host_activations.proofs.Passing.{passing_found, passing_once}

-- what holds wherever a test passes holds of all that pass it
each_passed : (P : HashedCount × ℕ → Type 0) (test : HashedCount × ℕ → Bool) (xs : List (HashedCount × ℕ))
    → ((x : HashedCount × ℕ) → test x ≡ true → P x) → AllByRecursion P (filter test xs)
each_passed P test [] so = tt
each_passed P test (x ∷ xs) so = by (test x) refl (each_passed P test xs so)
  where
    by : (b : Bool) → test x ≡ b → AllByRecursion P (filter test xs) → AllByRecursion P (cond b (x ∷ filter test xs) (filter test xs))
    by true passes rest = (so x passes, rest)
    by false fails rest = rest

all_both : (P : HashedCount × ℕ → Type 0) (xs ys : List (HashedCount × ℕ)) → AllByRecursion P xs → AllByRecursion P ys
    → AllByRecursion P (xs ++ ys)
all_both P [] ys all also = also
all_both P (x ∷ xs) ys all also = (all.0, all_both P xs ys all.1 also)

one_of : (o p : Option Held) (a b : Bool) → (a || b) ≡ true → (a ≡ true → is_some o ≡ true) → (b ≡ true → is_some p ≡ true)
    → is_some (either o p) ≡ true
one_of (Some x) p a b some first second = refl
one_of None p true b some first second = let no : false ≡ true = first refl in cc
one_of None p false b some first second = second some

pub standing_append : (es : List (Grain × Held)) (xs ys : List (HashedCount × ℕ))
    → standing_at es (xs ++ ys) ≡ standing_at es xs ++ standing_at es ys
standing_append es xs ys = filter_map-append (λ (x : HashedCount × ℕ). slice_get es x.1) xs ys

-- what is asked for of two lists, one behind the other
pub asked_append : (asked : PageAsked) (es fs : List (Grain × Held)) → asked_for asked es ++ asked_for asked fs ≡ asked_for asked (es ++ fs)
asked_append asked es fs =
    sym (map-append (as_listed asked) (filter (is_asked_for asked) es) (filter (is_asked_for asked) fs))
    ∙ ap (map (as_listed asked)) (sym (filter-append (is_asked_for asked) es fs))

module _ (asked : PageAsked) (is_range : IsRange asked.range) (es : List (Grain × Held)) (are : AreApart es)
    (hashed : List (HashedCount × ℕ))
    (by_hash : AreByHash asked.hashing es hashed) (sorted : IsStrictlySortedBy hashed_count_cmp (keys_of hashed)) where
  abbrev at : Grain → List (Grain × Held) → Option Held
  at q held = lookup (is_at (grain_cmp q)) held

  abbrev steps : ℕ → ℕ
  steps hash = steps_to (asked.range ∷ []) hash

  abbrev under : List (HashedCount × ℕ) → Type 0
  under listed = AllByRecursion (IsUnder asked.hashing es) listed

  -- ---- What is asked of a list: it has just what stands before a bound, and nothing twice.
  pub record IsListing (bound : ℕ) (listed : List (HashedCount × ℕ)) : Type 0 where
    pub are_under : AllByRecursion (IsUnder asked.hashing es) listed
    pub once : AreOnce listed
    pub before : AllByRecursion (λ x. steps_to (asked.range ∷ []) x.0.hash < bound) listed
    pub there : (q : Grain) (h : Held) → lookup (is_at (grain_cmp q)) es ≡ Some h → is_asked_for asked (q, h) ≡ true
        → steps_of asked q < bound → is_some (lookup (is_at (grain_cmp q)) (standing_at es listed)) ≡ true

  first_from_listing : (bound : ℕ) (listed : List (HashedCount × ℕ)) → IsListing bound listed → (firm : List (ℕ × Grain × ℕ))
      → firm ≡ asked_for asked (standing_at es listed) → (asked.most < length firm) ⊎ (asked.range.size ≤ bound) → AreFirst asked es firm
  first_from_listing bound listed is firm firm_is enough = record {
    bound = bound;
    rows = filter (is_asked_for asked) (standing_at es listed);
    listed = firm_is;
    once = passing_once (is_asked_for asked) (standing_at es listed) distinct;
    found = λ q. passing_found (is_asked_for asked) q (standing_at es listed) distinct ∙ by q (at q (standing_at es listed)) refl;
    enough = enough;
  } where
    distinct : IsDistinct grain_eq (keys_of (standing_at es listed))
    distinct = stand_once asked.hashing es are listed is.are_under is.once

    absent : (q : Grain) → at q (standing_at es listed) ≡ None → (o : Option Held) → at q es ≡ o
        → None ≡ passing (is_first asked bound) q o
    absent q none None found = refl
    absent q none (Some h) found = cases (is_first asked bound (q, h)) refl
      where
        cases : (b : Bool) → is_first asked bound (q, h) ≡ b → None ≡ cond b (Some h) None
        cases true first =
            let parts = and_parts (is_asked_for asked (q, h)) (nat_lt (steps_of asked q) bound) first in
            let no : false ≡ true =
            ap is_some (sym none) ∙ is.there q h found parts.0 (ltb-true (steps_of asked q) bound parts.1) in
            cc
        cases false later = refl

    by : (q : Grain) (o : Option Held) → at q (standing_at es listed) ≡ o
        → passing (is_asked_for asked) q o ≡ passing (is_first asked bound) q (at q es)
    by q None none = absent q none (at q es) refl
    by q (Some h) found =
        ap (λ b. cond b (Some h) None)
        (sym (and_true (is_asked_for asked (q, h)) (nat_lt (steps_of asked q) bound)
        (λ is_asked. lt-ltb (steps_of asked q) bound
        (found_under asked.hashing es (λ hash. steps hash < bound) listed is.are_under is.before q h found))))
        ∙ ap (passing (is_first asked bound) q)
        (sym (among_all asked.hashing es are (standing_at es listed) (all_found asked.hashing es are.grains listed) q h found))

  -- ---- What an activation that is asked for is hashed to.
  inside : (q : Grain) (h : Held) → is_asked_for asked (q, h) ≡ true → holds asked.range (hash_grain asked.hashing q) ≡ true
  inside q h is =
      told_inside asked (q, h)
      (and_parts (is_told asked.hashing asked.range (q, h)) (stands_behind (hash_grain asked.hashing) (asked.range ∷ []) asked.after q)
      is).0

  reached : (q : Grain) (h : Held) → is_asked_for asked (q, h) ≡ true → steps_before asked asked.after ≤ steps_of asked q
  reached q h is =
      steps_from asked asked.after q
      (and_parts (is_told asked.hashing asked.range (q, h)) (stands_behind (hash_grain asked.hashing) (asked.range ∷ []) asked.after q)
      is).1

  abbrev start : ℕ
  start = asked.range.start

  abbrev from : ℕ
  from = steps_before asked asked.after

  -- ---- One stretch, or two.
  abbrev between : (first bound : ℕ) → List (HashedCount × ℕ)
  between first bound = hashed_between first bound hashed

  between_under : (first bound : ℕ) → under (between first bound)
  between_under first bound = all_under asked.hashing es (λ x. stands_between first bound x.0.hash) hashed by_hash sorted

  between_once : (first bound : ℕ) → AreOnce (between first bound)
  between_once first bound = listed_once (λ x. stands_between first bound x.0.hash) hashed sorted

  low_listing : (bound : ℕ) → bound ≤ circle → bound ≤ start + asked.range.size → IsListing (bound - start) (between (start + from) bound)
  low_listing bound on_circle within = record {
    are_under = between_under (start + from) bound;
    once = between_once (start + from) bound;
    before =
        each_passed (λ x. steps x.0.hash < bound - start) (λ x. stands_between (start + from) bound x.0.hash) hashed
        (λ x stands. before_low asked.range is_range (start + from) bound x.0.hash (omega arith) within stands);
    there =
        λ q h found is short. listed_there asked.hashing es (stands_between (start + from) bound) hashed by_hash q h found
        (in_low asked.range is_range (hash_grain asked.hashing q) (grain_below asked.hashing q) (inside q h is) from (reached q h is) bound
        on_circle short);
  }

  over_listing : (bound : ℕ) → circle ≤ start + from → bound + circle ≤ start + asked.range.size
      → IsListing ((bound + circle) - start) (between ((start + from) - circle) bound)
  over_listing bound past within = record {
    are_under = between_under ((start + from) - circle) bound;
    once = between_once ((start + from) - circle) bound;
    before =
        each_passed (λ x. steps x.0.hash < (bound + circle) - start) (λ x. stands_between ((start + from) - circle) bound x.0.hash) hashed
        (λ x stands. before_over asked.range is_range ((start + from) - circle) bound x.0.hash within stands);
    there =
        λ q h found is short. listed_there asked.hashing es (stands_between ((start + from) - circle) bound) hashed by_hash q h found
        (in_over asked.range is_range (hash_grain asked.hashing q) (grain_below asked.hashing q) (inside q h is) from (reached q h is) bound
        past short);
  }

  both_listing : (bound : ℕ) → bound + circle ≤ start + asked.range.size
      → IsListing ((bound + circle) - start) (between (start + from) circle ++ between 0 bound)
  both_listing bound within = record {
    are_under =
        all_both (IsUnder asked.hashing es) (between (start + from) circle) (between 0 bound) (between_under (start + from) circle)
        (between_under 0 bound);
    once =
        both_once (between (start + from) circle) (between 0 bound) (between_once (start + from) circle) (between_once 0 bound)
        (each_passed (λ x. AllByRecursion (λ y. x.0 ≡ y.0 → ⊥) (between 0 bound)) (λ x. stands_between (start + from) circle x.0.hash)
        hashed
        (λ x high. each_passed (λ y. x.0 ≡ y.0 → ⊥) (λ y. stands_between 0 bound y.0.hash) hashed
        (λ y low same. apart x.0.hash y.0.hash high low (ap (λ (k : HashedCount). k.hash) same))));
    before =
        all_both (λ x. steps x.0.hash < (bound + circle) - start) (between (start + from) circle) (between 0 bound)
        (each_passed (λ x. steps x.0.hash < (bound + circle) - start) (λ x. stands_between (start + from) circle x.0.hash) hashed
        (λ x stands.
        let short = before_low asked.range is_range (start + from) circle x.0.hash (omega arith) (omega (arith, within)) stands in
        omega (arith, short)))
        (each_passed (λ x. steps x.0.hash < (bound + circle) - start) (λ x. stands_between 0 bound x.0.hash) hashed
        (λ x stands. before_over asked.range is_range 0 bound x.0.hash within stands));
    there =
        λ q h found is short. ap (λ l. is_some (at q l)) (standing_append es (between (start + from) circle) (between 0 bound))
        ∙ ap is_some (lookup_append (is_at (grain_cmp q)) (standing_at es (between (start + from) circle))
        (standing_at es (between 0 bound)))
        ∙ one_of (at q (standing_at es (between (start + from) circle))) (at q (standing_at es (between 0 bound)))
        (stands_between (start + from) circle (hash_grain asked.hashing q)) (stands_between 0 bound (hash_grain asked.hashing q))
        (in_either asked.range is_range (hash_grain asked.hashing q) (grain_below asked.hashing q) (inside q h is) from (reached q h is)
        bound
        short)
        (listed_there asked.hashing es (stands_between (start + from) circle) hashed by_hash q h found)
        (listed_there asked.hashing es (stands_between 0 bound) hashed by_hash q h found);
  } where
    apart : (a b : ℕ) → stands_between (start + from) circle a ≡ true → stands_between 0 bound b ≡ true → a ≡ b → ⊥
    apart a b high low same =
        let over = between_parts (start + from) circle a high in
        let under = between_parts 0 bound b low in
        let at_least : start + from ≤ a = over.0 in
        let less : b < bound = under.1 in
        let size_within = is_range.size_within in
        absurd (omega (arith, at_least, less, same, within, size_within))

  -- ---- As they are listed by calls, one after another.
  module _ (first end : ℕ) (first_is : first ≡ start + from) (end_is : end ≡ start + asked.range.size) (before new : List (ℕ × Grain × ℕ))
      (none : before ≡ []) where
    alone : (listed : List (HashedCount × ℕ)) (middle : List (ℕ × Grain × ℕ)) → ListsThen asked es listed before middle
        → middle ≡ asked_for asked (standing_at es listed)
    alone listed middle is = is ∙ ap (λ l. l ++ asked_for asked (standing_at es listed)) none

    -- the range doesn't go over 0
    pub by_one_stretch : end ≤ circle → AddsBetween asked es hashed first end before new → AreFirst asked es new
    by_one_stretch on_circle adds =
        let within = adds.within in
        first_from_listing (adds.bound - start) (between (start + from) adds.bound)
        (low_listing adds.bound (omega (arith, within, on_circle)) (omega (arith, within, end_is))) new
        (alone (between first adds.bound) new adds.listed ∙ ap (λ n. asked_for asked (standing_at es (between n adds.bound))) first_is)
        (elim adds.enough [
          | inl more ↦ inl more
          | inr last ↦ inr (omega (arith, last, end_is))
        ])

    -- what is asked for begins behind 0
    pub by_stretch_over : circle ≤ first → first ≤ end → AddsBetween asked es hashed (first - circle) (end - circle) before new
        → AreFirst asked es new
    by_stretch_over past forward adds =
        let within = adds.within in
        first_from_listing ((adds.bound + circle) - start) (between ((start + from) - circle) adds.bound)
        (over_listing adds.bound (omega (arith, past, first_is)) (omega (arith, within, end_is, past, forward))) new
        (alone (between (first - circle) adds.bound) new adds.listed
        ∙ ap (λ n. asked_for asked (standing_at es (between (n - circle) adds.bound))) first_is)
        (elim adds.enough [
          | inl more ↦ inl more
          | inr last ↦ inr (omega (arith, last, end_is, past, forward))
        ])

    -- what comes up to 0 is more than a page
    pub by_first_stretch : circle < end → AddsBetween asked es hashed first circle before new → asked.most < length new
        → AreFirst asked es new
    by_first_stretch over adds more =
        let within = adds.within in
        first_from_listing (adds.bound - start) (between (start + from) adds.bound)
        (low_listing adds.bound within (omega (arith, within, end_is, over))) new
        (alone (between first adds.bound) new adds.listed ∙ ap (λ n. asked_for asked (standing_at es (between n adds.bound))) first_is)
        (inl more)

    -- and it isn't, so that it goes on behind 0
    pub by_both_stretches : circle < end → (middle : List (ℕ × Grain × ℕ)) → AddsBetween asked es hashed first circle before middle
        → length middle ≤ asked.most → AddsBetween asked es hashed 0 (end - circle) middle new → AreFirst asked es new
    by_both_stretches over middle firsts few adds =
        let within = adds.within in
        first_from_listing ((adds.bound + circle) - start) (between (start + from) circle ++ between 0 adds.bound)
        (both_listing adds.bound (omega (arith, within, end_is, over))) new
        (adds.listed
        ∙ ap (λ l. l ++ asked_for asked (standing_at es (between 0 adds.bound))) middle_is
        ∙ asked_append asked (standing_at es (between (start + from) circle)) (standing_at es (between 0 adds.bound))
        ∙ ap (asked_for asked) (sym (standing_append es (between (start + from) circle) (between 0 adds.bound))))
        (elim adds.enough [
          | inl more ↦ inl more
          | inr last ↦ inr (omega (arith, last, end_is, over))
        ])
      where
        to_circle : firsts.bound ≡ circle
        to_circle = elim firsts.enough [
          | inl more ↦ absurd (omega (arith, more, few))
          | inr last ↦ last
        ]

        middle_is : middle ≡ asked_for asked (standing_at es (between (start + from) circle))
        middle_is =
            alone (between first firsts.bound) middle firsts.listed
            ∙ (λ i. asked_for asked (standing_at es (between (first_is i) (to_circle i))))

-- ---- What a call lists of a stretch.
-- what stands between the bounds of a stretch
pub stretch_is : (hashing : Hashing) (es : List (Grain × Held)) (hashed : List (HashedCount × ℕ)) → AreByHash hashing es hashed
    → IsStrictlySortedBy hashed_count_cmp (keys_of hashed) → (first end : ℕ) → end ≤ circle
    → (least : HashedCount) (bound : Bound HashedCount)
    → least ≡ first_at first → bound ≡ end_at end → (stretch : List (HashedCount × ℕ))
    → stretch ≡ entries_between hashed_count_cmp (Included least) bound hashed → stretch ≡ hashed_between first end hashed
stretch_is hashing es hashed by_hash sorted first end within least bound least_is bound_is stretch is =
    is ∙ (λ i. entries_between hashed_count_cmp (Included (least_is i)) (bound_is i) hashed)
    ∙ between_are first end within hashed (are_hashes hashing es hashed (each_under hashing es hashed by_hash sorted))

pub adds_between : (asked : PageAsked) (es : List (Grain × Held)) (hashed stretch : List (HashedCount × ℕ)) (first end : ℕ)
    → stretch ≡ hashed_between first end hashed → (before new : List (ℕ × Grain × ℕ)) → AddsFirst asked es stretch before new
    → AddsBetween asked es hashed first end before new
adds_between asked es hashed stretch first end stretch_is before new adds =
    elim adds [
      | inl whole ↦ record {
        bound = end;
        within = omega arith;
        listed = whole ∙ ap (λ l. before ++ asked_for asked (standing_at es l)) stretch_is;
        enough = inr refl;
      }
      | inr page ↦ cut page.0 page.1 page.2
    ]
  where
    cut : (bound : ℕ) → asked.most < length new → ListsThen asked es (hashed_below bound stretch) before new
        → AddsBetween asked es hashed first end before new
    cut bound more listed =
        elim (cases_lt end bound) [
          | inl past ↦ record {
            bound = end;
            within = omega arith;
            listed =
                listed ∙ ap (λ l. before ++ asked_for asked (standing_at es l))
                (ap (hashed_below bound) stretch_is ∙ below_later first end bound (omega (arith, past)) hashed);
            enough = inl more;
          }
          | inr up ↦ record {
            bound = bound;
            within = up;
            listed =
                listed ∙ ap (λ l. before ++ asked_for asked (standing_at es l))
                (ap (hashed_below bound) stretch_is ∙ below_earlier first end bound up hashed);
            enough = inl more;
          }
        ]
