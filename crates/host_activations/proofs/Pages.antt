-- A page: the first of what is asked for, sorted, begins as all of it in its order.
use Rattle.std.proofs.Common.{◌≡◌, inl, inr, refl, sym, ap, subst, ◌∙◌, ℕ, ◌+◌, ◌<◌, ◌≤◌, List, [], ◌∷◌, ◌++◌, cond, Bool, true, false, ◌&&◌, not, filter, length, map, take, Option, Some, None, arith}
use Rattle.std.specs.Prelude.{nat_lt}
use Rattle.std.specs.BTreeMap.{is_at}
use Rattle.std.specs.List.{All, IsDistinct}
use Rattle.std.specs.List.Sorted.{IsPermutation, IsSorted}
use Rattle.std.specs.Map.{lookup, keys_of}
use Rattle.std.specs.Ordering.{is_lt, nat_cmp, ordering_then}
use Rattle.std.specs.declared.cmp.Ordering.{Ordering}
use Rattle.std.specs.declared.cmp.Ordering.TheVariants.{Less, Equal, Greater}
use Rattle.std.proofs.lemmas.Bool.{and_parts, le-ltb, lt-leb, lt-ltb, ltb-false, ltb-true}
use Rattle.std.proofs.lemmas.Cmp.{ranked}
use Rattle.std.proofs.lemmas.List.{length-append, length-map, take-append-le}
use Rattle.std.proofs.lemmas.List.Elements.{All-from_recursion, All-head, All-tail, All-weaker}
use Rattle.std.proofs.lemmas.List.Sorted.{length_permutation}
use Rattle.texts.proofs.Entries.{sorted-nil}
use Rattle.silo_address.specs.Silo.{Silo}
use Rattle.silo_address.specs.Grain.{Grain, grain_cmp, grain_eq}
use Rattle.silo_address.specs.declared.Entry.{Entry}
use Rattle.ring_range.specs.Range.{distance, holds}
use Rattle.hash_ring.specs.Hash.{hash_grain}
use Rattle.directory_rules.specs.declared.Held.{Held}
use Rattle.directory_rules.specs.Host.{entry_on, is_firm}
use Rattle.directory_rules.specs.Standing.{as_they_stand, rise_behind, standing_cmp, stands_behind}
use Rattle.directory_rules.proofs.Standings.{all_behind, filter_all, put_as_they_stand, put_sorted, rise_all, rise_filtered, rise_parts}
use Rattle.host_activations.specs.Begun.{AreApart}
use Rattle.host_activations.specs.Firm.{is_told}
use Rattle.host_activations.specs.InOrder.{in_order}
use Rattle.host_activations.specs.Listing.{AreFirst, asked_for, entry_listed, is_asked_for, is_first, passing, steps_before, steps_of}
use Rattle.host_activations.specs.Page.{IsPage, told_behind}
use Rattle.host_activations.specs.declared.activations.page.FirmPage.{FirmPage}
use Rattle.host_activations.specs.declared.activations.page.PageAsked.{PageAsked}
use Rattle.host_activations.proofs.AsTheyStand.{listed_as_they_stand, listed_cmp}
use Rattle.host_activations.proofs.Ordered.{lookup_in_order}
use Rattle.host_activations.proofs.Passing.{passing_alike, passing_found, passing_once}
use Rattle.host_activations.proofs.Tables.{own_all}

-- ---- Tests.
and_again : (a b c : Bool) → ((a && b) && c) ≡ (a && (b && c))
and_again true b c = refl
and_again false b c = refl

pub and_true : (a b : Bool) → (a ≡ true → b ≡ true) → (a && b) ≡ a
and_true true b so = so refl
and_true false b so = refl

filter_none : {X : Type 0} (test : X → Bool) (xs : List X) → All (λ x. test x ≡ false) xs → filter test xs ≡ []
filter_none test [] none = refl
filter_none test (x ∷ xs) none =
    ap (λ b. cond b (x ∷ filter test xs) (filter test xs)) (All-head (λ y. test y ≡ false) x xs none)
    ∙ filter_none test xs (All-tail (λ y. test y ≡ false) x xs none)

filter_both : {X : Type 0} (one other : X → Bool) (xs : List X) → filter (λ x. one x && other x) xs ≡ filter other (filter one xs)
filter_both one other [] = refl
filter_both {X} one other (x ∷ xs) = by (one x) (filter_both one other xs)
  where
    by : (b : Bool) → filter (λ x. one x && other x) xs ≡ filter other (filter one xs)
        → cond (b && other x) (x ∷ filter (λ x. one x && other x) xs) (filter (λ x. one x && other x) xs) ≡ filter other
        (cond b (x ∷ filter one xs) (filter one xs))
    by true rest = ap (λ l. cond (other x) (x ∷ l) l) rest
    by false rest = rest

module _ (asked : PageAsked) where
  abbrev behind : Option Grain → Grain → Bool
  behind after grain = stands_behind (hash_grain asked.hashing) (asked.range ∷ []) after grain

  abbrev rise : Option Grain → List Entry → Bool
  rise after entries = rise_behind (hash_grain asked.hashing) (asked.range ∷ []) after entries

  -- ---- Steps into the range.
  -- no fewer hashes come before what stands behind
  pub steps_rise : (a b : Grain) → stands_behind (hash_grain asked.hashing) (asked.range ∷ []) (Some a) b ≡ true
      → steps_of asked a ≤ steps_of asked b
  steps_rise a b is = by (nat_cmp (steps_of asked a) (steps_of asked b)) refl is
    where
      by : (r : Ordering) → r ≡ nat_cmp (steps_of asked a) (steps_of asked b) → is_lt (ordering_then r (grain_cmp a b)) ≡ true
          → steps_of asked a ≤ steps_of asked b
      by Less ranks is =
          let below : steps_of asked a < steps_of asked b = ranked (steps_of asked a) (steps_of asked b) Less ranks in omega (arith, below)
      by Equal ranks is =
          let same : steps_of asked a ≡ steps_of asked b = ranked (steps_of asked a) (steps_of asked b) Equal ranks in omega (arith, same)
      by Greater ranks is = cc

  pub steps_from : (after : Option Grain) (grain : Grain) → stands_behind (hash_grain asked.hashing) (asked.range ∷ []) after grain ≡ true
      → steps_before asked after ≤ steps_of asked grain
  steps_from None grain is = omega arith
  steps_from (Some after) grain is = steps_rise after grain is

  -- of what is told the hash is in the range, and so it stands before the range's end
  pub told_inside : (e : Grain × Held) → is_told asked.hashing asked.range e ≡ true
      → holds asked.range (hash_grain asked.hashing e.0) ≡ true
  told_inside e is = (and_parts (is_firm e.1.phase) (holds asked.range (hash_grain asked.hashing e.0)) is).1

  pub steps_inside : (grain : Grain) → holds asked.range (hash_grain asked.hashing grain) ≡ true
      → steps_of asked grain ≡ distance asked.range.start (hash_grain asked.hashing grain)
  steps_inside grain inside =
      ap (λ b. cond b (distance asked.range.start (hash_grain asked.hashing grain)) (asked.range.size + 0)) inside

  steps_below : (grain : Grain) → holds asked.range (hash_grain asked.hashing grain) ≡ true → steps_of asked grain < asked.range.size
  steps_below grain inside =
      subst (λ (n : ℕ). n < asked.range.size) (sym (steps_inside grain inside))
      (ltb-true (distance asked.range.start (hash_grain asked.hashing grain)) asked.range.size inside)

  -- so where the bound is the range's end, what is asked for stands before it
  all_first : (bound : ℕ) → asked.range.size ≤ bound → (e : Grain × Held) → is_first asked bound e ≡ is_asked_for asked e
  all_first bound whole e =
      and_true (is_asked_for asked e) (nat_lt (steps_of asked e.0) bound)
      (λ is.
      let told = (and_parts (is_told asked.hashing asked.range e) (behind asked.after e.0) is).0 in
      let below : steps_of asked e.0 < asked.range.size = steps_below e.0 (told_inside e told) in
      lt-ltb (steps_of asked e.0) bound (omega (arith, below, whole)))

  -- ---- All that are asked for, listed.
  pub all_listed : (es : List (Grain × Held)) → IsDistinct grain_eq (keys_of es) → AreFirst asked es (asked_for asked es)
  all_listed es apart = record {
    bound = asked.range.size;
    rows = filter (is_asked_for asked) es;
    listed = refl;
    once = passing_once (is_asked_for asked) es apart;
    found = λ q. passing_found (is_asked_for asked) q es apart
        ∙ sym (passing_alike (is_first asked asked.range.size) (is_asked_for asked) (all_first asked.range.size (omega arith)) q
        (lookup (is_at (grain_cmp q)) es));
    enough = inr (omega arith);
  }

  -- they are so of the activations as they began
  pub first_in_order : (es : List (Grain × Held)) → AreApart es → (firm : List (ℕ × Grain × ℕ)) → AreFirst asked es firm
      → AreFirst asked (in_order es) firm
  first_in_order es apart firm first = record {
    bound = first.bound;
    rows = first.rows;
    listed = first.listed;
    once = first.once;
    found = λ q. first.found q ∙ ap (passing (is_first asked first.bound) q) (sym (lookup_in_order q es apart));
    enough = first.enough;
  }

  -- ---- What stands before a bound is the beginning of what stands in order.
  abbrev is_before : (bound : ℕ) → Entry → Bool
  is_before bound e = nat_lt (steps_of asked e.grain) bound

  begins : (bound : ℕ) (after : Option Grain) (es : List Entry) → rise after es ≡ true
      → filter (is_before bound) es ++ filter (λ e. not (is_before bound e)) es ≡ es
  begins bound after [] rises = refl
  begins bound after (e ∷ es) rises = by (is_before bound e) refl (begins bound (Some e.grain) es so.1)
    where
      so : (behind after e.grain ≡ true) × (rise (Some e.grain) es ≡ true)
      so = rise_parts (hash_grain asked.hashing) (asked.range ∷ []) after e es rises

      none : is_before bound e ≡ false → All (λ x. is_before bound x ≡ false) es
      none is =
          All-weaker (λ (x : Entry). behind (Some e.grain) x.grain ≡ true) (λ (x : Entry). is_before bound x ≡ false)
          (λ x later.
          let more = steps_rise e.grain x.grain later in let past = ltb-false (steps_of asked e.grain) bound is in
          le-ltb (steps_of asked x.grain) bound (omega (arith, more, past))) es
          (all_behind (hash_grain asked.hashing) (asked.range ∷ []) (Some e.grain) es so.1)

      by : (b : Bool) → is_before bound e ≡ b → filter (is_before bound) es ++ filter (λ x. not (is_before bound x)) es ≡ es
          → cond b (e ∷ filter (is_before bound) es) (filter (is_before bound) es)
          ++ cond (not b) (e ∷ filter (λ x. not (is_before bound x)) es) (filter (λ x. not (is_before bound x)) es) ≡ e ∷ es
      by true is rest = ap (λ l. e ∷ l) rest
      by false is rest =
          ap (λ l. l ++ e ∷ filter (λ x. not (is_before bound x)) es) (filter_none (is_before bound) es (none is))
          ∙ ap (λ l. e ∷ l)
          (filter_all (λ x. not (is_before bound x)) es
          (All-weaker (λ (x : Entry). is_before bound x ≡ false) (λ (x : Entry). not (is_before bound x) ≡ true) (λ x later. ap not later)
          es
          (none is)))

  -- ---- A page of them is a page of all.
  module _ (silo : Silo) (es : List (Grain × Held)) (apart : IsDistinct grain_eq (keys_of es)) where
    -- all that is told, in its order
    abbrev told : List Entry
    told =
        as_they_stand (hash_grain asked.hashing) (asked.range ∷ [])
        (map (λ e. entry_on silo e.0 e.1) (filter (is_told asked.hashing asked.range) es))

    told_rises : rise asked.after (told_behind silo asked es) ≡ true
    told_rises =
        rise_filtered (hash_grain asked.hashing) (asked.range ∷ []) asked.after None told
        (rise_all (hash_grain asked.hashing) (asked.range ∷ [])
        (put_as_they_stand (hash_grain asked.hashing) (asked.range ∷ []) []
        (map (λ e. entry_on silo e.0 e.1) (filter (is_told asked.hashing asked.range) es)))
        (put_sorted (hash_grain asked.hashing) (asked.range ∷ [])
        (map (λ e. entry_on silo e.0 e.1) (filter (is_told asked.hashing asked.range) es)) []
        (sorted-nil (standing_cmp (hash_grain asked.hashing) (asked.range ∷ []))))
        (All-from_recursion (λ (e : Grain × Entry). e.0 ≡ e.1.grain)
        (put_as_they_stand (hash_grain asked.hashing) (asked.range ∷ []) []
        (map (λ e. entry_on silo e.0 e.1) (filter (is_told asked.hashing asked.range) es)))
        (own_all (hash_grain asked.hashing) (asked.range ∷ [])
        (map (λ e. entry_on silo e.0 e.1) (filter (is_told asked.hashing asked.range) es)) [] tt)))

    module _ (firm sorted : List (ℕ × Grain × ℕ)) (first : AreFirst asked es firm) (moved : IsPermutation firm sorted)
        (is : IsSorted listed_cmp sorted) where
      abbrev listed : List Entry
      listed = map (entry_listed silo) sorted

      -- where they are all
      pub whole : asked.range.size ≤ first.bound → map (entry_listed silo) sorted ≡ told_behind silo asked es
      whole all =
          listed_as_they_stand asked silo first.rows first.once firm sorted first.listed moved is es apart (behind asked.after)
          (λ q. first.found q
          ∙ passing_alike (is_first asked first.bound) (is_asked_for asked) (all_first first.bound all) q (lookup (is_at (grain_cmp q)) es))

      -- and where they stand before a bound
      before : listed ≡ filter (is_before first.bound) (told_behind silo asked es)
      before =
          listed_as_they_stand asked silo first.rows first.once firm sorted first.listed moved is es apart
          (λ g. behind asked.after g && nat_lt (steps_of asked g) first.bound)
          (λ q. first.found q
          ∙ passing_alike (is_first asked first.bound)
          (λ e. is_told asked.hashing asked.range e && (behind asked.after e.0 && nat_lt (steps_of asked e.0) first.bound))
          (λ e. and_again (is_told asked.hashing asked.range e) (behind asked.after e.0) (nat_lt (steps_of asked e.0) first.bound)) q
          (lookup (is_at (grain_cmp q)) es))
          ∙ filter_both (λ (e : Entry). behind asked.after e.grain) (is_before first.bound) told

      length_listed : length listed ≡ length firm
      length_listed = length-map sorted (entry_listed silo) ∙ length_permutation firm sorted moved

      abbrev rest : List Entry
      rest = filter (λ e. not (is_before first.bound e)) (told_behind silo asked es)

      split : told_behind silo asked es ≡ listed ++ rest
      split =
          sym (begins first.bound asked.after (told_behind silo asked es) told_rises)
          ∙ ap (λ l. l ++ filter (λ e. not (is_before first.bound e)) (told_behind silo asked es)) (sym before)

      -- more than a page begins as all do
      cut : asked.most < length firm → (page : FirmPage) → IsPage listed asked.most page
          → IsPage (told_behind silo asked es) asked.most page
      cut more page cuts =
          let long : asked.most < length listed = omega (arith, more, length_listed) in
          let longer : asked.most < length (told_behind silo asked es) = omega (arith, long, ap length split, length-append listed rest) in
          record {
            entries = cuts.entries ∙ sym (ap (take asked.most) split ∙ take-append-le asked.most listed rest (omega (arith, long)));
            last = cuts.last ∙ lt-leb (length listed) asked.most long
                ∙ sym (lt-leb (length (told_behind silo asked es)) asked.most longer);
          }

      pub page_is : (page : FirmPage) → IsPage (map (entry_listed silo) sorted) asked.most page
          → IsPage (told_behind silo asked es) asked.most page
      page_is page cuts =
          elim first.enough [
            | inl more ↦ cut more page cuts
            | inr all ↦ subst (λ l. IsPage l asked.most page) (whole all) cuts
          ]
