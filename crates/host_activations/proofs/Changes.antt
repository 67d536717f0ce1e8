-- Where an activation begins, changes or ends, the others stay, and what all keep is kept.
use Rattle.std.proofs.Common.{◌≡◌, refl, sym, ap, subst, ◌∙◌, ℕ, zero, suc, set, swap_remove, slice_get, Bool, false, ◌+◌, ◌^◌, ◌<◌, ◌≤◌, List, [], ◌∷◌, ◌++◌, cond, true, Option, Some, None, is_some, arith}
use Rattle.std.specs.Prelude.{MatchOption}
use Rattle.std.specs.List.{AllByRecursion, IsDistinct}
use Rattle.std.specs.List.Sorted.{IsPermutation}
use Rattle.std.specs.Ordering.{eq_by_cmp}
use Rattle.std.specs.Map.{lookup, set_value, remove_entry, keys_of}
use Rattle.std.specs.BTreeMap.{is_at}
use Rattle.std.proofs.lemmas.Cmp.{eq_by_cmp_equiv}
use Rattle.std.proofs.lemmas.List.Sums.{fold-append}
use Rattle.std.proofs.lemmas.Map.{lookup-set_value, lookup-remove_entry, keys-set_value}
use Rattle.std.proofs.lemmas.List.Sorted.{IsPermutation-map, IsPermutation-swap_remove}
use Rattle.std.proofs.lemmas.Map.Keys.{IsDistinct-IsPermutation, IsDistinct-head, IsDistinct-tail}
use Rattle.std.proofs.lemmas.Option.{get_or_from_slice_get, same_Some, slice_get_within}
use Rattle.indexmap.proofs.MapLemmas.{lookup_permutation}
use Rattle.silo_address.specs.Grain.{Grain, grain_cmp, grain_eq}
use Rattle.silo_address.specs.declared.ActivationId.{ActivationId}
use Rattle.silo_address.proofs.Order.{grain_cmp_total}
use Rattle.directory_rules.specs.declared.Held.{Held}
use Rattle.directory_rules.specs.declared.Phase.{Phase}
use Rattle.host_activations.specs.Activations.{ActivationsValue}
use Rattle.host_activations.specs.Begun.{AreApart, AreBegun}
use Rattle.host_activations.specs.InOrder.{in_order, placed}
use Rattle.host_activations.proofs.Grains.{IsFoundIn, all_map, by_order, each_found, either, either_none, grain_at_itself, lookup_append, not_at, not_equal, on_grain, other_grain, same_test, tests_alike}
use Rattle.host_activations.proofs.Passing.{gone_behind}
use Rattle.host_activations.proofs.Rows.{HasCount, IsRow, all_spread, placed_last, row_removed, row_set}
use Rattle.host_activations.proofs.Unique.{row_distinct, unique}
use Rattle.host_activations.proofs.Ordered.{lookup_in_order, row_in_order}

abbrev pub at : Grain → List (Grain × Held) → Option Held
at q es = lookup (is_at (grain_cmp q)) es

-- the grain has this from now on, and the others what they have
abbrev pub Gives : Grain → Option Held → (old new : List (Grain × Held)) → Type 0
Gives g given old new = (q : Grain) → at q new ≡ cond (is_at (grain_cmp g) q) given (at q old)

abbrev pub value : ℕ → List (Grain × Held) → ActivationsValue
value next es = record { next_count = next; entries = in_order es }

-- ---- What all keep.
module _ (old new : List (Grain × Held)) (g : Grain) (are : AreApart old) (apart : IsDistinct grain_eq (keys_of new)) where
  pub apart_with : (h : Held) → Gives g (Some h) old new → ((q : Grain) (k : Held) → at q old ≡ Some k → h.count ≡ k.count → g ≡ q)
      → AreApart new
  apart_with h gives own = record {
    grains = apart;
    counts = λ a b x y is_x is_y same.
        on_grain (λ t. cond t (Some h) (at a old) ≡ Some x → a ≡ b) g a
        (λ ga e. on_grain (λ t. cond t (Some h) (at b old) ≡ Some y → a ≡ b) g b
        (λ gb f. sym ga ∙ gb) (λ other f. sym ga ∙ own b y f (ap (λ (k : Held). k.count) (same_Some h x e) ∙ same)) (sym (gives b) ∙ is_y))
        (λ other e. on_grain (λ t. cond t (Some h) (at b old) ≡ Some y → a ≡ b) g b
        (λ gb f. sym (own a x e (ap (λ (k : Held). k.count) (same_Some h y f) ∙ sym same)) ∙ gb) (λ also f. are.counts a b x y e f same)
        (sym (gives b) ∙ is_y))
        (sym (gives a) ∙ is_x);
  }

  pub apart_without : Gives g None old new → AreApart new
  apart_without gives = record {
    grains = apart;
    counts = λ a b x y is_x is_y same. are.counts a b x y (there a x is_x) (there b y is_y) same;
  } where
    there : (a : Grain) (x : Held) → at a new ≡ Some x → at a old ≡ Some x
    there a x is =
        on_grain (λ t. cond t None (at a old) ≡ Some x → at a old ≡ Some x) g a (λ same e. cc) (λ other e. e) (sym (gives a) ∙ is)

abbrev AreBelow : ℕ → List (Grain × Held) → Type 0
AreBelow next es = (q : Grain) (k : Held) → at q es ≡ Some k → k.count < next

below_with : (old new : List (Grain × Held)) (g : Grain) (h : Held) (next then : ℕ) → Gives g (Some h) old new → next ≤ then
    → h.count < then → AreBelow next old → AreBelow then new
below_with old new g h next then gives more here below q k is =
    on_grain (λ t. cond t (Some h) (at q old) ≡ Some k → k.count < then) g q
    (λ same e. subst (λ (x : Held). x.count < then) (same_Some h k e) here)
    (λ other e. let was = below q k e in omega (was, more, arith)) (sym (gives q) ∙ is)

below_without : (old new : List (Grain × Held)) (g : Grain) (next : ℕ) → Gives g None old new → AreBelow next old → AreBelow next new
below_without old new g next gives below q k is =
    on_grain (λ t. cond t None (at q old) ≡ Some k → k.count < next) g q (λ same e. cc) (λ other e. below q k e) (sym (gives q) ∙ is)

-- ---- None is there.
none_apart : IsDistinct grain_eq []
unfolding IsDistinct
none_apart = tt

pub none_are : AreBegun 1 []
none_are = record {
  next = record { above = omega arith; within = omega arith };
  apart = record { grains = none_apart; counts = λ g q h k is_h is_k same. cc };
  below = λ grain held is. cc;
}

-- ---- What is found.
pub found_told : (next : ℕ) (es : List (Grain × Held)) → AreBegun next es → (g : Grain) (found : Option Held)
    → found ≡ lookup (grain_eq g) es → (told : ActivationsValue) → value next es ≡ told → found ≡ at g told.entries
found_told next es are g found is told is_told =
    is ∙ ap (λ test. lookup test es) (tests_alike g) ∙ sym (lookup_in_order g es are.apart)
    ∙ ap (λ (v : ActivationsValue). at g v.entries) is_told

-- ---- One begins.
pub gives_more : (es : List (Grain × Held)) (g : Grain) (h : Held) → at g es ≡ None → Gives g (Some h) es (es ++ (g, h) ∷ [])
gives_more es g h none q =
    lookup_append (is_at (grain_cmp q)) es ((g, h) ∷ [])
    ∙ on_grain (λ t. either (at q es) (cond (is_at (grain_cmp q) g) (Some h) None) ≡ cond t (Some h) (at q es)) g q
    (λ same. (λ i. either ((ap (λ (x : Grain). at x es) (sym same) ∙ none) i)
    (cond ((ap (λ (x : Grain). is_at (grain_cmp q) x) same ∙ grain_at_itself q) i) (Some h) None)))
    (λ other. ap (λ t. either (at q es) (cond t (Some h) None)) (not_at q g (λ same. other_grain g q other (sym same)))
    ∙ either_none (at q es))

module _ (next : ℕ) (es : List (Grain × Held)) (are : AreBegun next es) (g : Grain) (h : Held) (none : at g (in_order es) ≡ None)
    (count : h.count ≡ next) where
  none_there : at g es ≡ None
  none_there = sym (lookup_in_order g es are.apart) ∙ none

  pub begun_are : next ≤ 2 ^ 60 → (new : List (Grain × Held)) → new ≡ es ++ (g, h) ∷ [] → IsDistinct grain_eq (keys_of new)
      → AreBegun (next + 1) new
  begun_are left new is apart = record {
    next = record { above = omega arith; within = omega (left, arith) };
    apart = apart_with es new g are.apart apart h gives
        (λ q k there same. let below = are.below q k there in absurd (omega (below, same, count, arith)));
    below = below_with es new g h next (next + 1) gives (omega arith) (omega (count, arith)) are.below;
  } where
    gives : Gives g (Some h) es new
    gives = subst (λ l. Gives g (Some h) es l) (sym is) (gives_more es g h none_there)

  pub begun_told : (new : List (Grain × Held)) → new ≡ es ++ (g, h) ∷ [] → in_order new ≡ in_order es ++ (g, h) ∷ []
  begun_told new is =
      ap in_order is
      ∙ fold-append placed [] es ((g, h) ∷ [])
      ∙ placed_last (in_order es) (g, h)
      (all_spread (λ x. x.1.count < h.count) [] es tt
      (all_map (IsFoundIn es) (λ x. x.1.count < h.count) es
      (λ x found. subst (λ (n : ℕ). x.1.count < n) (sym count) (are.below x.0 x.1 found)) (each_found es are.apart.grains)))

-- ---- One changes.
pub gives_set : (es : List (Grain × Held)) (g : Grain) (h was : Held) → at g es ≡ Some was
    → Gives g (Some h) es (set_value (is_at (grain_cmp g)) es h)
gives_set es g h was there q =
    lookup-set_value (eq_by_cmp_equiv grain_cmp_total) (is_at (grain_cmp g)) ((eq_by_cmp_equiv grain_cmp_total).congr g) q h es
    (ap is_some there)

module _ (next : ℕ) (es : List (Grain × Held)) (are : AreBegun next es) (g : Grain) (was h : Held) (there : at g es ≡ Some was)
    (count : was.count ≡ h.count) where
  pub set_are : (new : List (Grain × Held)) → new ≡ set_value (is_at (grain_cmp g)) es h → AreBegun next new
  set_are new is = record {
    next = are.next;
    apart =
        apart_with es new g are.apart (subst (λ l. IsDistinct grain_eq l) (sym (ap keys_of is ∙ keys-set_value (is_at (grain_cmp g)) es h))
        are.apart.grains) h gives
        (λ q k its same. are.apart.counts g q was k there its (count ∙ same));
    below =
        below_with es new g h next next gives (omega arith) (let below = are.below g was there in omega (below, count, arith)) are.below;
  } where
    gives : Gives g (Some h) es new
    gives = subst (λ l. Gives g (Some h) es l) (sym is) (gives_set es g h was there)

  pub set_told : (new : List (Grain × Held)) → new ≡ set_value (is_at (grain_cmp g)) es h
      → in_order new ≡ set_value (is_at (grain_cmp g)) (in_order es) h
  set_told new is =
      unique (in_order new) (set_value (is_at (grain_cmp g)) (in_order es) h)
      (row_in_order new (set_are new is).apart) (row_set (is_at (grain_cmp g)) (in_order es) h has_count row)
      (λ q. lookup_in_order q new (set_are new is).apart
      ∙ ap (at q) is
      ∙ gives_set es g h was there q
      ∙ ap (λ o. cond (is_at (grain_cmp g) q) (Some h) o) (sym (lookup_in_order q es are.apart))
      ∙ sym (gives_set (in_order es) g h was (lookup_in_order g es are.apart ∙ there) q))
    where
      row : IsRow (in_order es)
      row = row_in_order es are.apart

      has_count : HasCount (is_at (grain_cmp g)) (in_order es) h
      has_count =
          all_map (IsFoundIn (in_order es)) (λ x. is_at (grain_cmp g) x.0 ≡ true → x.1.count ≡ h.count) (in_order es)
          (λ x found. on_grain (λ t. t ≡ true → x.1.count ≡ h.count) g x.0
          (λ same yes. ap (λ (k : Held). k.count) (same_Some x.1 was
          (sym found ∙ ap (λ (y : Grain). at y (in_order es)) (sym same) ∙ lookup_in_order g es are.apart ∙ there)) ∙ count)
          (λ other no. cc))
          (each_found (in_order es) (row_distinct (in_order es) row))

-- what is written at an index is written under its grain
pub set_at : (es : List (Grain × Held)) → IsDistinct grain_eq (keys_of es) → (index : ℕ) (g : Grain) (was h : Held)
    → slice_get es index ≡ Some (g, was) → set es index (g, h) ≡ set_value (is_at (grain_cmp g)) es h
set_at [] apart index g was h there = cc
set_at (e ∷ es) apart zero g was h there =
    let same : e.0 ≡ g = ap (λ (x : Grain × Held). x.0) (same_Some e (g, was) there) in
    ap (λ (q : Grain). (q, h) ∷ es) (sym same)
    ∙ sym (ap (λ b. cond b ((e.0, h) ∷ es) (e ∷ set_value (is_at (grain_cmp g)) es h))
    (ap (λ (q : Grain). is_at (grain_cmp g) q) same ∙ grain_at_itself g))
set_at (e ∷ es) apart (suc index) g was h there =
    ap (λ l. e ∷ l) (set_at es (IsDistinct-tail grain_eq e.0 (keys_of es) apart) index g was h there)
    ∙ sym (ap (λ b. cond b ((e.0, h) ∷ es) (e ∷ set_value (is_at (grain_cmp g)) es h))
    (not_at g e.0 (λ same. not_equal e.0 g (apart_at es index (IsDistinct-head grain_eq e.0 (keys_of es) apart) there) (sym same))))
  where
    apart_at : (xs : List (Grain × Held)) (i : ℕ) → AllByRecursion (λ q. grain_eq e.0 q ≡ false) (keys_of xs)
        → slice_get xs i ≡ Some (g, was) → grain_eq e.0 g ≡ false
    apart_at [] i all there = cc
    apart_at (x ∷ xs) zero all there = subst (λ (y : Grain × Held). grain_eq e.0 y.0 ≡ false) (same_Some x (g, was) there) all.0
    apart_at (x ∷ xs) (suc i) all there = apart_at xs i all.1 there

-- what is there is written, or nothing is
abbrev pub with_parts : Held → Phase → Option ActivationId → Held
with_parts held phase previous = record held { phase = phase; previous = previous }

-- and it is where it is written at the index at which it is found
pub written_at : (es : List (Grain × Held)) → IsDistinct grain_eq (keys_of es)
    → (g : Grain) (phase : Phase) (previous : Option ActivationId) (new : List (Grain × Held)) (index : ℕ) (was : Held)
    → slice_get es index ≡ Some (g, was) → Some was ≡ lookup (grain_eq g) es
    → MatchOption (slice_get es index) (new ≡ es) (λ e. new ≡ set es index (e.0, with_parts was phase previous))
    → MatchOption (at g es) (new ≡ es) (λ held. new ≡ set_value (is_at (grain_cmp g)) es (with_parts held phase previous))
written_at es apart g phase previous new index was there found given =
    subst (λ (o : Option Held). MatchOption o (new ≡ es)
    (λ held. new ≡ set_value (is_at (grain_cmp g)) es (with_parts held phase previous)))
    (found ∙ ap (λ test. lookup test es) (tests_alike g))
    (subst (λ (o : Option (Grain × Held)). MatchOption o (new ≡ es) (λ e. new ≡ set es index (e.0, with_parts was phase previous))) there
    given
    ∙ set_at es apart index g was (with_parts was phase previous) there)

pub unwritten : (es : List (Grain × Held)) (g : Grain) (phase : Phase) (previous : Option ActivationId) → None ≡ lookup (grain_eq g) es
    → MatchOption (at g es) (es ≡ es) (λ held. es ≡ set_value (is_at (grain_cmp g)) es (with_parts held phase previous))
unwritten es g phase previous none =
    subst (λ (o : Option Held). MatchOption o (es ≡ es) (λ held. es ≡ set_value (is_at (grain_cmp g)) es (with_parts held phase previous)))
    (none ∙ ap (λ test. lookup test es) (tests_alike g)) refl

pub written_are : (next : ℕ) (es : List (Grain × Held)) → AreBegun next es
    → (g : Grain) (phase : Phase) (previous : Option ActivationId) (new : List (Grain × Held))
    → MatchOption (at g es) (new ≡ es) (λ held. new ≡ set_value (is_at (grain_cmp g)) es (with_parts held phase previous))
    → AreBegun next new
written_are next es are g phase previous new written = by (at g es) refl written
  where
    by : (o : Option Held) → at g es ≡ o → MatchOption o (new ≡ es)
        (λ held. new ≡ set_value (is_at (grain_cmp g)) es (with_parts held phase previous)) → AreBegun next new
    by None none is = subst (AreBegun next) (sym is) are
    by (Some was) there is = set_are next es are g was (with_parts was phase previous) there refl new is

pub written_told : (next : ℕ) (es : List (Grain × Held)) → AreBegun next es
    → (g : Grain) (phase : Phase) (previous : Option ActivationId) (new : List (Grain × Held))
    → MatchOption (at g es) (new ≡ es) (λ held. new ≡ set_value (is_at (grain_cmp g)) es (with_parts held phase previous))
    → (old : ActivationsValue) → value next es ≡ old
    → MatchOption (at g old.entries) (value next new ≡ old)
    (λ held. value next new ≡ record old { entries = set_value (is_at (grain_cmp g)) old.entries (with_parts held phase previous) })
written_told next es are g phase previous new written old is_old =
    subst (λ (v : ActivationsValue). MatchOption (at g v.entries) (value next new ≡ v)
    (λ held. value next new ≡ record v { entries = set_value (is_at (grain_cmp g)) v.entries (with_parts held phase previous) }))
    is_old (by (at g es) refl written)
  where
    told : Option Held → Type 0
    told o = MatchOption o (value next new ≡ value next es)
        (λ held. value next new ≡ record {
          next_count = next;
          entries = set_value (is_at (grain_cmp g)) (in_order es)
              (with_parts held phase previous);
        })

    by : (o : Option Held) → at g es ≡ o → MatchOption o (new ≡ es)
        (λ held. new ≡ set_value (is_at (grain_cmp g)) es (with_parts held phase previous)) → told (at g (in_order es))
    by None none is = subst told (sym (lookup_in_order g es are.apart ∙ none)) (ap (value next) is)
    by (Some was) there is =
        subst told (sym (lookup_in_order g es are.apart ∙ there))
        (λ i. record { next_count = next; entries = set_told next es are g was (with_parts was phase previous) there refl new is i })

-- ---- One ends.
-- what goes from an index goes from under its grain, where the last one takes its room
pub gives_out : (es : List (Grain × Held)) → IsDistinct grain_eq (keys_of es) → (index : ℕ) (e : Grain × Held) → slice_get es index ≡ Some e
    → Gives e.0 None es (swap_remove es index e)
gives_out es apart index e there q =
    let new = swap_remove es index e in
    let moved : IsPermutation es (e ∷ new) = IsPermutation-swap_remove es index e (slice_get_within es index e there) (sym (get_or_from_slice_get es index e e there)) in
    let distinct : IsDistinct (eq_by_cmp grain_cmp) (keys_of (e ∷ new)) =
    IsDistinct-IsPermutation (eq_by_cmp grain_cmp) (eq_by_cmp_equiv grain_cmp_total).symm (keys_of es) (keys_of (e ∷ new))
    (IsPermutation-map (λ x. x.0) es (e ∷ new) moved) (by_order (keys_of es) apart) in
    let found : at q (e ∷ new) ≡ at q es = lookup_permutation (eq_by_cmp_equiv grain_cmp_total) es (e ∷ new) moved distinct (is_at (grain_cmp q)) ((eq_by_cmp_equiv grain_cmp_total).congr q) in
    on_grain (λ b. at q new ≡ cond b None (at q es)) e.0 q
    (λ same. gone_behind q e new (subst (λ (test : Grain → Grain → Bool). IsDistinct test (keys_of (e ∷ new)))
    (λ i a b. sym (same_test a b) i) distinct) (sym same))
    (λ other. sym (ap (λ b. cond b (Some e.1) (at q new)) (not_at q e.0 (λ same. other_grain e.0 q other (sym same)))) ∙ found)

module _ (next : ℕ) (es : List (Grain × Held)) (are : AreBegun next es) (g : Grain) (new : List (Grain × Held))
    (gives : Gives g None es new) (apart : IsDistinct grain_eq (keys_of new)) where
  pub ended_are : AreBegun next new
  ended_are =
      record { next = are.next; apart = apart_without es new g are.apart apart gives; below = below_without es new g next gives are.below }

  pub ended_told : in_order new ≡ remove_entry (is_at (grain_cmp g)) (in_order es)
  ended_told =
      unique (in_order new) (remove_entry (is_at (grain_cmp g)) (in_order es)) (row_in_order new ended_are.apart)
      (row_removed (is_at (grain_cmp g)) (in_order es) row)
      (λ q. lookup_in_order q new ended_are.apart
      ∙ gives q
      ∙ ap (λ o. cond (is_at (grain_cmp g) q) None o) (sym (lookup_in_order q es are.apart))
      ∙ sym (lookup-remove_entry (eq_by_cmp_equiv grain_cmp_total) (is_at (grain_cmp g)) ((eq_by_cmp_equiv grain_cmp_total).congr g) q
      (in_order es)
      (by_order (keys_of (in_order es)) (row_distinct (in_order es) row))))
    where
      row : IsRow (in_order es)
      row = row_in_order es are.apart

  pub ended_value : (old : ActivationsValue) → value next es ≡ old
      → value next new ≡ record old { entries = remove_entry (is_at (grain_cmp g)) old.entries }
  ended_value old is_old =
      (λ i. record { next_count = next; entries = ended_told i })
      ∙ ap (λ (v : ActivationsValue). record v { entries = remove_entry (is_at (grain_cmp g)) v.entries }) is_old
