-- The requests about a grain: its finds stand together, and the one of its activation comes among them.
use Rattle.std.proofs.Common.{◌≡◌, refl, sym, ap, subst, ◌∙◌, ℕ, suc, ◌+◌, ◌<◌, ◌^◌, List, [], ◌∷◌, length, map, filter, slice_get, cond, Bool, true, false, not, ◌&&◌, Option, Some, None, is_some, option_and_then, arith}
use Rattle.std.specs.List.{AllByRecursion, cons_option, filter_map}
use Rattle.std.specs.List.Sorted.{IsStrictlySortedBy}
use Rattle.std.specs.Map.{keys_of, lookup}
use Rattle.std.specs.BTreeMap.{is_at, insert_entry}
use Rattle.std.specs.BTreeMap.Range.{entries_between, range_contains}
use Rattle.std.specs.Option.{option_map}
use Rattle.std.specs.Ordering.{is_gt, is_le, is_lt, nat_cmp, ordering_then}
use Rattle.std.specs.declared.cmp.Ordering.{Ordering}
use Rattle.std.specs.declared.cmp.Ordering.TheVariants.{Less, Equal, Greater}
use Rattle.std.specs.declared.ops.Bound.TheVariants.{Included}
use Rattle.std.proofs.lemmas.Cmp.{eq_by_cmp_equiv, nat_cmp_total, ranked, tied_itself}
use Rattle.std.proofs.lemmas.List.{length-map}
use Rattle.std.proofs.lemmas.Map.Entries.{lookup_from_place}
use Rattle.std.proofs.lemmas.Map.Keys.{IsDistinct-from_sorted}
use Rattle.std.proofs.lemmas.Map.Lookups.{exact_unsigned}
use Rattle.std.proofs.lemmas.Option.{same_Some}
use Rattle.texts.proofs.Entries.{length-insert_entry, lookup-insert_entry, lookup-picked, sorted-insert_entry, sorted-picked}
use Rattle.texts.proofs.Orderings.{at_itself}
use Rattle.membership_view.proofs.Found.{same_entries}
use Rattle.silo_address.specs.Grain.{Grain, grain_cmp, grain_eq}
use Rattle.silo_address.proofs.Order.{grain_cmp_total, grain_cmp_exact}
use Rattle.silo_address.proofs.Same.{Decides-grain}
use Rattle.host_activations.specs.declared.asked.OutstandingRequest.{OutstandingRequest}
use Rattle.host_activations.specs.declared.asked.OutstandingRequest.TheVariants.{Activation, Find}
use Rattle.host_activations.specs.declared.outstanding.by_grain.FindKey.{FindKey}
use Rattle.host_activations.specs.Asked.{asked_under}
use Rattle.host_activations.specs.Outstanding.{AreIndexed, IsOwn, about_grain, find_key_cmp, first_of, grain_asked, is_find_of, last_of}
use Rattle.host_activations.proofs.FindsByGrain.{Keys, find_key, find_key_cmp_total, is_key, on_find_key}
use Rattle.host_activations.proofs.Grains.{on_test}
use Rattle.host_activations.proofs.Numbers.{on_number}

-- ---- Requests that pass a test.
-- a request, if it passes
abbrev pub only : (OutstandingRequest → Bool) → OutstandingRequest → Option OutstandingRequest
only p asked = cond (p asked) (Some asked) None

module _ (p : OutstandingRequest → Bool) where
  picks : (es : List (ℕ × OutstandingRequest)) → filter (λ e. p e.1) es ≡ filter_map (λ e. option_map (λ asked. (e.0, asked)) (only p e.1))
      es
  picks [] = refl
  picks (e ∷ es) = by (p e.1) (picks es)
    where
      by : (b : Bool) → filter (λ x. p x.1) es ≡ filter_map (λ x. option_map (λ asked. (x.0, asked)) (only p x.1)) es
          → cond b (e ∷ filter (λ x. p x.1) es) (filter (λ x. p x.1) es)
          ≡ cons_option (option_map (λ asked. (e.0, asked)) (cond b (Some e.1) None))
          (filter_map (λ x. option_map (λ asked. (x.0, asked)) (only p x.1)) es)
      by true later = ap (λ l. e ∷ l) later
      by false later = later

  pub lookup_passed : (es : List (ℕ × OutstandingRequest)) → IsStrictlySortedBy nat_cmp (keys_of es) → (n : ℕ)
      → asked_under n (filter (λ e. p e.1) es) ≡ option_and_then (only p) (asked_under n es)
  lookup_passed es sorted n = ap (asked_under n) (picks es) ∙ lookup-picked nat_cmp_total (only p) n es sorted

  pub sorted_passed : (es : List (ℕ × OutstandingRequest)) → IsStrictlySortedBy nat_cmp (keys_of es)
      → IsStrictlySortedBy nat_cmp (keys_of (filter (λ e. p e.1) es))
  sorted_passed es sorted =
      subst (λ l. IsStrictlySortedBy nat_cmp (keys_of l)) (sym (picks es)) (sorted-picked nat_cmp_total (only p) es sorted)

  pub from_passed : (o : Option OutstandingRequest) (asked : OutstandingRequest) → option_and_then (only p) o ≡ Some asked
      → (o ≡ Some asked) × (p asked ≡ true)
  from_passed None asked is = cc
  from_passed (Some a) asked is = by (p a) refl is
    where
      by : (b : Bool) → p a ≡ b → cond b (Some a) None ≡ Some asked → (Some a ≡ Some asked) × (p asked ≡ true)
      by true ever it = (it, subst (λ x. p x ≡ true) (same_Some a asked it) ever)
      by false never it = cc

  pub to_passed : (o : Option OutstandingRequest) (asked : OutstandingRequest) → o ≡ Some asked → p asked ≡ true
      → option_and_then (only p) o ≡ Some asked
  to_passed o asked is ever = ap (option_and_then (only p)) is ∙ ap (λ b. cond b (Some asked) None) ever

  pub not_passed : (o : Option OutstandingRequest) (asked : OutstandingRequest) → o ≡ Some asked → p asked ≡ false
      → option_and_then (only p) o ≡ None
  not_passed o asked is never = ap (option_and_then (only p)) is ∙ ap (λ b. cond b (Some asked) None) never

-- whether a request is about the grain
abbrev pub is_about : Grain → OutstandingRequest → Bool
is_about g asked = grain_eq (grain_asked asked) g

-- ---- Finds of a grain.
abbrev pub finds_of : Grain → Keys → Keys
finds_of g keys = filter (λ x. grain_eq x.0.grain g) keys

-- and as requests, under their numbers
abbrev pub told_finds : Grain → Keys → List (ℕ × OutstandingRequest)
told_finds g keys = map (λ x. (x.0.number, Find g)) (finds_of g keys)

least : (n : ℕ) → is_le (nat_cmp 0 n) ≡ true
least n = by (nat_cmp 0 n) refl
  where
    by : (r : Ordering) → nat_cmp 0 n ≡ r → is_le r ≡ true
    by Less h = refl
    by Equal h = refl
    by Greater h = let below : n < 0 = ranked 0 n Greater (sym h) in absurd (omega (below, arith))

not_past : (n : ℕ) → is_gt (nat_cmp 0 n) ≡ false
not_past n = by (nat_cmp 0 n) refl
  where
    by : (r : Ordering) → nat_cmp 0 n ≡ r → is_gt r ≡ false
    by Less h = refl
    by Equal h = refl
    by Greater h = let below : n < 0 = ranked 0 n Greater (sym h) in absurd (omega (below, arith))

-- the first of a grain isn't past its last
pub first_to_last : (g : Grain) → is_gt (find_key_cmp (first_of g) (last_of g)) ≡ false
first_to_last g =
    ap (λ r. is_gt (ordering_then r (nat_cmp 0 18446744073709551615))) (tied_itself grain_cmp_total g)
    ∙ not_past 18446744073709551615

most : (n : ℕ) → n < 2 ^ 64 → is_lt (nat_cmp 18446744073709551615 n) ≡ false
most n fits = by (nat_cmp 18446744073709551615 n) refl
  where
    by : (r : Ordering) → nat_cmp 18446744073709551615 n ≡ r → is_lt r ≡ false
    by Less h = let above : 18446744073709551615 < n = ranked 18446744073709551615 n Less (sym h) in absurd (omega (above, fits, arith))
    by Equal h = refl
    by Greater h = refl

stands_between : (g : Grain) (key : FindKey) → key.number < 2 ^ 64
    → range_contains find_key_cmp (Included (first_of g)) (Included (last_of g)) key ≡ grain_eq key.grain g
stands_between g key fits = by (grain_cmp g key.grain) refl
  where
    other : (r : Ordering) → grain_cmp g key.grain ≡ r → (r ≡ Equal → ⊥) → grain_eq key.grain g ≡ false
    other r h apart =
        on_test (λ b. b ≡ false) (grain_eq key.grain g)
        (λ ever. absurd (apart (sym h ∙ ap (λ (q : Grain). grain_cmp g q) ((Decides-grain key.grain g).0 ever)
        ∙ tied_itself grain_cmp_total g))) (λ never. refl)

    by : (r : Ordering) → grain_cmp g key.grain ≡ r
        → (is_le (ordering_then r (nat_cmp 0 key.number)) && not (is_lt (ordering_then r (nat_cmp 18446744073709551615 key.number))))
        ≡ grain_eq key.grain g
    by Less h = sym (other Less h (λ e. cc))
    by Equal h =
        (λ i. least key.number i && not (most key.number fits i))
        ∙ sym ((Decides-grain key.grain g).1 (sym (grain_cmp_exact g key.grain h)))
    by Greater h = sym (other Greater h (λ e. cc))

from_each : {X : Type 0} (P : X → Type 0) (xs : List X) → ((i : ℕ) (x : X) → slice_get xs i ≡ Some x → P x) → AllByRecursion P xs
from_each P [] each = tt
from_each P (x ∷ xs) each = (each 0 x refl, from_each P xs (λ i y at. each (suc i) y at))

all_fit : (out : List (ℕ × OutstandingRequest)) (keys : Keys) → AreIndexed out keys → AllByRecursion (λ x. x.0.number < 2 ^ 64) keys
all_fit out keys are =
    from_each (λ x. x.0.number < 2 ^ 64) keys
    (λ i x at. are.within x.0 (ap is_some (lookup_from_place (eq_by_cmp_equiv find_key_cmp_total) keys i x.0 x.1
    (IsDistinct-from_sorted find_key_cmp (keys_of keys) are.by_grain) at)))

between_all : (g : Grain) (keys : Keys) → AllByRecursion (λ x. x.0.number < 2 ^ 64) keys
    → entries_between find_key_cmp (Included (first_of g)) (Included (last_of g)) keys ≡ finds_of g keys
between_all g [] fit = refl
between_all g (x ∷ keys) fit = λ i. cond (stands_between g x.0 fit.0 i) (x ∷ between_all g keys fit.1 i) (between_all g keys fit.1 i)

number_less : (a b : FindKey) → a.grain ≡ b.grain → find_key_cmp a b ≡ Less → nat_cmp a.number b.number ≡ Less
number_less a b same less =
    sym (ap (λ r. ordering_then r (nat_cmp a.number b.number))
    (ap (λ (q : Grain). grain_cmp a.grain q) (sym same) ∙ tied_itself grain_cmp_total a.grain)) ∙ less

all_above : (g : Grain) (x : FindKey) (ys : Keys) → x.grain ≡ g → AllByRecursion (λ k. find_key_cmp x k ≡ Less) (keys_of ys)
    → AllByRecursion (λ n. nat_cmp x.number n ≡ Less) (map (λ y. y.0.number) (finds_of g ys))
all_above g x [] same all = tt
all_above g x (y ∷ ys) same all = by (grain_eq y.0.grain g) refl (all_above g x ys same all.1)
  where
    by : (b : Bool) → grain_eq y.0.grain g ≡ b → AllByRecursion (λ n. nat_cmp x.number n ≡ Less) (map (λ z. z.0.number) (finds_of g ys))
        → AllByRecursion (λ n. nat_cmp x.number n ≡ Less) (map (λ z. z.0.number) (cond b (y ∷ finds_of g ys) (finds_of g ys)))
    by true ever rest = (number_less x y.0 (same ∙ sym ((Decides-grain y.0.grain g).0 ever)) all.0, rest)
    by false never rest = rest

pub numbers_rise : (g : Grain) (keys : Keys) → IsStrictlySortedBy find_key_cmp (keys_of keys)
    → IsStrictlySortedBy nat_cmp (map (λ x. x.0.number) (finds_of g keys))
unfolding IsStrictlySortedBy
numbers_rise g [] sorted = tt
numbers_rise g (x ∷ keys) sorted = by (grain_eq x.0.grain g) refl (numbers_rise g keys sorted.1)
  where
    by : (b : Bool) → grain_eq x.0.grain g ≡ b → IsStrictlySortedBy nat_cmp (map (λ y. y.0.number) (finds_of g keys))
        → IsStrictlySortedBy nat_cmp (map (λ y. y.0.number) (cond b (x ∷ finds_of g keys) (finds_of g keys)))
    by true ever rest = (all_above g x.0 keys ((Decides-grain x.0.grain g).0 ever) sorted.0, rest)
    by false never rest = rest

pub keys_told : (g : Grain) (xs : Keys) → map (λ x. x.0.number) xs ≡ keys_of (map (λ x. (x.0.number, Find g)) xs)
keys_told g [] = refl
keys_told g (x ∷ xs) = ap (λ l. x.0.number ∷ l) (keys_told g xs)

found_told : (g : Grain) (n : ℕ) (keys : Keys) → asked_under n (told_finds g keys) ≡ cond (is_some (lookup (is_key (find_key g n)) keys))
    (Some (Find g)) None
found_told g n [] = refl
found_told g n (x ∷ keys) = by (grain_eq x.0.grain g) refl (found_told g n keys)
  where
    there : Option (Unit {0})
    there = lookup (is_key (find_key g n)) keys

    by : (b : Bool) → grain_eq x.0.grain g ≡ b → asked_under n (told_finds g keys) ≡ cond (is_some there) (Some (Find g)) None
        → asked_under n (map (λ y. (y.0.number, Find g)) (cond b (x ∷ finds_of g keys) (finds_of g keys))) ≡ cond
        (is_some (cond (is_key (find_key g n) x.0) (Some x.1) there)) (Some (Find g)) None
    by true ever later =
        on_find_key (λ b. cond (is_at (nat_cmp n) x.0.number) (Some (Find g)) (asked_under n (told_finds g keys)) ≡ cond
        (is_some (cond b (Some x.1) there)) (Some (Find g)) None) (find_key g n) x.0
        (λ same. ap (λ b. cond b (Some (Find g)) (asked_under n (told_finds g keys)))
        (ap (λ (k : FindKey). is_at (nat_cmp n) k.number) (sym same) ∙ at_itself n))
        (λ apart. ap (λ b. cond b (Some (Find g)) (asked_under n (told_finds g keys)))
        (on_number (λ b. b ≡ false) n x.0.number (λ same. absurd
        (apart (λ i. find_key (sym ((Decides-grain x.0.grain g).0 ever) i) (same i)))) (λ other. refl))
        ∙ later)
    by false never later =
        on_find_key (λ b. asked_under n (told_finds g keys) ≡ cond (is_some (cond b (Some x.1) there)) (Some (Find g)) None) (find_key g n)
        x.0
        (λ same. let h : true ≡ false = sym ((Decides-grain x.0.grain g).1 (ap (λ (k : FindKey). k.grain) (sym same))) ∙ never in cc)
        (λ apart. later)

-- ---- With the request of its activation they are all that is about the grain.
abbrev pub with_own : Option ℕ → Grain → List (ℕ × OutstandingRequest) → List (ℕ × OutstandingRequest)
with_own None g finds = finds
with_own (Some number) g finds = insert_entry nat_cmp finds number (Activation g)

-- one more, where there is a number
abbrev pub count_own : Option ℕ → ℕ
count_own None = 0
count_own (Some number) = 1

module _ (out : List (ℕ × OutstandingRequest)) (keys : Keys) (are : AreIndexed out keys) (g : Grain) where
  pub between_are : entries_between find_key_cmp (Included (first_of g)) (Included (last_of g)) keys ≡ finds_of g keys
  between_are = between_all g keys (all_fit out keys are)

  pub finds_rise : IsStrictlySortedBy nat_cmp (map (λ x. x.0.number) (finds_of g keys))
  finds_rise = numbers_rise g keys are.by_grain

  finds_sorted : IsStrictlySortedBy nat_cmp (keys_of (told_finds g keys))
  finds_sorted = subst (IsStrictlySortedBy nat_cmp) (keys_told g (finds_of g keys)) finds_rise

  find_told : (n : ℕ) → asked_under n (told_finds g keys) ≡ cond (is_find_of g (asked_under n out)) (Some (Find g)) None
  find_told n = found_told g n keys ∙ ap (λ b. cond b (Some (Find g)) None) (are.found (find_key g n))

  -- what isn't the activation's is told as it is
  rest_told : (a : Option OutstandingRequest) → (a ≡ Some (Activation g) → ⊥)
      → cond (is_find_of g a) (Some (Find g)) None ≡ option_and_then (only (is_about g)) a
  rest_told None apart = refl
  rest_told (Some (Activation q)) apart =
      on_test (λ b. None ≡ cond b (Some (Activation q)) None) (grain_eq q g)
      (λ ever. absurd (apart (ap (λ (x : Grain). Some (Activation x)) ((Decides-grain q g).0 ever)))) (λ never. refl)
  rest_told (Some (Find q)) apart =
      on_test (λ b. cond b (Some (Find g)) None ≡ cond b (Some (Find q)) None) (grain_eq q g)
      (λ ever. ap (λ (x : Grain). Some (Find x)) (sym ((Decides-grain q g).0 ever))) (λ never. refl)

  module _ (own : Option ℕ) (its : IsOwn own g out) where
    others_told : (n : ℕ) → (own ≡ Some n → ⊥) → asked_under n (told_finds g keys) ≡ option_and_then (only (is_about g)) (asked_under n out)
    others_told n apart = find_told n ∙ rest_told (asked_under n out) (λ is. apart ((its n).1 is))

    all_told : (o : Option ℕ) → own ≡ o → (n : ℕ) → asked_under n (with_own o g (told_finds g keys)) ≡ option_and_then (only (is_about g))
        (asked_under n out)
    all_told None is n = others_told n (λ some. let h : None ≡ Some n = sym is ∙ some in cc)
    all_told (Some m) is n =
        lookup-insert_entry nat_cmp_total m (Activation g) n (told_finds g keys)
        ∙ on_number (λ b. cond b (Some (Activation g)) (asked_under n (told_finds g keys)) ≡ option_and_then (only (is_about g))
        (asked_under n out)) n m
        (λ same. sym (to_passed (is_about g) (asked_under n out) (Activation g) ((its n).0 (is ∙ ap (λ (k : ℕ). Some k) (sym same)))
        ((Decides-grain g g).1 refl)))
        (λ other. others_told n (λ some. let same : m ≡ n = same_Some m n (sym is ∙ some) in apart n m other (sym same)))
      where
        apart : (a b : ℕ) → is_at (nat_cmp a) b ≡ false → a ≡ b → ⊥
        apart a b other same = let h : true ≡ false = sym (at_itself a) ∙ ap (λ (k : ℕ). is_at (nat_cmp a) k) same ∙ other in cc

    own_sorted : (o : Option ℕ) → IsStrictlySortedBy nat_cmp (keys_of (with_own o g (told_finds g keys)))
    own_sorted None = finds_sorted
    own_sorted (Some m) = sorted-insert_entry nat_cmp_total m (Activation g) (told_finds g keys) finds_sorted

    pub about_are : with_own own g (told_finds g keys) ≡ about_grain g out
    about_are =
        same_entries nat_cmp_total exact_unsigned (with_own own g (told_finds g keys)) (about_grain g out) (own_sorted own)
        (sorted_passed (is_about g) out are.in_order)
        (λ n. all_told own refl n ∙ sym (lookup_passed (is_about g) out are.in_order n))

    counted : (o : Option ℕ) → own ≡ o → length (with_own o g (told_finds g keys)) ≡ length (finds_of g keys) + count_own o
    counted None is =
        let same = length-map {B = ℕ × OutstandingRequest} (finds_of g keys) (λ x. (x.0.number, Find g)) in omega (same, arith)
    counted (Some m) is =
        let more = length-insert_entry nat_cmp_total m (Activation g) (told_finds g keys) (find_told m ∙ ap (λ a. cond (is_find_of g a) (Some (Find g)) None) ((its m).0 is)) in
        let same = length-map {B = ℕ × OutstandingRequest} (finds_of g keys) (λ x. (x.0.number, Find g)) in omega (more, same, arith)

    pub about_count : length (finds_of g keys) + count_own own ≡ length (about_grain g out)
    about_count = sym (counted own refl) ∙ ap (λ (l : List (ℕ × OutstandingRequest)). length l) about_are
