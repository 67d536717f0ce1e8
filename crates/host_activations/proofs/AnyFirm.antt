-- Whether anything is firm in a range: whether any is among the first of what is asked for, and how a look at one after another tells it.
use Rattle.std.proofs.Common.{◌≡◌, ◌≢◌, ◌==◌, inl, inr, refl, sym, ap, subst, ◌∙◌, ℕ, ◌+◌, ◌-◌, ◌<◌, ◌≤◌, List, [], ◌∷◌, ◌++◌, cond, Bool, true, false, not, eq-eqb, drop, filter, length, map, option_map, Option, Some, None, is_some, slice_get, arith}
use Rattle.std.specs.Prelude.{nat_lt}
use Rattle.std.specs.BTreeMap.{is_at}
use Rattle.std.specs.List.{AllByRecursion, IsDistinct, cons_option}
use Rattle.std.specs.List.Sorted.{IsStrictlySortedBy}
use Rattle.std.specs.Map.{lookup, keys_of, values_of}
use Rattle.std.proofs.Math.ListN.{drop_of_length-le}
use Rattle.std.proofs.lemmas.Bool.{and_parts, eqb-true, le-ltb, lt-ltb, ltb-true}
use Rattle.std.proofs.lemmas.List.Sorted.{IsPermutation-refl}
use Rattle.std.proofs.lemmas.Option.{same_Some}
use Rattle.silo_address.specs.Silo.{Silo}
use Rattle.silo_address.specs.Grain.{Grain, grain_cmp, grain_eq}
use Rattle.silo_address.specs.declared.Entry.{Entry}
use Rattle.ring_range.specs.Range.{IsRange, circle}
use Rattle.hash_ring.specs.Hash.{hash_grain}
use Rattle.directory_rules.specs.declared.Held.{Held}
use Rattle.directory_rules.specs.Host.{entry_on}
use Rattle.directory_rules.specs.Standing.{standing_cmp, stands_behind}
use Rattle.directory_rules.specs.State.{Table}
use Rattle.directory_rules.proofs.Cases.{on_bool}
use Rattle.directory_rules.proofs.Standings.{put_as_they_stand}
use Rattle.host_activations.specs.Begun.{AreApart}
use Rattle.host_activations.specs.ByHash.{AreByHash, IsUnder, hashed_count_cmp, key_of}
use Rattle.host_activations.specs.Firm.{is_told}
use Rattle.host_activations.specs.InOrder.{in_order}
use Rattle.host_activations.specs.Listing.{AddsBetween, AreFirst, HasAny, as_listed, asked_for, hashed_between, is_asked_for, is_first, passing, steps_before}
use Rattle.host_activations.specs.Page.{told_behind}
use Rattle.host_activations.specs.Stretch.{standing_at}
use Rattle.host_activations.specs.declared.activations.page.PageAsked.{PageAsked}
use Rattle.host_activations.specs.declared.by_hash.HashedCount.{HashedCount}
use Rattle.host_activations.proofs.FirstByHash.{by_both_stretches, by_first_stretch, by_one_stretch}
use Rattle.host_activations.proofs.Grains.{grain_at_itself}
use Rattle.host_activations.proofs.Pages.{all_listed, first_in_order, whole}
use Rattle.host_activations.proofs.Steps.{left_from}
use Rattle.host_activations.proofs.Tables.{found_standing}

-- ---- Lists that have something, or nothing.
abbrev has : {X : Type 0} → List X → Bool
has xs = nat_lt 0 (length xs)

has_first : {X : Type 0} (x : X) (xs : List X) → true ≡ nat_lt 0 (length (x ∷ xs))
has_first x xs = sym (lt-ltb 0 (length (x ∷ xs)) (omega arith))

has_none : {X : Type 0} (xs : List X) → false ≡ nat_lt 0 (length xs) → xs ≡ []
has_none [] is = refl
has_none (x ∷ xs) is = let no : false ≡ true = is ∙ sym (has_first x xs) in cc

all_pass : {X : Type 0} (xs : List X) → filter (λ x. true) xs ≡ xs
all_pass [] = refl
all_pass (x ∷ xs) = ap (λ l. x ∷ l) (all_pass xs)

-- a length of which none is below is 0
pub none_is : (n : ℕ) → not (nat_lt 0 n) ≡ (n == 0)
none_is n =
    on_bool (λ b. not (nat_lt 0 n) ≡ b) (n == 0) (λ t. let zero : n ≡ 0 = eqb-true n 0 t in ap not (le-ltb 0 n (omega (arith, zero))))
    (λ f.
    let some : n ≢ 0 = λ same. let no : true ≡ false = sym (eq-eqb n 0 same) ∙ f in cc in
    ap not (lt-ltb 0 n (omega (arith, some))))

module _ (asked : PageAsked) where
  -- ---- What is asked for, one after another.
  taken : (e : Grain × Held) (es : List (Grain × Held)) → is_asked_for asked e ≡ true
      → asked_for asked (e ∷ es) ≡ as_listed asked e ∷ asked_for asked es
  taken e es is =
      ap (λ b. map (as_listed asked) (cond b (e ∷ filter (is_asked_for asked) es) (filter (is_asked_for asked) es))) is

  passed : (e : Grain × Held) (es : List (Grain × Held)) → is_asked_for asked e ≡ false → asked_for asked (e ∷ es) ≡ asked_for asked es
  passed e es not =
      ap (λ b. map (as_listed asked) (cond b (e ∷ filter (is_asked_for asked) es) (filter (is_asked_for asked) es))) not

  -- where one is, and those that are left have all that is asked for, there is some
  some : (e : Grain × Held) (es : List (Grain × Held)) (all : List (ℕ × Grain × ℕ)) → is_asked_for asked e ≡ true
      → asked_for asked (e ∷ es) ≡ all → true ≡ nat_lt 0 (length all)
  some e es all is left =
      has_first (as_listed asked e) (asked_for asked es) ∙ ap (λ l. nat_lt 0 (length l)) (sym (taken e es is) ∙ left)

  module _ (es : List (Grain × Held)) where
    -- ---- Of all activations.
    module _ (index : ℕ) (e : Grain × Held) (there : slice_get es index ≡ Some e) (all : List (ℕ × Grain × ℕ))
        (left : asked_for asked (drop index es) ≡ all) where
      from_it : asked_for asked (e ∷ drop (index + 1) es) ≡ all
      from_it = ap (asked_for asked) (sym (left_from es index e there)) ∙ left

      pub some_left : is_asked_for asked e ≡ true → true ≡ nat_lt 0 (length all)
      some_left is = some e (drop (index + 1) es) all is from_it

      pub rest_left : is_asked_for asked e ≡ false → asked_for asked (drop (index + 1) es) ≡ all
      rest_left not = sym (passed e (drop (index + 1) es) not) ∙ from_it

    -- where none is left there is none
    pub none_left : (n : ℕ) → length es ≤ n → (all : List (ℕ × Grain × ℕ)) → asked_for asked (drop n es) ≡ all
        → false ≡ nat_lt 0 (length all)
    none_left n past all left =
        ap (λ l. nat_lt 0 (length l)) (ap (asked_for asked) (sym (drop_of_length-le es past)) ∙ left)

    -- ---- Of a stretch.
    module _ (left : List (HashedCount × ℕ)) (key : HashedCount) (index : ℕ) (rest : List (HashedCount × ℕ))
        (first : left ≡ (key, index) ∷ rest) where
      all_under : AllByRecursion (IsUnder asked.hashing es) left → AllByRecursion (IsUnder asked.hashing es) ((key, index) ∷ rest)
      all_under under = subst (AllByRecursion (IsUnder asked.hashing es)) first under

      -- the activation at the index has the hash of the key
      pub hash_under : AllByRecursion (IsUnder asked.hashing es) left → (e : Grain × Held) → slice_get es index ≡ Some e
          → key.hash ≡ hash_grain asked.hashing e.0
      hash_under under e stands =
          ap (λ (k : HashedCount). k.hash)
          (sym (same_Some (key_of asked.hashing e) key (ap (option_map (key_of asked.hashing)) (sym stands) ∙ (all_under under).0)))

      module _ (all : List (ℕ × Grain × ℕ)) (whole : asked_for asked (standing_at es left) ≡ all) where
        from_key : (o : Option (Grain × Held)) → slice_get es index ≡ o
            → asked_for asked (cons_option o (standing_at es rest)) ≡ all
        from_key o stands =
            ap (λ (p : Option (Grain × Held)). asked_for asked (cons_option p (standing_at es rest))) (sym stands)
            ∙ ap (λ l. asked_for asked (standing_at es l)) (sym first) ∙ whole

        pub some_standing : (e : Grain × Held) → slice_get es index ≡ Some e → is_asked_for asked e ≡ true → true ≡ nat_lt 0 (length all)
        some_standing e stands is = some e (standing_at es rest) all is (from_key (Some e) stands)

  -- ---- Stretch by stretch.
  module _ (is_range : IsRange asked.range) (few : asked.most ≡ 0) (from : asked.after ≡ None) (es : List (Grain × Held))
      (are : AreApart es) (hashed : List (HashedCount × ℕ)) (by_hash : AreByHash asked.hashing es hashed)
      (sorted : IsStrictlySortedBy hashed_count_cmp (keys_of hashed)) (first end : ℕ) (first_is : first ≡ asked.range.start)
      (end_is : end ≡ asked.range.start + asked.range.size) where
    abbrev between : (first end : ℕ) → List (ℕ × Grain × ℕ)
    between first end = asked_for asked (standing_at es (hashed_between first end hashed))

    adds : (first end : ℕ) (before : List (ℕ × Grain × ℕ)) → AddsBetween asked es hashed first end before (before ++ between first end)
    adds first end before = record { bound = end; within = omega arith; listed = refl; enough = inr refl }

    first_from : first ≡ asked.range.start + steps_before asked asked.after
    first_from = let none : steps_before asked asked.after ≡ 0 = ap (steps_before asked) from in omega (arith, first_is, none)

    -- the range doesn't go over 0
    pub in_one_stretch : end ≤ circle → (any : Bool)
        → any ≡ nat_lt 0 (length (asked_for asked (standing_at es (hashed_between first end hashed)))) → HasAny asked es any
    in_one_stretch on_circle any is = (
      between first end,
      (
        by_one_stretch asked is_range es are hashed by_hash sorted first end first_from end_is [] (between first end)
            refl on_circle (adds first end []),
        is,
      ),
    )

    -- there is one up to 0
    pub in_first_stretch : circle < end → true ≡ nat_lt 0 (length (asked_for asked (standing_at es (hashed_between first circle hashed))))
        → HasAny asked es true
    in_first_stretch over is =
        let more : 0 < length (between first circle) = ltb-true 0 (length (between first circle)) (sym is) in (
          between first circle,
          (
            by_first_stretch asked is_range es are hashed by_hash sorted first end first_from end_is []
                (between first circle) refl over (adds first circle []) (omega (arith, more, few)),
            is,
          ),
        )

    -- there is none up to 0, and so it depends on what stands behind
    pub in_both_stretches : circle < end
        → false ≡ nat_lt 0 (length (asked_for asked (standing_at es (hashed_between first circle hashed)))) → (any : Bool)
        → any ≡ nat_lt 0 (length (asked_for asked (standing_at es (hashed_between 0 (end - circle) hashed)))) → HasAny asked es any
    in_both_stretches over none any is =
        let nothing = has_none (between first circle) none in
        let empty : length (between first circle) ≡ 0 = ap length nothing in
        let new = between first circle ++ between 0 (end - circle) in (
          new,
          (
            by_both_stretches asked is_range es are hashed by_hash sorted first end first_from end_is [] new refl over
                (between first circle) (adds first circle []) (omega (arith, empty)) (adds 0 (end - circle) (between first circle)),
            is ∙ ap (λ l. nat_lt 0 (length (l ++ between 0 (end - circle)))) (sym nothing),
          ),
        )

  -- ---- Of the activations as they began.
  pub any_in_order : (es : List (Grain × Held)) → AreApart es → (any : Bool) → HasAny asked es any → HasAny asked (in_order es) any
  any_in_order es are any so = (so.0, (first_in_order asked es are so.0 so.1.0, so.1.1))

  pub any_of_all : (es : List (Grain × Held)) → AreApart es → (any : Bool) → any ≡ nat_lt 0 (length (asked_for asked es))
      → HasAny asked (in_order es) any
  any_of_all es are any is = any_in_order es are any (asked_for asked es, (all_listed asked es are.grains, is))

  -- ---- So anything is told.
  module _ (from : asked.after ≡ None) (silo : Silo) (es : List (Grain × Held)) (apart : IsDistinct grain_eq (keys_of es)) where
    abbrev standing : Table
    standing =
        put_as_they_stand (hash_grain asked.hashing) (asked.range ∷ []) []
        (map (λ e. entry_on silo e.0 e.1) (filter (is_told asked.hashing asked.range) es))

    abbrev behind : Option Grain → Entry → Bool
    behind after e = stands_behind (hash_grain asked.hashing) (asked.range ∷ []) after e.grain

    all_told : told_behind silo asked es ≡ values_of standing
    all_told = ap (λ (o : Option Grain). filter (behind o) (values_of standing)) from ∙ all_pass (values_of standing)

    found_any : (test : Grain → Bool) (table : Table) → is_some (lookup test table) ≡ true → true ≡ nat_lt 0 (length (values_of table))
    found_any test [] is = cc
    found_any test (x ∷ table) is = has_first x.1 (values_of table)

    some_mapped : (q : Grain) (o : Option Held) → is_some o ≡ true → is_some (option_map (entry_on silo q) o) ≡ true
    some_mapped q None is = is
    some_mapped q (Some h) is = refl

    told_of : (bound : ℕ) (q : Grain) (o : Option Held) → is_some (passing (is_first asked bound) q o) ≡ true
        → is_some (passing (is_told asked.hashing asked.range) q o) ≡ true
    told_of bound q None is = is
    told_of bound q (Some h) is = by (is_first asked bound (q, h)) refl is
      where
        by : (b : Bool) → is_first asked bound (q, h) ≡ b → is_some (cond b (Some h) None) ≡ true
            → is_some (passing (is_told asked.hashing asked.range) q (Some h)) ≡ true
        by true first is =
            let its = (and_parts _ _ first).0 in
            let told = (and_parts _ _ its).0 in
            ap (λ b. is_some (cond b (Some h) None)) told
        by false later is = cc

    a_row : (rows : List (Grain × Held)) (x : ℕ × Grain × ℕ) (firm : List (ℕ × Grain × ℕ)) → x ∷ firm ≡ map (as_listed asked) rows
        → (q : Grain) × (is_some (lookup (is_at (grain_cmp q)) rows) ≡ true)
    a_row [] x firm is = absurd (cc (is))
    a_row (e ∷ rows) x firm is =
        (e.0, ap (λ b. is_some (cond b (Some e.1) (lookup (is_at (grain_cmp e.0)) rows))) (grain_at_itself e.0))

    by_firm : (firm : List (ℕ × Grain × ℕ)) → AreFirst asked es firm
        → nat_lt 0 (length firm) ≡ nat_lt 0 (length (told_behind silo asked es))
    by_firm [] first =
        elim first.enough [
          | inl more ↦ absurd (omega (arith, more))
          | inr all ↦ ap (λ l. nat_lt 0 (length l))
              (whole asked silo es apart [] [] first (IsPermutation-refl []) (λ k d low within. absurd (omega (arith, within))) all)
        ]
    by_firm (x ∷ firm) first =
        let row = a_row first.rows x firm first.listed in
        let found = told_of first.bound row.0 (lookup (is_at (grain_cmp row.0)) es) (ap is_some (sym (first.found row.0)) ∙ row.1) in
        sym (has_first x firm)
        ∙ found_any (is_at (standing_cmp (hash_grain asked.hashing) (asked.range ∷ []) row.0)) standing
        (ap is_some (found_standing (hash_grain asked.hashing) (asked.range ∷ []) silo (is_told asked.hashing asked.range) row.0 es apart)
        ∙ some_mapped row.0 (passing (is_told asked.hashing asked.range) row.0 (lookup (is_at (grain_cmp row.0)) es)) found)
        ∙ ap (λ l. nat_lt 0 (length l)) (sym all_told)

    pub has_told : (any : Bool) → HasAny asked es any → any ≡ nat_lt 0 (length (told_behind silo asked es))
    has_told any so = so.1.1 ∙ by_firm so.0 so.1.0
