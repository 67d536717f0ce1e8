-- The loops that list what is asked for, of all activations and of a stretch of hashes: what is listed so far, and what is left.
use Rattle.std.proofs.Common.{◌≡◌, ◌≢◌, inl, inr, refl, sym, ap, subst, ◌∙◌, eq-eqb, eqb, ℕ, ◌+◌, ◌<◌, ◌≤◌, List, [], ◌∷◌, ◌++◌, append_assoc, drop, cond, true, false, not, length, Option, Some, None, slice_get, arith}
use Rattle.std.specs.Prelude.{nat_lt}
use Rattle.std.specs.List.{AllByRecursion, cons_option}
use Rattle.std.specs.Option.{option_eq, option_map}
use Rattle.std.proofs.lemmas.Bool.{le-ltb, lt-ltb}
use Rattle.std.proofs.lemmas.List.{append-nil}
use Rattle.std.proofs.lemmas.List.Elements.{filter-append}
use Rattle.std.proofs.lemmas.Option.{same_Some}
use Rattle.silo_address.specs.Grain.{Grain}
use Rattle.hash_ring.specs.Hash.{hash_grain}
use Rattle.directory_rules.specs.declared.Held.{Held}
use Rattle.host_activations.specs.ByHash.{IsUnder, key_of}
use Rattle.host_activations.specs.Listing.{AddsFirst, ListsThen, RiseByHash, asked_for, hashed_below}
use Rattle.host_activations.specs.Stretch.{standing_at}
use Rattle.host_activations.specs.declared.activations.page.PageAsked.{PageAsked}
use Rattle.host_activations.specs.declared.by_hash.HashedCount.{HashedCount}
use Rattle.host_activations.proofs.FirstByHash.{asked_append, standing_append}
use Rattle.host_activations.proofs.Steps.{left_from}

-- what is listed with those that are left is all, where one more is listed, or not
pub asked_on : (asked : PageAsked) (es : List (Grain × Held)) (index : ℕ) (e : Grain × Held) → slice_get es index ≡ Some e
    → (firm new : List (ℕ × Grain × ℕ)) → new ≡ firm ++ asked_for asked (e ∷ [])
    → firm ++ asked_for asked (drop index es) ≡ asked_for asked es → new ++ asked_for asked (drop (index + 1) es) ≡ asked_for asked es
asked_on asked es index e there firm new new_is before =
    ap (λ l. l ++ asked_for asked (drop (index + 1) es)) new_is
    ∙ append_assoc firm (asked_for asked (e ∷ [])) (asked_for asked (drop (index + 1) es))
    ∙ ap (λ l. firm ++ l) (asked_append asked (e ∷ []) (drop (index + 1) es))
    ∙ ap (λ l. firm ++ asked_for asked l) (sym (left_from es index e there))
    ∙ before

-- ---- A stretch.
-- a hash that isn't the last one
pub other_hash : (last : Option ℕ) (hash : ℕ) → true ≡ not (option_eq eqb last (Some hash)) → last ≡ Some hash → ⊥
other_hash last hash differs same =
    let no : true ≡ false = differs ∙ ap (λ (o : Option ℕ). not (option_eq eqb o (Some hash))) same ∙ ap not (eq-eqb hash hash refl) in cc

-- the hash of the last that was passed, if there was one: none that was passed is above it, and none that is left below
abbrev IsUpTo : (passed left : List (HashedCount × ℕ)) → Option ℕ → Type 0
IsUpTo passed left None = passed ≡ []
IsUpTo passed left (Some hash) = AllByRecursion (λ x. x.0.hash ≤ hash) passed × AllByRecursion (λ y. hash ≤ y.0.hash) left

-- what the loop keeps
pub record AreListed (asked : PageAsked) (es : List (Grain × Held)) (stretch : List (HashedCount × ℕ)) (before : List (ℕ × Grain × ℕ))
    (left : List (HashedCount × ℕ)) (last : Option ℕ) (firm : List (ℕ × Grain × ℕ)) : Type 0 where
  pub passed : List (HashedCount × ℕ)
  pub whole : passed ++ left ≡ stretch
  pub listed : ListsThen asked es passed before firm
  pub up_to : IsUpTo passed left last
  pub under : AllByRecursion (IsUnder asked.hashing es) left
  pub rising : RiseByHash left

each_more : (P : HashedCount × ℕ → Type 0) (xs : List (HashedCount × ℕ)) (x : HashedCount × ℕ) → AllByRecursion P xs → P x
    → AllByRecursion P (xs ++ x ∷ [])
each_more P [] x all also = (also, tt)
each_more P (y ∷ xs) x all also = (all.0, each_more P xs x all.1 also)

each_so : (P Q : HashedCount × ℕ → Type 0) (xs : List (HashedCount × ℕ)) → ((x : HashedCount × ℕ) → P x → Q x) → AllByRecursion P xs
    → AllByRecursion Q xs
each_so P Q [] so all = tt
each_so P Q (x ∷ xs) so all = (so x all.0, each_so P Q xs so all.1)

module _ (asked : PageAsked) (es : List (Grain × Held)) (stretch : List (HashedCount × ℕ)) (before : List (ℕ × Grain × ℕ)) where
  pub nothing_listed : AllByRecursion (IsUnder asked.hashing es) stretch → RiseByHash stretch
      → AreListed asked es stretch before stretch None before
  nothing_listed under rising = record {
    passed = [];
    whole = refl;
    listed = sym (append-nil before);
    up_to = refl;
    under = under;
    rising = rising;
  }

  -- one more is passed: its activation is listed, if it is asked for
  module _ (left : List (HashedCount × ℕ)) (key : HashedCount) (index : ℕ) (rest : List (HashedCount × ℕ))
      (first : left ≡ (key, index) ∷ rest) (last : Option ℕ) (firm : List (ℕ × Grain × ℕ))
      (so : AreListed asked es stretch before left last firm) where
    its_under : AllByRecursion (IsUnder asked.hashing es) ((key, index) ∷ rest)
    its_under = subst (AllByRecursion (IsUnder asked.hashing es)) first so.under

    rises : RiseByHash ((key, index) ∷ rest)
    rises = subst RiseByHash first so.rising

    -- those passed are no higher than it
    upto_key : (o : Option ℕ) → IsUpTo so.passed left o → AllByRecursion (λ x. x.0.hash ≤ key.hash) so.passed
    upto_key None none = subst (AllByRecursion (λ (x : HashedCount × ℕ). x.0.hash ≤ key.hash)) (sym none) tt
    upto_key (Some hash) so_far =
        let ahead = subst (AllByRecursion (λ (y : HashedCount × ℕ). hash ≤ y.0.hash)) first so_far.1 in
        let up : hash ≤ key.hash = ahead.0 in
        each_so (λ x. x.0.hash ≤ hash) (λ x. x.0.hash ≤ key.hash) so.passed (λ x le. omega (arith, le, up)) so_far.0

    -- the activation at the index has the hash of the key
    pub its_hash : (e : Grain × Held) → slice_get es index ≡ Some e → key.hash ≡ hash_grain asked.hashing e.0
    its_hash e stands =
        ap (λ (k : HashedCount). k.hash)
        (sym (same_Some (key_of asked.hashing e) key (ap (option_map (key_of asked.hashing)) (sym stands) ∙ its_under.0)))

    pub one_listed : (new : List (ℕ × Grain × ℕ)) → ListsThen asked es ((key, index) ∷ []) firm new
        → AreListed asked es stretch before rest (Some key.hash) new
    one_listed new new_is = record {
      passed = so.passed ++ (key, index) ∷ [];
      whole = append_assoc so.passed ((key, index) ∷ []) rest ∙ ap (λ l. so.passed ++ l) (sym first) ∙ so.whole;
      listed =
          new_is ∙ ap (λ l. l ++ asked_for asked (standing_at es ((key, index) ∷ []))) so.listed
          ∙ append_assoc before (asked_for asked (standing_at es so.passed)) (asked_for asked (standing_at es ((key, index) ∷ [])))
          ∙ ap (λ l. before ++ l)
          (asked_append asked (standing_at es so.passed) (standing_at es ((key, index) ∷ []))
          ∙ ap (asked_for asked) (sym (standing_append es so.passed ((key, index) ∷ []))));
      up_to =
          (each_more (λ x. x.0.hash ≤ key.hash) so.passed (key, index) (upto_key last so.up_to) (omega arith), rises.0);
      under = its_under.1;
      rising = rises.1;
    }

    -- the activation that stands at the index
    pub found_listed : (e : Grain × Held) → slice_get es index ≡ Some e → (new : List (ℕ × Grain × ℕ))
        → new ≡ firm ++ asked_for asked (e ∷ []) → AreListed asked es stretch before rest (Some key.hash) new
    found_listed e stands new new_is =
        one_listed new (new_is ∙ ap (λ o. firm ++ asked_for asked (cons_option o [])) (sym stands))

    -- where there is none nothing is listed
    pub absent_listed : slice_get es index ≡ None → AreListed asked es stretch before rest (Some key.hash) firm
    absent_listed none =
        one_listed firm (sym (append-nil firm) ∙ ap (λ o. firm ++ asked_for asked (cons_option o [])) (sym none))

    -- ---- The list ends before a hash other than the last.
    below_key : (o : Option ℕ) → IsUpTo so.passed left o → (o ≡ Some key.hash → ⊥)
        → AllByRecursion (λ x. nat_lt x.0.hash key.hash ≡ true) so.passed
    below_key None none other = subst (AllByRecursion (λ (x : HashedCount × ℕ). nat_lt x.0.hash key.hash ≡ true)) (sym none) tt
    below_key (Some hash) so_far other =
        let ahead = subst (AllByRecursion (λ (y : HashedCount × ℕ). hash ≤ y.0.hash)) first so_far.1 in
        let up : hash ≤ key.hash = ahead.0 in
        let apart : hash ≢ key.hash = λ same. other (ap (λ (n : ℕ). Some n) same) in
        each_so (λ x. x.0.hash ≤ hash) (λ x. nat_lt x.0.hash key.hash ≡ true) so.passed
        (λ x le. lt-ltb x.0.hash key.hash (omega (arith, le, up, apart))) so_far.0

    all_kept : (xs : List (HashedCount × ℕ)) → AllByRecursion (λ x. nat_lt x.0.hash key.hash ≡ true) xs → hashed_below key.hash xs ≡ xs
    all_kept [] all = refl
    all_kept (x ∷ xs) all =
        ap (λ b. cond b (x ∷ hashed_below key.hash xs) (hashed_below key.hash xs)) all.0 ∙ ap (λ l. x ∷ l) (all_kept xs all.1)

    none_kept : (xs : List (HashedCount × ℕ)) → AllByRecursion (λ x. key.hash ≤ x.0.hash) xs → hashed_below key.hash xs ≡ []
    none_kept [] all = refl
    none_kept (x ∷ xs) all =
        ap (λ b. cond b (x ∷ hashed_below key.hash xs) (hashed_below key.hash xs)) (le-ltb x.0.hash key.hash all.0) ∙ none_kept xs all.1

    -- those passed are those below the key
    passed_are : (last ≡ Some key.hash → ⊥) → hashed_below key.hash stretch ≡ so.passed
    passed_are other =
        ap (hashed_below key.hash) (sym so.whole)
        ∙ filter-append (λ (x : HashedCount × ℕ). nat_lt x.0.hash key.hash) so.passed left
        ∙ ap (λ l. hashed_below key.hash so.passed ++ l)
        (ap (hashed_below key.hash) first ∙ none_kept ((key, index) ∷ rest) (omega arith, rises.0))
        ∙ append-nil (hashed_below key.hash so.passed)
        ∙ all_kept so.passed (below_key last so.up_to other)

    pub page_listed : asked.most < length firm → (last ≡ Some key.hash → ⊥) → AddsFirst asked es stretch before firm
    page_listed more other =
        inr (key.hash, more, so.listed ∙ ap (λ l. before ++ asked_for asked (standing_at es l)) (sym (passed_are other)))

  -- none is left
  pub all_listed : (left : List (HashedCount × ℕ)) → left ≡ [] → (last : Option ℕ) (firm : List (ℕ × Grain × ℕ))
      → AreListed asked es stretch before left last firm → AddsFirst asked es stretch before firm
  all_listed left none last firm so =
      inl (so.listed
      ∙ ap (λ l. before ++ asked_for asked (standing_at es l))
      (sym (append-nil so.passed) ∙ ap (λ l. so.passed ++ l) (sym none) ∙ so.whole))
