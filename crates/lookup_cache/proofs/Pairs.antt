-- What the bounded map does to its pairs, in the words of the rule's cache.
use Rattle.std.proofs.Common.{◌≡◌, ℕ, zero, suc, ◌+◌, ◌-◌, ◌<◌, ◌≤◌, Bool, true, false, not, ◌&&◌, cond, List, [], ◌∷◌, filter, option_map, length, take, slice_get, is_some, Option, Some, None, refl, sym, ◌∙◌, ap, subst, arith}
use Rattle.std.specs.Cmp.{IsEquivalence}
use Rattle.std.specs.List.{AllByRecursion, IsDistinct}
use Rattle.std.specs.Option.{option_map_or}
use Rattle.std.specs.Map.{keys_of, lookup, lookup_entry, remove_entry}
use Rattle.std.proofs.lemmas.Map.Keys.{IsDistinct-head, IsDistinct-tail}
use Rattle.std.proofs.lemmas.Option.{same_Some}
use Rattle.lru.specs.LruCache.{LruCache, IsValid, promoted, put_entries}
use Rattle.lru.proofs.CallerLemmas.{Contains-lookup_entry}
use Rattle.lru.proofs.Pairs.{lookup-lookup_entry}

pub take_whole : {X : Type 0} (n : ℕ) (xs : List X) → length xs ≤ n → take n xs ≡ xs
take_whole zero [] short = refl
take_whole zero (x ∷ xs) short = absurd (omega arith)
take_whole (suc n) [] short = refl
take_whole (suc n) (x ∷ xs) short = ap (λ l. x ∷ l) (take_whole n xs (omega arith))

take_first : {X : Type 0} (n : ℕ) (x : X) (xs : List X) → 0 < n → take n (x ∷ xs) ≡ x ∷ take (n - 1) xs
take_first zero x xs some = absurd (omega arith)
take_first (suc n) x xs some = let less : suc n - 1 ≡ n = omega arith in ap (λ m. x ∷ take m xs) (sym less)

module _ {K V : Type 0} where
  -- where no key passes, nothing is removed
  pub removed_none : (test : K → Bool) (es : List (K × V)) → lookup_entry test es ≡ None → remove_entry test es ≡ es
  removed_none test [] none = refl
  removed_none test (e ∷ es) none = by (test e.0) none (removed_none test es)
    where
      by : (b : Bool) → cond b (Some e) (lookup_entry test es) ≡ None → (lookup_entry test es ≡ None → remove_entry test es ≡ es)
          → cond b es (e ∷ remove_entry test es) ≡ e ∷ es
      by true none later = cc
      by false none later = ap (λ l. e ∷ l) (later none)

  pub length-removed : (test : K → Bool) (es : List (K × V)) (f : K × V) → lookup_entry test es ≡ Some f
      → length (remove_entry test es) + 1 ≡ length es
  length-removed test [] f found = cc
  length-removed test (e ∷ es) f found = by (test e.0) found (length-removed test es f)
    where
      by : (b : Bool) → cond b (Some e) (lookup_entry test es) ≡ Some f
          → (lookup_entry test es ≡ Some f → length (remove_entry test es) + 1 ≡ length es)
          → length (cond b es (e ∷ remove_entry test es)) + 1 ≡ length (e ∷ es)
      by true found later = omega arith
      by false found later = let less = later found in omega arith

  -- what comes to the front is the pair that was found
  pub first-promoted : (test : K → Bool) (es : List (K × V)) → is_some (lookup test es) ≡ true
      → option_map (λ e. e.1) (slice_get (promoted test es) 0) ≡ lookup test es
  first-promoted test es there = by (lookup_entry test es) (lookup-lookup_entry test es) there
    where
      by : (o : Option (K × V)) → option_map (λ e. e.1) o ≡ lookup test es → is_some (lookup test es) ≡ true
          → option_map (λ e. e.1) (slice_get (option_map_or (λ e. e ∷ remove_entry test es) o es) 0) ≡ lookup test es
      by None is there = let no : true ≡ false = sym there ∙ ap is_some (sym is) in cc
      by (Some e) is there = is

  module _ (eq : K → K → Bool) (exact : (a b : K) → eq a b ≡ true → a ≡ b) where
    -- the pair that is found has this very key
    found_key : (k : K) (es : List (K × V)) (e : K × V) → lookup_entry (eq k) es ≡ Some e → e ≡ (k, e.1)
    found_key k es e found = let same : k ≡ e.0 = exact k e.0 (Contains-lookup_entry (eq k) es e found).1 in λ i. (sym same i, e.1)

    -- ---- a pair is put: it stands in front, in place of one of its key, and the last goes where there are too many
    put_by : (k : K) (v : V) (es : List (K × V)) (n : ℕ) → length es ≤ n → 0 < n → (o : Option (K × V)) → lookup_entry (eq k) es ≡ o
        → option_map_or (λ e. (e.0, v) ∷ remove_entry (eq k) es) o ((k, v) ∷ take (n - 1) es) ≡ take n ((k, v) ∷ remove_entry (eq k) es)
    put_by k v es n within some None found =
        sym (take_first n (k, v) (remove_entry (eq k) es) some ∙ ap (λ l. (k, v) ∷ take (n - 1) l) (removed_none (eq k) es found))
    put_by k v es n within some (Some e) found =
        let less = length-removed (eq k) es e found in
        ap (λ (f : K × V). (f.0, v) ∷ remove_entry (eq k) es) (found_key k es e found)
        ∙ sym (take_whole n ((k, v) ∷ remove_entry (eq k) es) (omega arith))

    pub put_is : (c : LruCache K V) (k : K) (v : V) → IsValid eq c
        → put_entries eq c k v ≡ take c.cap ((k, v) ∷ remove_entry (eq k) c.entries)
    put_is c k v valid = put_by k v c.entries c.cap valid.1 valid.2 (lookup_entry (eq k) c.entries) refl

    -- ---- a pair is used: it comes to the front in the same way
    used_by : (k : K) (es : List (K × V)) (n : ℕ) → length es ≤ n → (o : Option (K × V)) → lookup_entry (eq k) es ≡ o
        → option_map_or (λ e. e ∷ remove_entry (eq k) es) o es ≡ option_map_or (λ v. take n ((k, v) ∷ remove_entry (eq k) es))
        (option_map (λ e. e.1) o) es
    used_by k es n within None found = refl
    used_by k es n within (Some e) found =
        let less = length-removed (eq k) es e found in
        ap (λ (f : K × V). f ∷ remove_entry (eq k) es) (found_key k es e found)
        ∙ sym (take_whole n ((k, e.1) ∷ remove_entry (eq k) es) (omega arith))

    pub used_is : (k : K) (es : List (K × V)) (n : ℕ) → length es ≤ n
        → promoted (eq k) es ≡ option_map_or (λ v. take n ((k, v) ∷ remove_entry (eq k) es)) (lookup (eq k) es) es
    used_is k es n within =
        used_by k es n within (lookup_entry (eq k) es) refl
        ∙ ap (λ o. option_map_or (λ v. take n ((k, v) ∷ remove_entry (eq k) es)) o es) (lookup-lookup_entry (eq k) es)

    -- ---- a pair is forgotten, if the key has just that value
    module _ (laws : IsEquivalence eq) (same : V → V → Bool) (one : (a b : V) → same a b ≡ true → a ≡ b)
        (itself : (a : V) → same a a ≡ true) (k : K) (v : V) where
      abbrev is_it : K × V → Bool
      is_it pair = eq k pair.0 && same v pair.1

      kept : (e : K × V) → eq k e.0 ≡ false → is_it e ≡ false
      kept e apart = ap (λ b. b && same v e.1) apart

      -- of another key each pair stays
      all_kept : (es : List (K × V)) → AllByRecursion (λ y. eq k y ≡ false) (keys_of es) → filter (λ p. not (is_it p)) es ≡ es
      all_kept [] apart = refl
      all_kept (e ∷ es) apart =
          ap (λ b. cond (not b) (e ∷ filter (λ p. not (is_it p)) es) (filter (λ p. not (is_it p)) es)) (kept e apart.0)
          ∙ ap (λ l. e ∷ l) (all_kept es apart.1)

      behind : (e : K × V) (es : List (K × V)) → eq k e.0 ≡ true → IsDistinct eq (keys_of (e ∷ es))
          → AllByRecursion (λ y. eq k y ≡ false) (keys_of es)
      behind e es is distinct =
          subst (λ q. AllByRecursion (λ y. eq q y ≡ false) (keys_of es)) (sym (exact k e.0 is))
          (IsDistinct-head eq e.0 (keys_of es) distinct)

      pub forgot_it : (es : List (K × V)) → IsDistinct eq (keys_of es) → lookup (eq k) es ≡ Some v
          → remove_entry (eq k) es ≡ filter (λ p. not (is_it p)) es
      forgot_it [] distinct found = cc
      forgot_it (e ∷ es) distinct found = by (eq k e.0) refl found (forgot_it es (IsDistinct-tail eq e.0 (keys_of es) distinct))
        where
          by : (b : Bool) → eq k e.0 ≡ b → cond b (Some e.1) (lookup (eq k) es) ≡ Some v
              → (lookup (eq k) es ≡ Some v → remove_entry (eq k) es ≡ filter (λ p. not (is_it p)) es)
              → cond b es (e ∷ remove_entry (eq k) es) ≡ cond (not (b && same v e.1)) (e ∷ filter (λ p. not (is_it p)) es)
              (filter (λ p. not (is_it p)) es)
          by true is found later =
              let its : same v e.1 ≡ true = subst (λ w. same v w ≡ true) (sym (same_Some e.1 v found)) (itself v) in
              sym (ap (λ b. cond (not b) (e ∷ filter (λ p. not (is_it p)) es) (filter (λ p. not (is_it p)) es)) its
              ∙ all_kept es (behind e es is distinct))
          by false is found later = ap (λ l. e ∷ l) (later found)

      pub forgot_none : (es : List (K × V)) → IsDistinct eq (keys_of es) → (lookup (eq k) es ≡ Some v → ⊥)
          → es ≡ filter (λ p. not (is_it p)) es
      forgot_none [] distinct absent = refl
      forgot_none (e ∷ es) distinct absent =
          by (eq k e.0) refl (same v e.1) refl absent (forgot_none es (IsDistinct-tail eq e.0 (keys_of es) distinct))
        where
          by : (b : Bool) → eq k e.0 ≡ b → (s : Bool) → same v e.1 ≡ s → (cond b (Some e.1) (lookup (eq k) es) ≡ Some v → ⊥)
              → ((lookup (eq k) es ≡ Some v → ⊥) → es ≡ filter (λ p. not (is_it p)) es)
              → e ∷ es ≡ cond (not (b && s)) (e ∷ filter (λ p. not (is_it p)) es) (filter (λ p. not (is_it p)) es)
          by true is true its absent later = absurd (absent (ap (λ w. Some w) (sym (one v e.1 its))))
          by true is false its absent later = ap (λ l. e ∷ l) (sym (all_kept es (behind e es is distinct)))
          by false is s its absent later = ap (λ l. e ∷ l) (later absent)
