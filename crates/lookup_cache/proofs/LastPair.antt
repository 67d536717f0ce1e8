-- The last pair of a list whose keys are distinct: it is found where it is, and what is put in behind it is in order.
use Rattle.std.proofs.Common.{◌≡◌, ℕ, ◌-◌, ◌≤◌, Bool, false, cond, List, [], ◌∷◌, ◌++◌, length, take, Some, None, refl, ◌∙◌, ap, arith, length-append}
use Rattle.std.specs.Cmp.{IsEquivalence}
use Rattle.std.specs.List.{AllByRecursion, IsDistinct}
use Rattle.std.specs.Option.{option_map_or}
use Rattle.std.specs.Map.{keys_of, lookup_entry, remove_entry}
use Rattle.std.proofs.lemmas.Map.Keys.{IsDistinct-head, IsDistinct-tail}
use Rattle.lru.specs.LruCache.{lru_cache, promoted, put_entries}
use Rattle.lookup_cache.proofs.Pairs.{take_whole}

module _ {K V : Type 0} (eq : K → K → Bool) (laws : IsEquivalence eq) where
  last_of : (P : K → Type 0) (es : List (K × V)) (e : K × V) → AllByRecursion P (keys_of (es ++ e ∷ [])) → P e.0
  last_of P [] e all = all.0
  last_of P (f ∷ es) e all = last_of P es e all.1

  -- the last pair is the one that its key finds, and the others are left where it is removed
  record IsLast (es : List (K × V)) (e : K × V) : Type 0 where
    found : lookup_entry (eq e.0) (es ++ e ∷ []) ≡ Some e
    removed : remove_entry (eq e.0) (es ++ e ∷ []) ≡ es

  is_last : (es : List (K × V)) (e : K × V) → IsDistinct eq (keys_of (es ++ e ∷ [])) → IsLast es e
  is_last [] e distinct = record {
    found = ap (λ b. cond b (Some e) None) (laws.refl e.0);
    removed = ap (λ b. cond b [] (e ∷ [])) (laws.refl e.0);
  }
  is_last (f ∷ es) e distinct =
      let apart : eq e.0 f.0 ≡ false = laws.symm e.0 f.0 ∙ last_of (λ y. eq f.0 y ≡ false) es e (IsDistinct-head eq f.0 (keys_of (es ++ e ∷ [])) distinct) in
      let later = is_last es e (IsDistinct-tail eq f.0 (keys_of (es ++ e ∷ [])) distinct) in record {
        found = ap (λ b. cond b (Some f) (lookup_entry (eq e.0) (es ++ e ∷ []))) apart ∙ later.found;
        removed = ap (λ b. cond b (es ++ e ∷ []) (f ∷ remove_entry (eq e.0) (es ++ e ∷ []))) apart ∙ ap (λ l. f ∷ l) later.removed;
      }

  -- the last pair comes to the front
  pub promoted_last : (es : List (K × V)) (e : K × V) → IsDistinct eq (keys_of (es ++ e ∷ [])) → promoted (eq e.0) (es ++ e ∷ []) ≡ e ∷ es
  promoted_last es e distinct =
      let is = is_last es e distinct in
      ap (λ o. option_map_or (λ f. f ∷ remove_entry (eq e.0) (es ++ e ∷ [])) o (es ++ e ∷ [])) is.found ∙ ap (λ l. e ∷ l) is.removed

  -- ---- pairs put from the last one to the first
  distinct_behind : (es fs : List (K × V)) → IsDistinct eq (keys_of (es ++ fs)) → IsDistinct eq (keys_of fs)
  distinct_behind [] fs distinct = distinct
  distinct_behind (e ∷ es) fs distinct = distinct_behind es fs (IsDistinct-tail eq e.0 (keys_of (es ++ fs)) distinct)

  not_found : (k : K) (es : List (K × V)) → AllByRecursion (λ y. eq k y ≡ false) (keys_of es) → lookup_entry (eq k) es ≡ None
  not_found k [] apart = refl
  not_found k (e ∷ es) apart = ap (λ b. cond b (Some e) (lookup_entry (eq k) es)) apart.0 ∙ not_found k es apart.1

  -- a pair that stood before the others is put before them, where there is room
  pub put_before : (es : List (K × V)) (e : K × V) (fs : List (K × V)) (n : ℕ) → IsDistinct eq (keys_of (es ++ e ∷ fs))
      → length (es ++ e ∷ fs) ≤ n
      → put_entries eq (lru_cache fs n) e.0 e.1 ≡ e ∷ fs
  put_before es e fs n distinct within =
      let long = length-append es (e ∷ fs) in
      let room : length fs ≤ n - 1 = omega arith in
      ap (λ o. option_map_or (λ f. (f.0, e.1) ∷ remove_entry (eq e.0) fs) o (e ∷ take (n - 1) fs))
      (not_found e.0 fs (IsDistinct-head eq e.0 (keys_of fs) (distinct_behind es (e ∷ fs) distinct)))
      ∙ ap (λ l. e ∷ l) (take_whole (n - 1) fs room)
