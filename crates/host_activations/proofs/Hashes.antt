-- The hashes of activations' grains where one begins, changes or ends.
use Rattle.std.proofs.Common.{◌≡◌, sym, ap, ◌∙◌, ℕ, ◌<◌, List, [], ◌∷◌, ◌++◌, length, map, set, swap_remove, slice_get, Option, Some, None, subst, arith}
use Rattle.std.specs.Prelude.{MatchOption}
use Rattle.std.specs.Option.{option_map}
use Rattle.std.specs.Map.{keys_of, set_value}
use Rattle.std.specs.BTreeMap.{is_at}
use Rattle.std.proofs.lemmas.List.{map-append}
use Rattle.std.proofs.lemmas.Map.{keys-set_value}
use Rattle.std.proofs.lemmas.Map.Entries.{length-keys_of}
use Rattle.std.proofs.lemmas.Option.{same_Some, slice_get-map, slice_get_within}
use Rattle.indexmap.proofs.MapLemmas.{swap_remove-default}
use Rattle.indexmap.proofs.SetLemmas.{map-swap_remove}
use Rattle.silo_address.specs.Grain.{Grain, grain_cmp}
use Rattle.silo_address.specs.declared.ActivationId.{ActivationId}
use Rattle.hash_ring.specs.declared.Hashing.{Hashing}
use Rattle.hash_ring.specs.Hash.{hash_grain}
use Rattle.directory_rules.specs.declared.Held.{Held}
use Rattle.directory_rules.specs.declared.Phase.{Phase}
use Rattle.host_activations.specs.ByHash.{hashes_of, key_of}
use Rattle.host_activations.specs.declared.by_hash.HashedCount.{HashedCount}
use Rattle.host_activations.proofs.Changes.{at, with_parts}

abbrev hashed_count : (hash count : ℕ) → HashedCount
hashed_count hash count = record { hash = hash; count = count }

module _ (hashing : Hashing) (es : List (Grain × Held)) (hashes : List ℕ) (are : hashes ≡ hashes_of hashing es) where
  -- one more, behind the last
  pub begun_hashes : (g : Grain) (h : Held) (new : List (Grain × Held)) → new ≡ es ++ (g, h) ∷ [] → (hash : ℕ) → hash ≡ hash_grain hashing g
      → (after : List ℕ) → after ≡ hashes ++ hash ∷ [] → after ≡ hashes_of hashing new
  begun_hashes g h new new_is hash hash_is after after_is =
      after_is ∙ (λ i. are i ++ hash_is i ∷ [])
      ∙ sym (map-append (hash_grain hashing) (keys_of es) (g ∷ []))
      ∙ ap (map (hash_grain hashing)) (sym (map-append (λ (e : Grain × Held). e.0) es ((g, h) ∷ [])))
      ∙ ap (hashes_of hashing) (sym new_is)

  -- what is written has the same grain
  pub written_hashes : (g : Grain) (phase : Phase) (previous : Option ActivationId) (new : List (Grain × Held))
      → MatchOption (at g es) (new ≡ es) (λ held. new ≡ set_value (is_at (grain_cmp g)) es (with_parts held phase previous))
      → hashes ≡ hashes_of hashing new
  written_hashes g phase previous new written = by (at g es) written
    where
      by : (o : Option Held) → MatchOption o (new ≡ es) (λ held. new ≡ set_value (is_at (grain_cmp g)) es (with_parts held phase previous))
          → hashes ≡ hashes_of hashing new
      by None same = are ∙ ap (hashes_of hashing) (sym same)
      by (Some held) set =
          are ∙ ap (map (hash_grain hashing)) (sym (keys-set_value (is_at (grain_cmp g)) es (with_parts held phase previous)))
          ∙ ap (hashes_of hashing) (sym set)

  -- the hash at an activation's index
  pub its_hash : (p : ℕ) (e : Grain × Held) → slice_get es p ≡ Some e → slice_get hashes p ≡ Some (hash_grain hashing e.0)
  its_hash p e stands =
      ap (λ l. slice_get l p) are ∙ slice_get-map (hash_grain hashing) (keys_of es) p
      ∙ ap (option_map (hash_grain hashing)) (slice_get-map (λ (x : Grain × Held). x.0) es p
      ∙ ap (option_map (λ (x : Grain × Held). x.0)) stands)

  pub has_hash : (p : ℕ) (e : Grain × Held) → slice_get es p ≡ Some e → p < length hashes
  has_hash p e stands = slice_get_within hashes p (hash_grain hashing e.0) (its_hash p e stands)

  pub is_hash : (p : ℕ) (e : Grain × Held) → slice_get es p ≡ Some e → (hash : ℕ) → slice_get hashes p ≡ Some hash
      → hash ≡ hash_grain hashing e.0
  is_hash p e stands hash told = same_Some hash (hash_grain hashing e.0) (sym told ∙ its_hash p e stands)

  -- and its hashed count
  pub its_key : (p : ℕ) (e : Grain × Held) → slice_get es p ≡ Some e → (hash : ℕ) → slice_get hashes p ≡ Some hash
      → hashed_count hash e.1.count ≡ key_of hashing e
  its_key p e stands hash told = ap (λ h. hashed_count h e.1.count) (is_hash p e stands hash told)

  -- one goes, and the last takes its room
  pub ended_hashes : (p : ℕ) (e : Grain × Held) → slice_get es p ≡ Some e → (new : List (Grain × Held)) → new ≡ swap_remove es p e
      → (gone : ℕ) (after : List ℕ) → after ≡ swap_remove hashes p gone → after ≡ hashes_of hashing new
  ended_hashes p e stands new new_is gone after after_is =
      after_is
      ∙ swap_remove-default hashes p gone (hash_grain hashing e.0) (omega (has_hash p e stands, arith))
      ∙ ap (λ l. swap_remove l p (hash_grain hashing e.0)) are
      ∙ sym (map-swap_remove (hash_grain hashing) (keys_of es) p e.0 (subst (λ n. 0 < n) (sym (length-keys_of es)) some))
      ∙ ap (map (hash_grain hashing)) (sym (map-swap_remove (λ (x : Grain × Held). x.0) es p e some))
      ∙ ap (hashes_of hashing) (sym new_is)
    where
      some : 0 < length es
      some = omega (slice_get_within es p e stands, arith)
