-- Two tables that hash in one way have the same entries just where they keep the same.
use Rattle.std.proofs.Common.{◌≡◌, ◌==◌, refl, sym, ap, ◌∙◌, subst, [], ◌∷◌}
use Rattle.std.specs.Prelude.{Bool, true, false, cond, Option, Some, None}
use Rattle.std.specs.Bool.{Decides}
use Rattle.std.specs.BTreeMap.{is_at}
use Rattle.std.specs.List.{AllByRecursion}
use Rattle.std.specs.Map.{keys_of, lookup}
use Rattle.std.specs.Option.{option_map}
use Rattle.std.proofs.lemmas.Bool.Decides.{Decides-eqb}
use Rattle.std.proofs.lemmas.Option.{same_Some}
use Rattle.texts.proofs.Orderings.{Equal-from}
use Rattle.silo_address.specs.Grain.{Grain}
use Rattle.silo_address.specs.declared.ActivationId.{ActivationId}
use Rattle.silo_address.specs.declared.Entry.{Entry}
use Rattle.hash_ring.specs.declared.Hashing.{Hashing}
use Rattle.hash_ring.specs.Hash.{hash_grain}
use Rattle.membership_view.proofs.Found.{same_entries}
use Rattle.directory_rules.specs.Table.{entry_at}
use Rattle.grain_table.specs.declared.hashed_grain.HashedGrain.{HashedGrain}
use Rattle.grain_table.specs.Hashed.{AreHashed, Hashed, IsKeyOf, by_grain, hashed_cmp, key_of}
use Rattle.grain_table.proofs.ByGrain.{entry_of, found_by_grain}
use Rattle.grain_table.proofs.Order.{hashed_cmp_exact, hashed_cmp_total}

module _ (hashing : Hashing) where
  -- under another hash than its own no grain is found
  not_hashed : (key : HashedGrain) → (key.hash ≡ hash_grain hashing key.grain → ⊥) → (es : Hashed)
      → AllByRecursion (IsKeyOf hashing) (keys_of es) → lookup (is_at (hashed_cmp key)) es ≡ None
  not_hashed key other [] keys = refl
  not_hashed key other (e ∷ es) keys = by (is_at (hashed_cmp key) e.0) refl (not_hashed key other es keys.1)
    where
      by : (b : Bool) → is_at (hashed_cmp key) e.0 ≡ b → lookup (is_at (hashed_cmp key)) es ≡ None
          → cond b (Some e.1) (lookup (is_at (hashed_cmp key)) es) ≡ None
      by true at behind =
          let its : key ≡ e.0 = hashed_cmp_exact key e.0 (Equal-from (hashed_cmp key e.0) at) in
          absurd (other (subst (λ (k : HashedGrain). k.hash ≡ hash_grain hashing k.grain) (sym its) keys.0.hash_is))
      by false at behind = behind

  entry_tells : (grain : Grain) (one other : Option ActivationId) → option_map (entry_of grain) one ≡ option_map (entry_of grain) other
      → one ≡ other
  entry_tells grain None None same = refl
  entry_tells grain None (Some b) same = cc
  entry_tells grain (Some a) None same = cc
  entry_tells grain (Some a) (Some b) same = ap (λ (e : Entry). Some e.activation) (same_Some (entry_of grain a) (entry_of grain b) same)

  -- tables that have the same entries keep the same
  pub kept_alike : (es fs : Hashed) → AreHashed hashing es → AreHashed hashing fs → by_grain es ≡ by_grain fs → es ≡ fs
  kept_alike es fs are also same = same_entries hashed_cmp_total hashed_cmp_exact es fs are.in_order also.in_order found
    where
      under : (grain : Grain) → lookup (is_at (hashed_cmp (key_of hashing grain))) es ≡ lookup (is_at (hashed_cmp (key_of hashing grain)))
          fs
      under grain =
          entry_tells grain _ _ (sym (found_by_grain hashing es are.keys grain) ∙ ap (entry_at grain) same
          ∙ found_by_grain hashing fs also.keys grain)

      by : (key : HashedGrain) (b : Bool) → Decides b (key.hash ≡ hash_grain hashing key.grain)
          → lookup (is_at (hashed_cmp key)) es ≡ lookup (is_at (hashed_cmp key)) fs
      by key true decides =
          let its : key_of hashing key.grain ≡ key = λ i. record { hash = sym (decides.0 refl) i; grain = key.grain } in
          subst (λ k. lookup (is_at (hashed_cmp k)) es ≡ lookup (is_at (hashed_cmp k)) fs) its (under key.grain)
      by key false decides =
          let other : key.hash ≡ hash_grain hashing key.grain → ⊥ = λ is. let no : false ≡ true = decides.1 is in cc in
          not_hashed key other es are.keys ∙ sym (not_hashed key other fs also.keys)

      found : (key : HashedGrain) → lookup (is_at (hashed_cmp key)) es ≡ lookup (is_at (hashed_cmp key)) fs
      found key = by key (key.hash == hash_grain hashing key.grain) (Decides-eqb key.hash (hash_grain hashing key.grain))
