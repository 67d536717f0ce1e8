-- Maps have equal values under each name where they have equal values under each grain.
use Rattle.std.proofs.Common.{◌≡◌, refl, sym, subst, ◌∙◌, ◌⊎◌, inl, inr, ℕ, List, [], ◌∷◌, cond, Bool, true, false, Option, Some, None}
use Rattle.std.specs.Bool.{Decides}
use Rattle.std.specs.Cmp.{IsEquivalence}
use Rattle.std.specs.HashMap.Eq.{get_from_hash_map_eq, hash_map_eq_from_get}
use Rattle.std.specs.Map.{lookup}
use Rattle.std.specs.Option.{option_eq}
use Rattle.std.specs.Prelude.{IsTrue}
use Rattle.std.specs.Str.{bytes_eq}
use Rattle.std.proofs.lemmas.Cmp.{nat_list_eq_equiv, on_equiv}
use Rattle.std.proofs.lemmas.Slice.Eq.{bytes_eq-Decides}
use Rattle.indexmap.specs.IndexMap.{IndexMap, index_map_eq}
use Rattle.silo_address.specs.Grain.{Grain, grain_eq}
use Rattle.silo_address.specs.ReadGrain.{grain_at_slash}
use Rattle.silo_address.proofs.Same.{Decides-grain}
use Rattle.grain_names.specs.Names.{AreNamed, IsName, named}
use Rattle.grain_names.proofs.Named.{lookup_named}

-- a grain's name is the text of a key
abbrev HasKey : {K : Type 0} → (K → List ℕ) → Grain → Type 0
HasKey {K} text grain = (k : K) × IsName (text k) × (grain_at_slash (text k) ≡ grain)

by_text : {K : Type 0} (text : K → List ℕ) → IsEquivalence (λ x y. bytes_eq (text x) (text y))
by_text text = on_equiv text nat_list_eq_equiv

module _ {K V : Type 0} (text : K → List ℕ) where
  -- what is found under a key
  abbrev under_key : K → List (K × V) → Option V
  under_key k es = lookup (λ x. bytes_eq (text k) (text x)) es

  -- and under a grain
  abbrev under_grain : Grain → List (K × V) → Option V
  under_grain grain es = lookup (grain_eq grain) (named text es)

  at_key : (k : K) → IsName (text k) → (es : List (K × V)) → AreNamed text es → under_key k es ≡ under_grain (grain_at_slash (text k)) es
  at_key k name es names = lookup_named text (grain_at_slash (text k)) name.is_grain (text k) name.spelled es names

  -- a grain that is found has a key
  key_of : (grain : Grain) (es : List (K × V)) → AreNamed text es → (under_grain grain es ≡ None) ⊎ HasKey text grain
  key_of grain [] names = inl refl
  key_of grain (e ∷ es) names = by (grain_eq grain (grain_at_slash (text e.0))) refl (key_of grain es names.1)
    where
      by : (b : Bool) → grain_eq grain (grain_at_slash (text e.0)) ≡ b → (under_grain grain es ≡ None) ⊎ HasKey text grain
          → (cond b (Some e.1) (under_grain grain es) ≡ None) ⊎ HasKey text grain
      by true same later = inr (e.0, names.0, sym ((Decides-grain grain (grain_at_slash (text e.0))).0 same))
      by false other later = later

  -- a key that is found has a name for its text
  name_of : (k : K) (es : List (K × V)) → AreNamed text es → (under_key k es ≡ None) ⊎ IsName (text k)
  name_of k [] names = inl refl
  name_of k (e ∷ es) names = by (bytes_eq (text k) (text e.0)) refl (name_of k es names.1)
    where
      by : (b : Bool) → bytes_eq (text k) (text e.0) ≡ b → (under_key k es ≡ None) ⊎ IsName (text k)
          → (cond b (Some e.1) (under_key k es) ≡ None) ⊎ IsName (text k)
      by true same later = inr (subst IsName (sym ((bytes_eq-Decides (text k) (text e.0)).0 same)) names.0)
      by false other later = later

  module _ (E : V → V → Bool) (es fs : List (K × V)) (names : AreNamed text es) (also : AreNamed text fs) where
    abbrev AgreeAt : Grain → Type 0
    AgreeAt grain = option_eq E (under_grain grain es) (under_grain grain fs) ≡ true

    by_grains : ((k : K) → option_eq E (under_key k es) (under_key k fs) ≡ true) → (grain : Grain) → AgreeAt grain
    by_grains agree grain = by (key_of grain es names) (key_of grain fs also)
      where
        at : HasKey text grain → AgreeAt grain
        at key =
            subst AgreeAt key.2 ((λ i. option_eq E (sym (at_key key.0 key.1 es names) i) (sym (at_key key.0 key.1 fs also) i))
            ∙ agree key.0)

        by : (under_grain grain es ≡ None) ⊎ HasKey text grain → (under_grain grain fs ≡ None) ⊎ HasKey text grain → AgreeAt grain
        by (inr key) there = at key
        by (inl none) (inr key) = at key
        by (inl none) (inl nor) = λ i. option_eq E (none i) (nor i)

    by_keys : ((grain : Grain) → AgreeAt grain) → (k : K) → option_eq E (under_key k es) (under_key k fs) ≡ true
    by_keys agree k = by (name_of k es names) (name_of k fs also)
      where
        at : IsName (text k) → option_eq E (under_key k es) (under_key k fs) ≡ true
        at name = (λ i. option_eq E (at_key k name es names i) (at_key k name fs also i)) ∙ agree (grain_at_slash (text k))

        by : (under_key k es ≡ None) ⊎ IsName (text k) → (under_key k fs ≡ None) ⊎ IsName (text k)
            → option_eq E (under_key k es) (under_key k fs) ≡ true
        by (inr name) there = at name
        by (inl none) (inr name) = at name
        by (inl none) (inl nor) = λ i. option_eq E (none i) (nor i)

  pub equal_named : {S : Type 0} (E : V → V → Bool) (m n : IndexMap K V S) → AreNamed text m.entries → AreNamed text n.entries
      → (one other : List (Grain × V)) → named text m.entries ≡ one → named text n.entries ≡ other
      → (r : Bool) → r ≡ index_map_eq (λ x y. bytes_eq (text x) (text y)) E m n
      → Decides r ((grain : Grain) → IsTrue (option_eq E (lookup (grain_eq grain) one) (lookup (grain_eq grain) other)))
  equal_named E m n names also one other is_one is_other r equal = (
    λ yes grain.
        (λ i. option_eq E (lookup (grain_eq grain) (sym is_one i)) (lookup (grain_eq grain) (sym is_other i)))
        ∙ by_grains E m.entries n.entries names also (λ k. get_from_hash_map_eq (λ x y. bytes_eq (text x) (text y)) E (by_text text) m n
        (sym equal ∙ yes) k) grain,
    λ agree. equal
        ∙ hash_map_eq_from_get (λ x y. bytes_eq (text x) (text y)) E m n
        (by_keys E m.entries n.entries names also (λ grain.
        (λ i. option_eq E (lookup (grain_eq grain) (is_one i)) (lookup (grain_eq grain) (is_other i))) ∙ agree grain)),
  )
