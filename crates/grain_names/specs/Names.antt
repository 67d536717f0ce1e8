-- Names: the texts of grains, as keys.
use Rattle.std.specs.Prelude.{◌≡◌, ℕ, List, map}
use Rattle.std.specs.List.{AllByRecursion}
use Rattle.silo_address.specs.Grain.{Grain, IsGrain, grain_text}
use Rattle.silo_address.specs.ReadGrain.{grain_at_slash}

-- a grain's text
pub record IsName (text : List ℕ) : Type 0 where
  pub is_grain : IsGrain (grain_at_slash text)
  pub spelled : text ≡ grain_text (grain_at_slash text)

-- the keys of entries have such texts
abbrev pub AreNamed : {K V : Type 0} → (text : K → List ℕ) → List (K × V) → Type 0
AreNamed text es = AllByRecursion (λ e. IsName (text e.0)) es

-- and these are the entries, under the grains
abbrev pub named : {K V : Type 0} → (text : K → List ℕ) → List (K × V) → List (Grain × V)
named text es = map (λ e. (grain_at_slash (text e.0), e.1)) es
