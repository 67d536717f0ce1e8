-- What the activations of a host keep.
use Rattle.std.specs.Prelude.{◌≡◌, ℕ, ◌+◌, ◌^◌, ◌<◌, ◌≤◌, List, Some}
use Rattle.std.specs.List.{IsDistinct}
use Rattle.std.specs.Map.{keys_of, lookup}
use Rattle.std.specs.BTreeMap.{is_at}
use Rattle.silo_address.specs.Grain.{Grain, grain_cmp, grain_eq}
use Rattle.directory_rules.specs.declared.Held.{Held}

-- a count that may be the next one
pub record IsNext (count : ℕ) : Type 0 where
  pub above : 1 ≤ count
  pub within : count ≤ 2 ^ 60 + 1

-- each grain has one activation, and each count was taken by one
pub record AreApart (es : List (Grain × Held)) : Type 0 where
  pub grains : IsDistinct grain_eq (keys_of es)
  pub counts : (g q : Grain) (h k : Held) → lookup (is_at (grain_cmp g)) es ≡ Some h → lookup (is_at (grain_cmp q)) es ≡ Some k → h.count ≡ k.count → g ≡ q

-- and all counts lie below the next one
pub record AreBegun (next_count : ℕ) (es : List (Grain × Held)) : Type 0 where
  pub next : IsNext next_count
  pub apart : AreApart es
  pub below : (grain : Grain) (held : Held) → lookup (is_at (grain_cmp grain)) es ≡ Some held → held.count < next_count
