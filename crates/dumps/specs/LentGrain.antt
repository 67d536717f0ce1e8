-- The grain that a text spells: its kind stands at the front, and behind it a slash and its key.
use Rattle.std.specs.Prelude.{◌≡◌, ℕ, ◌+◌, List, take, drop}
use Rattle.silo_address.specs.Grain.{Grain, IsGrain, grain_text}

abbrev pub spelled : ℕ → List ℕ → Grain
spelled kind_len name = record { kind = take kind_len name; key = drop (kind_len + 1) name }

-- a name is the text of a grain
pub record Spells (grain : Grain) (name : List ℕ) : Type 0 where
  pub is_grain : IsGrain grain
  pub text : name ≡ grain_text grain
