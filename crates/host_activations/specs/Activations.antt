-- The activations of a host as a crate above sees them.
use Rattle.std.specs.Prelude.{ℕ, List}
use Rattle.silo_address.specs.Grain.{Grain}
use Rattle.directory_rules.specs.declared.Held.{Held}

pub record ActivationsValue : Type 0 where
  -- the count of the next activation
  pub next_count : ℕ
  -- the activations, under their grains, in the order in which they began
  pub entries : List (Grain × Held)
