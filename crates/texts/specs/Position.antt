-- Positions of a byte in a text.
use Rattle.std.specs.Prelude.{◌≡◌, ◌≢◌, ℕ, ◌<◌, ◌≤◌, ◌-◌, List, All, drop, length, slice_index}

-- the position just after the last such byte
pub record IsBehindLast (wanted : ℕ) (bytes : List ℕ) (position : ℕ) : Type 0 where
  pub above : 0 < position
  pub within : position ≤ length bytes
  pub last : slice_index bytes (position - 1) ≡ wanted
  pub others : All (λ byte. byte ≢ wanted) (drop position bytes)
