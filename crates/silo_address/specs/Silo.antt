-- A silo: one server process. It is told by the endpoint where it listens, and by its generation from the processes
-- that ran there before it.
use Rattle.std.specs.Prelude.{◌≡◌, ℕ, ◌<◌, ◌==◌, ◌&&◌, List, length, slice_index, Bool}
use Rattle.std.specs.Ordering.{nat_cmp, on, then_cmp}
use Rattle.std.specs.Cmp.Lexicographic.{slice_cmp, pointwise}
use Rattle.std.specs.declared.cmp.Ordering.{Ordering}

pub record Silo : Type 0 where
  pub ip : List ℕ
  pub port : ℕ
  pub generation : ℕ

-- what every silo keeps: four bytes, a port from 1 to 65535, a generation from 1 to 2147483647
pub record IsSilo (silo : Silo) : Type 0 where
  pub four_bytes : length silo.ip ≡ 4
  pub bytes : (k : ℕ) → slice_index silo.ip k < 256
  pub port_above : 0 < silo.port
  pub port_below : silo.port < 65536
  pub generation_above : 0 < silo.generation
  pub generation_below : silo.generation < 2147483648

-- two silos at one endpoint, of one generation or two
abbrev pub IsSameEndpoint : Silo → Silo → Type 0
IsSameEndpoint a b = (a.ip ≡ b.ip) × (a.port ≡ b.port)

-- silos by ip, then port, then generation
abbrev pub silo_cmp : Silo → Silo → Ordering
silo_cmp = then_cmp (on (λ s. s.ip) (slice_cmp nat_cmp)) (then_cmp (on (λ s. s.port) nat_cmp) (on (λ s. s.generation) nat_cmp))

abbrev pub silo_eq : Silo → Silo → Bool
silo_eq a b = pointwise ◌==◌ a.ip b.ip && ((a.port == b.port) && (a.generation == b.generation))
