-- What is told of the activations that are firm.
use Rattle.std.specs.Prelude.{◌&&◌, Bool}
use Rattle.silo_address.specs.Grain.{Grain}
use Rattle.ring_range.specs.Range.{Range, holds}
use Rattle.hash_ring.specs.declared.Hashing.{Hashing}
use Rattle.hash_ring.specs.Hash.{hash_grain}
use Rattle.directory_rules.specs.declared.Held.{Held}
use Rattle.directory_rules.specs.Host.{is_firm}

-- whether an activation is told of a range: it is firm and hashed into it
abbrev pub is_told : Hashing → Range → Grain × Held → Bool
is_told hashing range e = is_firm e.1.phase && holds range (hash_grain hashing e.0)
