-- A table as a crate above sees it: how it hashes, and its entries under their grains, in the order of the grains.
use Rattle.hash_ring.specs.declared.Hashing.{Hashing}
use Rattle.directory_rules.specs.State.{Table}

pub record TableValue : Type 0 where
  pub hashing : Hashing
  pub entries : Table
