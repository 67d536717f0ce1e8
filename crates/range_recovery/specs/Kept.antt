-- What every recovery keeps.
use Rattle.std.specs.Prelude.{Contains}
use Rattle.std.specs.List.Sorted.{IsStrictlySortedBy}
use Rattle.std.specs.Map.{keys_of}
use Rattle.silo_address.specs.Silo.{Silo, silo_cmp}
use Rattle.silo_address.specs.Grain.{grain_cmp}
use Rattle.directory_rules.specs.State.{Recovery}

-- the silos stand by address, each once, either awaited still or having reported, and so do those that have told of a grain; the table by
-- grain, each once
pub record IsRecovery (recovery : Recovery) : Type 0 where
  pub awaiting_in_order : IsStrictlySortedBy silo_cmp recovery.awaiting
  pub reported_in_order : IsStrictlySortedBy silo_cmp recovery.reported
  pub apart : (silo : Silo) → Contains recovery.awaiting silo → ¬ (Contains recovery.reported silo)
  pub told_in_order : IsStrictlySortedBy silo_cmp (keys_of recovery.told)
  pub gathered_in_order : IsStrictlySortedBy grain_cmp (keys_of recovery.gathered)
