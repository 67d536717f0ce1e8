-- What comes of the report that a silo has nothing in a range, where it counts.
use Rattle.std.specs.Prelude.{Bool, true, false, Option, Some, None}
use Rattle.range_recovery.specs.declared.RecoveryProgress.{RecoveryProgress}
use Rattle.range_recovery.specs.declared.RecoveryProgress.TheVariants.{Continues, More, Complete}

-- whether all have told all by it
abbrev pub is_complete : Option RecoveryProgress → Bool
is_complete None = false
is_complete (Some Continues) = false
is_complete (Some More) = false
is_complete (Some Complete) = true
