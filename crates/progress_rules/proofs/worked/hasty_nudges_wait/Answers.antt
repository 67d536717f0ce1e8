use Rattle.progress_rules.proofs.Computed.{hasty_nudges_computed, part_nudges_computed}
use Rattle.progress_rules.proofs.worked.hasty_nudges_wait.Goals as goal

pub returns : goal.returns
returns c = record { waits = hasty_nudges_computed; parts = part_nudges_computed }
