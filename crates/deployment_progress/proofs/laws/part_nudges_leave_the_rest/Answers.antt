use Rattle.deployment_progress.proofs.Parts.{grain_nudges_leave_others, range_nudges_change_no_process}
use Rattle.deployment_progress.proofs.laws.part_nudges_leave_the_rest.Goals as goal

pub returns : goal.returns
returns c = record { grains = grain_nudges_leave_others; ranges = range_nudges_change_no_process }
