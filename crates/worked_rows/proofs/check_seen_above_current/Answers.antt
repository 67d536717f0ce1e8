use Rattle.std.proofs.Common.{refl}
use Rattle.worked_rows.proofs.Opened.{all_opened}
use Rattle.worked_rows.proofs.check_seen_above_current.Goals as goal

pub returns : goal.returns
unfolding all_opened
returns c = record { bytes = refl; answer = refl }
