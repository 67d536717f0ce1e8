use Rattle.std.proofs.Common.{rules}
use Rattle.texts.proofs.position.after_last.Goals as goal

pub loop-position-init : goal.loop-position-init
loop-position-init c = search rules

pub returns : goal.returns
returns c = search rules
