use Rattle.std.proofs.Common.{Err, ap}
use Rattle.rebuild_checker.proofs.ReadDumps.{no_object}
use Rattle.rebuild_checker.proofs.read.read_text.Goals as goal

pub returns-in-Err-OutOfMemory-clause-empty : goal.returns-in-Err-OutOfMemory-clause-empty
returns-in-Err-OutOfMemory-clause-empty c =
    λ empty out. no_object c.args.text.now empty (c.in-Err-OutOfMemory.ensures.memory (ap (λ e. Err e) c.in-Err-OutOfMemory.field-0-is))
