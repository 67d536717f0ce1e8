use Rattle.std.proofs.Common.{true, refl}
use Rattle.line_loop.specs.Calls.{no_read}
use Rattle.directory_console.proofs.carrying.run_on_threads.Goals as goal

pub returns-in-Err-clause-calls : goal.returns-in-Err-clause-calls
returns-in-Err-clause-calls c = λ failed. ((true, no_read), refl)
