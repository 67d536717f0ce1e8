use Rattle.std.proofs.Common.{refl}
use Rattle.console_command.specs.declared.exit.Exit.TheVariants.{Answered}
use Rattle.console_command.proofs.Told.{nothing_told}
use Rattle.console_command.proofs.program.answer.Goals as goal

pub returns-then-send-clause-told : goal.returns-then-send-clause-told
returns-then-send-clause-told g c = nothing_told g.E.Sink.writes g.E.Sink.contents Answered c.args.errors.now refl
