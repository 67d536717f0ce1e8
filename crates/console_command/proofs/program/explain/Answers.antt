use Rattle.std.proofs.Common.{refl, rules}
use Rattle.console_command.proofs.Explained.{asked, mistaken}
use Rattle.console_command.proofs.program.explain.Goals as goal

pub returns-then-is_request-clause-does : goal.returns-then-is_request-clause-does
returns-then-is_request-clause-does g c =
    λ words read rest. c.answer.ensures.does words (asked c.args.error.now (search rules) words read) rest

pub returns-clause-does : goal.returns-clause-does
returns-clause-does g c = λ words read rest.
    let fault = mistaken c.args.error.now (search rules) c.in_default.not-OutOfMemory words read in
    (fault, refl)

pub returns-in-OutOfMemory-clause-does : goal.returns-in-OutOfMemory-clause-does
returns-in-OutOfMemory-clause-does g c = λ words read rest. search rules
