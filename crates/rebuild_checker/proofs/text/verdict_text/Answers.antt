use Rattle.std.specs.Prelude.{string_bytes}
use Rattle.rebuild_checker.proofs.AnswerLines.{line_written}
use Rattle.rebuild_checker.proofs.text.verdict_text.Goals as goal

pub returns-in-Some : goal.returns-in-Some
returns-in-Some c =
    line_written string_bytes c.format-in-Some.result c.args.answer.now _ c.number.result _ c.in-Err.is c.number.ensures c.in-Some.is
    c.format-in-Some.ensures.ok
