use Rattle.std.proofs.Common.{rules}
use Rattle.texts.specs.Words.{words_in}
use Rattle.directory_rules.specs.State.{Survey_letter}
use Rattle.process_rules.specs.ReadLetter.{some_ranges}
use Rattle.process_lines.specs.ReadAs.{head_of, told}
use Rattle.process_lines.proofs.Onto.{handed_on}
use Rattle.process_lines.proofs.ranges.a_survey.Goals as goal

pub returns-in_err-head-clause-reads : goal.returns-in_err-head-clause-reads
returns-in_err-head-clause-reads c =
    handed_on (λ letter. letter) c.from_residual.result c.in_err-head.field-0.0
    (some_ranges Survey_letter (told head_of c.args.head) (words_in c.args.words.now)) c.from_residual.ensures.1
    (c.in_err-head.ensures.reads Survey_letter)

pub returns-in_err-head-clause-memory : goal.returns-in_err-head-clause-memory
returns-in_err-head-clause-memory c memory =
    c.in_err-head.ensures.memory Survey_letter (λ ranges some. some) (search rules)
