use Rattle.std.specs.Prelude.{⊤}
use Rattle.process_rules.proofs.LinesSaid.{line_said}
use Rattle.process_rules.proofs.laws.lines_say_no_other_letters.Goals as goal

pub returns : goal.returns
returns c = line_said (λ number. ⊤) (λ range. ⊤)
