use Rattle.dump_rules.proofs.Shapes.{judged_no_dump, judged_dump, dump_verdict, dump_right}
use Rattle.dump_rules.proofs.laws.shapes_come_first.Goals as goal

pub returns : goal.returns
returns c = record { no_dump = judged_no_dump; dump = judged_dump; verdict = dump_verdict; right = dump_right }
