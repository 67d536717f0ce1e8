use Rattle.std.proofs.Common.{arith}
use Rattle.dump_rules.specs.DumpIn.{dump_in}
use Rattle.dumps.proofs.Along.{straight_told}
use Rattle.dumps.proofs.straight.read_straight.Goals as goal

pub returns-clause-read : goal.returns-clause-read
returns-clause-read c =
    straight_told dump_in 7 c.args.text.now _ _ _ (omega arith) c.new-reader.ensures c.if-not-is_over.ensures c.in_ok-dump.ensures.told
