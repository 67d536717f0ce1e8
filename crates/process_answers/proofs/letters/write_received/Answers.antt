use Rattle.std.proofs.Common.{rules}
use Rattle.process_answers.specs.Telling.{received_telling}
use Rattle.process_answers.proofs.Tellings.{received_has_words}
use Rattle.process_answers.proofs.Written.{ended_begins}
use Rattle.process_answers.proofs.letters.write_received.Goals as goal

pub returns-clause-kept : goal.returns-clause-kept
returns-clause-kept c =
    ended_begins c.push_received-written.result c.end_line.result c.len-start.result c.args.out.now.items
    c.push_received-written.new.out.items c.end_line.new.out.items
    (received_telling c.args.telling.now c.args.silo.now c.args.kind c.args.effect.now)
    (received_has_words c.args.telling.now c.args.silo.now c.args.kind c.args.effect.now)
    (search rules) c.push_received-written.ensures.kept c.end_line.ensures.passed_on c.push_received-written.ensures.written
    c.end_line.ensures.ended c.end_line.ensures.taken_back
