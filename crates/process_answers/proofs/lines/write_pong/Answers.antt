use Rattle.std.proofs.Common.{[], ◌∷◌, codes, arith, rules}
use Rattle.process_answers.proofs.Written.{ended_begins}
use Rattle.process_answers.proofs.lines.write_pong.Goals as goal

pub returns-clause-kept : goal.returns-clause-kept
returns-clause-kept c =
    ended_begins c.push_pong-written.result c.end_line.result c.len-start.result c.args.out.now.items c.push_pong-written.new.out.items
    c.end_line.new.out.items (codes "pong" ∷ c.args.word.now ∷ []) (omega arith)
    (search rules) c.push_pong-written.ensures.kept c.end_line.ensures.passed_on c.push_pong-written.ensures.written
    c.end_line.ensures.ended c.end_line.ensures.taken_back
