use Rattle.std.proofs.Common.{[], ◌∷◌, codes, arith, rules}
use Rattle.std.specs.Fmt.{decimal}
use Rattle.process_answers.proofs.Written.{ended_begins}
use Rattle.process_answers.proofs.begins.write_begun.Goals as goal

pub returns-clause-kept : goal.returns-clause-kept
returns-clause-kept c =
    ended_begins c.push_begun-written.result c.end_line.result c.len-start.result c.args.out.now.items c.push_begun-written.new.out.items
    c.end_line.new.out.items (codes "view" ∷ decimal c.args.version ∷ codes "begins" ∷ []) (omega arith)
    (search rules) c.push_begun-written.ensures.kept c.end_line.ensures.passed_on c.push_begun-written.ensures.written
    c.end_line.ensures.ended c.end_line.ensures.taken_back
