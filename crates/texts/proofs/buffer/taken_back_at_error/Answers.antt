use Rattle.std.proofs.Common.{rules}
use Rattle.texts.proofs.buffer.taken_back_at_error.Goals as goal

pub returns-then-is_err-clause-taken_back : goal.returns-then-is_err-clause-taken_back
returns-then-is_err-clause-taken_back c = search (rules)
