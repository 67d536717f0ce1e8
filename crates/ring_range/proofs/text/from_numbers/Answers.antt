use Rattle.std.proofs.Common.{rules}
use Rattle.ring_range.proofs.text.from_numbers.Goals as goal

pub returns-in-Err : goal.returns-in-Err
returns-in-Err c = search rules
