use Rattle.std.proofs.Common.{rules}
use Rattle.directory_rules.proofs.reply.Why.number.Goals as goal

pub returns-in-Unsettled : goal.returns-in-Unsettled
returns-in-Unsettled c = search rules
