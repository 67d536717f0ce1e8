use Rattle.std.proofs.Common.{rules}
use Rattle.texts.proofs.number.is_numeral.Goals as goal

pub returns : goal.returns
returns c = search rules
