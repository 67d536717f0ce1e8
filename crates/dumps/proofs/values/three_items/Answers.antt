use Rattle.dumps.proofs.Counted.{not_three}
use Rattle.dumps.proofs.values.three_items.Goals as goal

pub returns-then-parts-ne3-clause-read : goal.returns-then-parts-ne3-clause-read
returns-then-parts-ne3-clause-read c = not_three c.in_ok-parts.parts.now _ c.in_ok-parts.ensures.read c.if-parts-ne3.true
