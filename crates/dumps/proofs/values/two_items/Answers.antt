use Rattle.dumps.proofs.Counted.{not_two}
use Rattle.dumps.proofs.values.two_items.Goals as goal

pub returns-then-parts-ne2-clause-read : goal.returns-then-parts-ne2-clause-read
returns-then-parts-ne2-clause-read c = not_two c.in_ok-parts.parts.now _ c.in_ok-parts.ensures.read c.if-parts-ne2.true
