-- What is read is what is written.
use Rattle.std.proofs.Common.{◌∙◌}
use Rattle.ring_range.proofs.ReadAgain.{shape_fault, number_fault, range_fault, IfOk-found, only}
use Rattle.ring_range.proofs.range.RingRange.parse.Goals as goal

pub returns-clause-found : goal.returns-clause-found
returns-clause-found c = IfOk-found c.args.text.now c.read.result c.read.ensures

pub returns-clause-only : goal.returns-clause-only
returns-clause-only c = λ range ok spelled. c.read.ensures ∙ only c.args.text.now range ok spelled

pub returns-clause-shape : goal.returns-clause-shape
returns-clause-shape c = rw c.read.ensures (shape_fault c.args.text.now)

pub returns-clause-not_a_number : goal.returns-clause-not_a_number
returns-clause-not_a_number c = rw c.read.ensures (number_fault c.args.text.now)

pub returns-clause-out_of_range : goal.returns-clause-out_of_range
returns-clause-out_of_range c = rw c.read.ensures (range_fault c.args.text.now)
