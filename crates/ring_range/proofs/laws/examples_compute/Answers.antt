-- What stands behind an `unfoldable` word computes where that word is opened.
use Rattle.std.proofs.Common.{refl}
use Rattle.std.specs.Fmt.{digits}
use Rattle.ring_range.specs.Meet.{meet_of}
use Rattle.ring_range.specs.Cut.{cut_parts}
use Rattle.ring_range.specs.Text.{read_range}
use Rattle.ring_range.proofs.laws.examples_compute.Goals as goal

pub returns-clause-meet_of : goal.returns-clause-meet_of
unfolding meet_of
returns-clause-meet_of c = refl

pub returns-clause-cut_parts : goal.returns-clause-cut_parts
unfolding cut_parts
returns-clause-cut_parts c = refl

pub returns-clause-range_text : goal.returns-clause-range_text
unfolding digits
returns-clause-range_text c = refl

pub returns-clause-read_range : goal.returns-clause-read_range
unfolding read_range
returns-clause-read_range c = refl

pub returns-clause-shape : goal.returns-clause-shape
unfolding read_range
returns-clause-shape c = refl

pub returns-clause-not_a_number : goal.returns-clause-not_a_number
unfolding read_range
returns-clause-not_a_number c = refl

pub returns-clause-out_of_range : goal.returns-clause-out_of_range
unfolding read_range
returns-clause-out_of_range c = refl
