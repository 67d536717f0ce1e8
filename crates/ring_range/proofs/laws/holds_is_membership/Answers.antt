use Rattle.ring_range.proofs.Circle.{Decides-holds}
use Rattle.ring_range.proofs.laws.holds_is_membership.Goals as goal

pub returns : goal.returns
returns c = λ range ok hash h. Decides-holds range hash ok h
