use Rattle.ring_range.proofs.Circle.{Decides-within}
use Rattle.ring_range.proofs.laws.within_is_inclusion.Goals as goal

pub returns : goal.returns
returns c = λ inner i outer o. Decides-within inner outer i o
