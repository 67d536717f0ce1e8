use Rattle.ring_range.proofs.Cuts.{is_cut, ranges}
use Rattle.ring_range.proofs.laws.cut_parts_is_a_cut.Goals as goal

pub returns-clause-cut : goal.returns-clause-cut
returns-clause-cut c = λ range ok places below. is_cut range places ok below

pub returns-clause-ranges : goal.returns-clause-ranges
returns-clause-ranges c = λ range ok places. ranges range places ok
