use Rattle.std.proofs.Common.{rules}
use Rattle.grain_partition.proofs.piece.Piece.covers.Goals as goal

pub returns-then-is_settled : goal.returns-then-is_settled
returns-then-is_settled c = search rules
