use Rattle.std.proofs.Common.{rules}
use Rattle.grain_partition.proofs.kept_pieces.put_back.Goals as goal

pub returns-then-covers : goal.returns-then-covers
returns-then-covers c = search rules
