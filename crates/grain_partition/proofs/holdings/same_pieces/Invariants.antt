use Rattle.std.proofs.Common.{◌≡◌, ◌↔◌, length}
use Rattle.grain_partition.proofs.holdings.same_pieces.Given as goal

-- the maps are equal exactly where what is left of each is
abbrev pub invariant-rest : goal.invariant-rest
invariant-rest l = (l.one.entries ≡ l.other.entries) ↔ (l.rest ≡ l.its)

abbrev pub decreases-rest : goal.decreases-rest
decreases-rest l = length l.rest
