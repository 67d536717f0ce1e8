use Rattle.std.proofs.Common.{◌≡◌, ◌++◌, map}
use Rattle.dump_rules.specs.Dump.{dump_piece}
use Rattle.directory_node.proofs.pieces.pieces.Given as goal

abbrev pub invariant-loop-piece : goal.invariant-loop-piece
invariant-loop-piece l = l.pieces.items ++ map (λ e. dump_piece e.1) l.piece-iterator ≡ map (λ e. dump_piece e.1) l.holding.pieces
