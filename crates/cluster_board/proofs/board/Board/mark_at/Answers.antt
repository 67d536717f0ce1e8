use Rattle.std.proofs.Common.{subst, Some, ◌≡◌}
use Rattle.std.specs.Prelude.{IfSome}
use Rattle.directory_rules.specs.Happens.{node_of}
use Rattle.cluster_board.specs.Board.{BoardValue}
use Rattle.cluster_board.proofs.MarksKept.{found_mark}
use Rattle.cluster_board.proofs.board.Board.mark_at.Goals as goal

pub returns : goal.returns
returns g c =
    subst (λ (b : BoardValue). IfSome c.get.result (λ mark. node_of b.world c.args.silo.now ≡ Some mark.now)) c.self.view_is
    (found_mark c.self.inside.world c.self.inside.marked.entries c.args.silo.now c.get.result c.self.invariant.marked c.get.ensures.value)
