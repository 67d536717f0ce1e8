use Rattle.std.proofs.Common.{◌≡◌, Some, sym, subst, ap, ◌∙◌}
use Rattle.directory_rules.specs.State.{Node}
use Rattle.directory_rules.specs.Happens.{node_of}
use Rattle.cluster_board.specs.Board.{BoardValue}
use Rattle.cluster_board.specs.Due.{IsWorkOf}
use Rattle.cluster_board.proofs.Lent.{letter_there, work_of}
use Rattle.cluster_board.proofs.board.Board.lend.Goals as goal

pub letter_at-requires : goal.letter_at-requires
letter_at-requires g c = letter_there c.self.inside.world c.args.silo.now c.in-Some.number c.whole.ensures (sym c.in-Some.ensures)

pub returns-clause-lent : goal.returns-clause-lent
returns-clause-lent g c =
    let world = c.self.inside.world in
    let live : node_of world c.args.silo.now ≡ Some c.in_ok-node.node = sym c.in-Some-shared_node.ensures ∙ ap (λ (n : Node). Some n) (sym c.in_ok-node.ensures) in
    subst (λ (b : BoardValue). IsWorkOf b.world c.args.silo.now
    (record { number = c.in-Some.number; letter = c.in_ok-letter.letter; node = c.in_ok-node.node })) c.self.view_is
    (work_of world c.args.silo.now c.in-Some.number c.in_ok-letter.letter c.in_ok-node.node c.whole.ensures (sym c.in-Some.ensures) live
    c.in_ok-letter.ensures)
