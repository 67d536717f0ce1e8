use Rattle.std.proofs.Common.{◌≡◌, ◌∷◌, [], ◌++◌, IfOk, subst}
use Rattle.cluster_board.specs.Board.{BoardValue}
use Rattle.cluster_board.proofs.board.Board.commit.Goals as goal

-- to have seen the journal changes nothing of the board
pub returns-clause-journaled : goal.returns-clause-journaled
returns-clause-journaled g c =
    let after = c.carry_out.new.self in
    subst (λ (b : BoardValue). IfOk c.carry_out.result
    (λ receipt. after ≡ record b { world = after.world; journal = b.journal ++ receipt.entry ∷ [] })) c.renew.ensures.unchanged
    c.carry_out.ensures.journaled
