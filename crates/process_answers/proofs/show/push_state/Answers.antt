use Rattle.std.proofs.Common.{◌≡◌, ◌++◌, subst}
use Rattle.std.specs.Result.{OnOk}
use Rattle.directory_rules.specs.declared.piece_state.PieceState.{PieceState}
use Rattle.script_lines.specs.Spaced.{spaced}
use Rattle.process_rules.specs.Show.{state_words}
use Rattle.process_answers.proofs.show.push_state.Goals as goal

pub returns-in-Recovering-clause-written : goal.returns-in-Recovering-clause-written
returns-in-Recovering-clause-written c =
    subst (λ (state : PieceState). OnOk c.push_word.result
    (c.push_word.new.out.items ≡ c.args.out.now.items ++ spaced (state_words state c.args.piece.now.entries)))
    c.in-Recovering.ensures c.push_word.ensures.written
