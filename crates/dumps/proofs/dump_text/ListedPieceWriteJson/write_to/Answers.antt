use Rattle.std.proofs.Common.{◌++◌, ◌∙◌, ap}
use Rattle.dump_rules.specs.Dump.{DumpPiece, piece_json}
use Rattle.dumps.proofs.Joined.{four_members}
use Rattle.dumps.proofs.dump_text.ListedPieceWriteJson.write_to.Goals as goal

pub returns : goal.returns
returns c =
    four_members _ _ _ _ _ _ _ _ _ _
    (rw c.deref.ensures.value at c.in_ok-push_list_member.ensures)
    c.in_ok-push_from_member.ensures
    c.in_ok-push_range_member.ensures
    (rw c.word_of_state.ensures at c.in_ok-push_text_member.ensures)
    c.in_ok-push.ensures.items
    ∙ ap (λ (piece : DumpPiece). c.args.out.now.items ++ piece_json piece) c.self.view_is
