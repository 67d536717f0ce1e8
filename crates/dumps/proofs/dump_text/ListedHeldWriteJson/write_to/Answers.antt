use Rattle.std.proofs.Common.{◌++◌, ◌∙◌, ap}
use Rattle.dump_rules.specs.Dump.{DumpHeld, held_json}
use Rattle.dumps.proofs.Joined.{three_members}
use Rattle.dumps.proofs.dump_text.ListedHeldWriteJson.write_to.Goals as goal

pub returns : goal.returns
returns c =
    three_members _ _ _ _ _ _ _ _
    (rw (c.as_bytes.ensures.value, c.in_ok-activation.ensures) at c.in_ok-push_text_member.ensures)
    (rw c.as_bytes-2.ensures at c.in_ok-push_text_member-2.ensures)
    (rw c.word_of_phase.ensures at c.in_ok-push_text_member-3.ensures)
    c.in_ok-push.ensures.items
    ∙ ap (λ (held : DumpHeld). c.args.out.now.items ++ held_json held) c.self.view_is
