use Rattle.std.proofs.Common.{◌++◌, ◌∙◌, ap}
use Rattle.dump_rules.specs.Dump as spec
use Rattle.dump_rules.specs.Dump.{DumpValue, dump_text}
use Rattle.dumps.proofs.Joined.{five_members}
use Rattle.dumps.proofs.dump_text.DumpWriteJson.write_to.Goals as goal

pub returns : goal.returns
unfolding spec.dump_text
returns c =
    five_members _ _ _ _ _ _ _ _ _ _ _ _
    c.in_ok-push_number_member.ensures
    (rw c.word_of_hashing.ensures at c.in_ok-push_text_member.ensures)
    (rw c.deref.ensures.value at c.in_ok-push_list_member.ensures)
    c.in_ok-push_number_member-2.ensures
    (rw c.deref-2.ensures.value at c.in_ok-push_list_member-2.ensures)
    c.in_ok-push.ensures.items
    ∙ ap (λ (dump : DumpValue). c.args.out.now.items ++ dump_text dump) c.self.view_is
