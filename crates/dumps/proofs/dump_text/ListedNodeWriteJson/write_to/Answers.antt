use Rattle.std.proofs.Common.{◌++◌, ◌∙◌, ap}
use Rattle.dump_rules.specs.Dump.{DumpNode, node_json}
use Rattle.dumps.proofs.Joined.{five_members}
use Rattle.dumps.proofs.dump_text.ListedNodeWriteJson.write_to.Goals as goal

pub returns : goal.returns
returns c =
    five_members _ _ _ _ _ _ _ _ _ _ _ _
    (rw c.deref.ensures.value at c.in_ok-push_list_member.ensures)
    (rw c.deref-2.ensures.value at c.in_ok-push_list_member-2.ensures)
    (rw c.deref-3.ensures.value at c.in_ok-push_list_member-3.ensures)
    c.in_ok-push_number_member.ensures
    c.in_ok-push_silo_member.ensures
    c.in_ok-push.ensures.items
    ∙ ap (λ (node : DumpNode). c.args.out.now.items ++ node_json node) c.self.view_is
