use Rattle.std.proofs.Common.{◌++◌, ◌∙◌, ap}
use Rattle.dump_rules.specs.Dump.{DumpRow, row_json}
use Rattle.dumps.proofs.Joined.{five_members}
use Rattle.dumps.proofs.dump_text.ListedRowWriteJson.write_to.Goals as goal

pub returns : goal.returns
returns c =
    five_members _ _ _ _ _ _ _ _ _ _ _ _
    c.in_ok-push_number_member.ensures
    c.in_ok-push_number_member-2.ensures
    c.in_ok-push_number_member-3.ensures
    (rw c.deref.ensures.value at c.in_ok-push_list_member.ensures)
    c.in_ok-push_silo_member.ensures
    c.in_ok-push.ensures.items
    ∙ ap (λ (row : DumpRow). c.args.out.now.items ++ row_json row) c.self.view_is
