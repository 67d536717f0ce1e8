use Rattle.std.proofs.Common.{sym, ap, ◌∙◌, length}
use Rattle.std.specs.Prelude.{filter, not}
use Rattle.std.proofs.lemmas.List.{length-map}
use Rattle.directory_rules.specs.Members.{is_dead_status}
use Rattle.node_plans.proofs.members.member_count.Goals as goal

pub returns : goal.returns
returns c =
    c.living_count.ensures
    ∙ ap (λ rows. length (filter (λ row. not (is_dead_status row.1)) rows)) c.rows.ensures
    ∙ sym (length-map (filter (λ row. not (is_dead_status row.1)) c.args.view.now.rows) (λ row. row.0))
