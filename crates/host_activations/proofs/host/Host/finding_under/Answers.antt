use Rattle.std.proofs.Common.{ap, sym, ◌∙◌}
use Rattle.std.specs.BTreeMap.{is_at}
use Rattle.std.specs.Map.{lookup}
use Rattle.std.specs.Ordering.{nat_cmp}
use Rattle.directory_rules.specs.State.{Host}
use Rattle.host_activations.proofs.Finds.{find_under}
use Rattle.host_activations.proofs.host.Host.finding_under.Goals as goal

pub returns : goal.returns
returns c =
    c.find_under.ensures
    ∙ sym (find_under c.self.inside.outstanding.entries c.self.invariant.are_held.in_order c.args.number)
    ∙ ap (λ (h : Host). lookup (is_at (nat_cmp c.args.number)) h.finds) c.self.view_is
