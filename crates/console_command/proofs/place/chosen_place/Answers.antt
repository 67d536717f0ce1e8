use Rattle.std.proofs.Common.{ap, ◌∙◌, rules}
use Rattle.directory_rules.specs.State.{Host}
use Rattle.console_command.proofs.Counted.{place_chosen}
use Rattle.console_command.proofs.place.chosen_place.Goals as goal

pub returns : goal.returns
returns c =
    place_chosen c.args.world.now c.args.policy c.args.node.now c.args.grain.now c.view.result.now c.view-2.result.now c.silo.result
    c.hash_grain-hash.result c.in_ok-counts.counts.entries c.silo_for.result
    c.view.ensures c.in_ok-counts.ensures c.view-2.ensures (c.silo.ensures ∙ ap (λ (h : Host). h.silo) c.host.ensures) (search rules)
    c.silo_for.ensures.chosen
