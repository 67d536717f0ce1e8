use Rattle.std.proofs.Common.{◌≡◌, ◌↔◌, [], Option, IsNone, sym, subst}
use Rattle.silo_address.specs.Silo.{Silo}
use Rattle.membership_view.specs.View.{active_silos}
use Rattle.silo_placement.proofs.Chosen.{IsChosenOf, chosen, chosen_is_active}
use Rattle.silo_placement.proofs.placement.silo_for.Goals as goal

pub returns-clause-chosen : goal.returns-clause-chosen
returns-clause-chosen c = c.chosen_by.ensures

pub returns-clause-none : goal.returns-clause-none
returns-clause-none c =
    subst (λ (o : Option Silo). IsNone o ↔ (active_silos c.args.view.now ≡ [])) (sym c.chosen_by.ensures)
    (chosen c.args.policy c.args.view.now c.args.local.now c.args.hash c.args.counts.now.entries).none

pub returns-clause-active : goal.returns-clause-active
returns-clause-active c =
    chosen_is_active c.args.view.now c.in_order.ensures c.chosen_by.result
    (subst (λ (o : Option Silo). IsChosenOf (active_silos c.args.view.now) o) (sym c.chosen_by.ensures)
    (chosen c.args.policy c.args.view.now c.args.local.now c.args.hash c.args.counts.now.entries))
