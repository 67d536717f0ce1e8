use Rattle.std.proofs.Common.{sym, subst}
use Rattle.directory_rules.specs.Happens.{does}
use Rattle.directory_rules.specs.Input.{Does}
use Rattle.directory_node.specs.Follows.{RefusesBy}
use Rattle.directory_node.specs.Numbers.{step_refusal_number}
use Rattle.directory_core.specs.Applied.{own_excused}
use Rattle.directory_core.proofs.Happenings.{refused_told}
use Rattle.directory_core.proofs.world.World.does.Goals as goal

pub returns-in-Err-clause-told : goal.returns-in-Err-clause-told
returns-in-Err-clause-told c =
    let step = c.args.step.now in
    subst (λ n. RefusesBy (own_excused step) n (does c.args.self.now c.args.silo.now (Does step))) (sym c.refused.ensures.number)
    (refused_told c.args.self.now c.args.silo.now step c.in-Some.node.now (step_refusal_number c.in-Err.refusal) (sym c.in-Some.ensures)
    c.in-Err.ensures.planned)
