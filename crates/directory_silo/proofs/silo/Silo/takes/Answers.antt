use Rattle.directory_node.specs.InputModel.{input_of}
use Rattle.directory_node.specs.Plans.{step_by}
use Rattle.directory_silo.specs.SiloModel.{silo_of}
use Rattle.silo_rules.proofs.Whole.{input_kept}
use Rattle.directory_silo.proofs.silo.Silo.takes.Goals as goal

pub take-requires-clause-leaves : goal.take-requires-clause-leaves
take-requires-clause-leaves c =
    input_kept (silo_of c.self.inside) c.args.self.now c.self.view_is (input_of c.args.input.now) (λ node. step_by node c.in-Ok.plan)
    c.self.invariant c.requires c.in-Ok.ensures.planned
