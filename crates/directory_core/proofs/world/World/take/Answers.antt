use Rattle.std.proofs.Common.{◌≡◌, true, List, sym, ◌∙◌, ap, arith}
use Rattle.directory_rules.specs.State.{Letter}
use Rattle.directory_rules.specs.Mail.{has_room_for}
use Rattle.directory_node.specs.Plans.{step_by}
use Rattle.directory_core.proofs.Happenings.{leaves_taken}
use Rattle.directory_core.proofs.world.World.take.Goals as goal

pub carry_out-requires-clause-leaves : goal.carry_out-requires-clause-leaves
carry_out-requires-clause-leaves c = λ node there.
    let room : has_room_for c.args.self.now c.deref.result.now ≡ true = grind arith in
    leaves_taken c.args.self.now c.args.silo.now c.args.happening (step_by node c.args.plan)
    (ap (λ (x : List Letter). has_room_for c.args.self.now x) (sym c.deref.ensures.value) ∙ room) (c.requires.leaves node there)
