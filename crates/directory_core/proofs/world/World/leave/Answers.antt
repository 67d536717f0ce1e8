use Rattle.std.proofs.Common.{sym, ◌∙◌, ap, subst}
use Rattle.directory_rules.specs.Happens.{decides}
use Rattle.directory_rules.specs.Membership.{Leave}
use Rattle.directory_rules.specs.declared.outcome.Happening.TheVariants.{Left}
use Rattle.directory_node.specs.Follows.{RefusesBy}
use Rattle.directory_node.specs.MembershipModel.{change_refusal_number}
use Rattle.directory_core.specs.Applied.{IsNever}
use Rattle.directory_core.proofs.Happenings.{dead_refused, leaves_made, made_refused, made_told}
use Rattle.directory_core.proofs.world.World.leave.Goals as goal

pub returns-then-is_dead-clause-told : goal.returns-then-is_dead-clause-told
returns-then-is_dead-clause-told c = dead_refused c.args.self.now (Leave c.args.silo.now) (sym c.is_dead.ensures ∙ c.if-is_dead.true)

pub begin_to_leave-requires-clause-leaves : goal.begin_to_leave-requires-clause-leaves
begin_to_leave-requires-clause-leaves c =
    leaves_made c.args.self.now (Leave c.args.silo.now) (sym c.is_dead.ensures ∙ c.if-is_dead.false) c.requires.leaves

pub returns-in-Ok-clause-told : goal.returns-in-Ok-clause-told
returns-in-Ok-clause-told c =
    made_told c.args.self.now (Leave c.args.silo.now) (sym c.is_dead.ensures ∙ c.if-is_dead.false) c.begin_to_leave.new.self
    (Left c.current.result c.args.silo.now) c.in-Ok.ensures.made
    (ap (λ v. Left v c.args.silo.now) c.current.ensures)

pub returns-in-Err-clause-told : goal.returns-in-Err-clause-told
returns-in-Err-clause-told c =
    subst (λ n. RefusesBy IsNever n (decides c.args.self.now (Leave c.args.silo.now))) (sym c.of_change.ensures.number)
    (made_refused c.args.self.now (Leave c.args.silo.now) (sym c.is_dead.ensures ∙ c.if-is_dead.false) IsNever
    (change_refusal_number c.in-Err.refusal) c.in-Err.ensures.made)
