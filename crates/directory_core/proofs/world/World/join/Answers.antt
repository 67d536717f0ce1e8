use Rattle.std.proofs.Common.{refl, sym, ◌∙◌, ap, subst}
use Rattle.std.specs.Prelude.{IsOk}
use Rattle.directory_rules.specs.Happens.{decides}
use Rattle.directory_rules.specs.Membership.{Join, changed}
use Rattle.directory_rules.specs.State.{World}
use Rattle.directory_rules.specs.World.{membership_of}
use Rattle.directory_rules.specs.declared.outcome.Happening.TheVariants.{Joined}
use Rattle.directory_node.specs.Follows.{RefusesBy}
use Rattle.directory_node.specs.MembershipModel.{change_refusal_number}
use Rattle.directory_core.specs.WorldModel.{world_of}
use Rattle.directory_core.proofs.Happenings.{change_may, leaves_made, made_refused, made_told}
use Rattle.directory_core.proofs.Kept.{refused_so}
use Rattle.directory_core.proofs.world.World.join.Goals as goal

pub returns-in-Err-clause-told : goal.returns-in-Err-clause-told
returns-in-Err-clause-told c =
    let change = Join c.args.silo c.args.given.now in
    subst (λ n. RefusesBy IsOk n (decides c.args.self.now change)) (sym c.of_change.ensures.number)
    (made_refused c.args.self.now change refl IsOk (change_refusal_number c.in-Err.refusal)
    (refused_so (world_of c.self.inside) c.args.self.now c.self.view_is change (change_refusal_number c.in-Err.refusal)
    c.in-Err.ensures.refused))

pub admit-requires-clause-leaves : goal.admit-requires-clause-leaves
admit-requires-clause-leaves c = leaves_made c.args.self.now (Join c.args.silo c.args.given.now) refl c.requires.leaves

pub returns-in-Ok-admit-clause-told : goal.returns-in-Ok-admit-clause-told
returns-in-Ok-admit-clause-told c =
    made_told c.args.self.now (Join c.args.silo c.args.given.now) refl c.admit.new.self
    (Joined c.current.result c.args.silo c.in-Ok-admit.replaced) c.in-Ok-admit.ensures.made
    (ap (λ v. Joined v c.args.silo c.in-Ok-admit.replaced) c.current.ensures
    ∙ ap (λ o. Joined c.admit.new.self.views.version c.args.silo o) c.in-Ok-admit.ensures.replaced)

pub returns-in-Err-admit-clause-told : goal.returns-in-Err-admit-clause-told
returns-in-Err-admit-clause-told c =
    change_may c.args.self.now (Join c.args.silo c.args.given.now) refl
    (subst (λ (w : World). IsOk (changed w.settings (membership_of w) (Join c.args.silo c.args.given.now))) c.self.view_is
    c.in-Ok.ensures.may)
