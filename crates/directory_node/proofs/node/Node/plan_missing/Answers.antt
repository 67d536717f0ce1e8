use Rattle.std.proofs.Common.{◌≡◌, true, sym, ap, ◌∙◌}
use Rattle.directory_rules.specs.declared.Effect.TheVariants.{Recovering}
use Rattle.directory_rules.specs.State.{Node}
use Rattle.directory_rules.specs.Recovery.{new_recovery}
use Rattle.directory_rules.specs.Transfer.{awaits}
use Rattle.node_plans.specs.Plans.{recovering_by}
use Rattle.node_plans.specs.Sender.{queries_of}
use Rattle.node_plans.proofs.Gatherings.{missing_count, missing_is}
use Rattle.node_plans.proofs.Results.{on_err}
use Rattle.directory_node.proofs.node.Node.plan_missing.Goals as goal

pub returns-in_err-recovery-clause-members : goal.returns-in_err-recovery-clause-members
returns-in_err-recovery-clause-members c =
    let awaited : awaits c.args.self.now c.args.letter.now.version c.args.range c.args.letter.now.from ≡ true =
    cc (c.awaits.ensures, c.if-not-awaits.false, c.version.ensures, c.from.ensures) in
    on_err c.from_residual.result (missing_count c.args.self.now c.args.letter.now c.args.range awaited)

pub returns-in-Err-clause-members : goal.returns-in-Err-clause-members
returns-in-Err-clause-members c =
    let awaited : awaits c.args.self.now c.args.letter.now.version c.args.range c.args.letter.now.from ≡ true =
    cc (c.awaits.ensures, c.if-not-awaits.false, c.version.ensures, c.from.ensures) in
    missing_count c.args.self.now c.args.letter.now c.args.range awaited

pub returns-in-Ok-clause-planned : goal.returns-in-Ok-clause-planned
returns-in-Ok-clause-planned c =
    let node = c.args.self.now in
    let range = c.args.range in
    let awaited : awaits c.args.self.now c.args.letter.now.version c.args.range c.args.letter.now.from ≡ true =
    cc (c.awaits.ensures, c.if-not-awaits.false, c.version.ensures, c.from.ensures) in
    let recovery : c.in_ok-recovery.recovery ≡ new_recovery node.view range = c.in_ok-recovery.ensures ∙ ap (λ (n : Node). new_recovery n.view range) c.self.view_is in
    let letters = c.in-Ok.ensures ∙ (λ i. queries_of (c.sender.ensures i) (recovery i).range (recovery i)) in
    (λ i. record { node = recovering_by node (recovery i); letters = letters i; effect = Recovering })
    ∙ sym (missing_is node c.args.letter.now range awaited)
