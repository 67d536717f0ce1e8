use Rattle.std.proofs.Common.{sym, ap, ◌∙◌, [], ◌∷◌}
use Rattle.std.specs.Prelude.{Ok}
use Rattle.std.proofs.lemmas.Result.{IfOk-weaker}
use Rattle.directory_rules.specs.declared.Effect.TheVariants as effect
use Rattle.range_recovery.specs.declared.RecoveryProgress.{RecoveryProgress}
use Rattle.node_plans.proofs.AskedOn.{asks_on, awaits_others, completes, refuses}
use Rattle.node_plans.proofs.CountedReports.{counted}
use Rattle.directory_node.proofs.node.Node.plan_count.Goals as goal

pub returns-in-Err-clause-planned : goal.returns-in-Err-clause-planned
returns-in-Err-clause-planned c =
    c.idle.ensures.planned c.args.self.now ∙ sym (refuses c.args.self.now c.args.report.now c.in-Err.field-0 c.in-Err.ensures.refused)

pub returns-in-Continues-clause-planned : goal.returns-in-Continues-clause-planned
returns-in-Continues-clause-planned c =
    let node = c.args.self.now in
    let report = c.args.report.now in
    let is = c.in-Ok.ensures.judged ∙ ap (λ (p : RecoveryProgress). Ok p) c.in-Continues.is in
    IfOk-weaker c.of_one.result _ _
    (λ plan planned. planned node
    ∙ (λ i. record {
      node = (counted node (c.in_ok-copy.ensures i)).node;
      letters = c.query_on.ensures i ∷ [];
      effect = effect.More;
    })
    ∙ sym (asks_on node report is))
    c.of_one.ensures.planned

pub returns-in-More-clause-planned : goal.returns-in-More-clause-planned
returns-in-More-clause-planned c =
    let node = c.args.self.now in
    let report = c.args.report.now in
    let is = c.in-Ok.ensures.judged ∙ ap (λ (p : RecoveryProgress). Ok p) c.in-More.is in
    c.silent.ensures.planned node
    ∙ (λ i. record { node = (counted node (c.in_ok-copy.ensures i)).node; letters = []; effect = effect.More })
    ∙ sym (awaits_others node report is)

pub returns-in-Complete-clause-planned : goal.returns-in-Complete-clause-planned
returns-in-Complete-clause-planned c =
    let node = c.args.self.now in
    let report = c.args.report.now in
    let is = c.in-Ok.ensures.judged ∙ ap (λ (p : RecoveryProgress). Ok p) c.in-Complete.is in
    c.silent-in-Complete.ensures.planned node
    ∙ (λ i. record { node = (counted node (c.in_ok-copy.ensures i)).node; letters = []; effect = effect.Complete })
    ∙ sym (completes node report is)
