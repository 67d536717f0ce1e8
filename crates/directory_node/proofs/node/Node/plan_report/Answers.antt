use Rattle.std.proofs.Common.{sym, ◌∙◌}
use Rattle.std.proofs.lemmas.Result.{IfOk-weaker}
use Rattle.node_plans.proofs.AskedOn.{counted_so, ignored_so}
use Rattle.node_plans.proofs.Reports.{counts_where}
use Rattle.directory_node.proofs.node.Node.plan_report.Goals as goal

pub plan_count-requires : goal.plan_count-requires
plan_count-requires c = record {
  recovers = counts_where c.args.self.now c.args.letter.now c.args.report.now (sym c.is_report_awaited.ensures ∙ c.if-not-is_report_awaited.false);
}

pub returns-then-not-is_report_awaited-clause-planned : goal.returns-then-not-is_report_awaited-clause-planned
returns-then-not-is_report_awaited-clause-planned c =
    c.idle.ensures.planned c.args.self.now
    ∙ sym (ignored_so c.args.self.now c.args.letter.now c.args.report.now (sym c.is_report_awaited.ensures ∙ c.if-not-is_report_awaited.true))

pub returns-clause-planned : goal.returns-clause-planned
returns-clause-planned c =
    let counted = counted_so c.args.self.now c.args.letter.now c.args.report.now (sym c.is_report_awaited.ensures ∙ c.if-not-is_report_awaited.false) in
    IfOk-weaker c.plan_count.result _ _ (λ plan planned. planned ∙ sym counted) c.plan_count.ensures.planned
