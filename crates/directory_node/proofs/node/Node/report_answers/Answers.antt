use Rattle.std.proofs.Common.{sym, ap, ◌∙◌, length}
use Rattle.std.specs.Prelude.{Ok}
use Rattle.directory_rules.specs.Step.{Stepped}
use Rattle.range_recovery.specs.declared.RecoveryProgress.{RecoveryProgress}
use Rattle.node_plans.proofs.AskedOn.{asks_on, awaits_others, completes, counted_so, ignored_so, refuses}
use Rattle.node_plans.proofs.Reports.{counts_where}
use Rattle.directory_node.proofs.node.Node.report_answers.Goals as goal

pub progress_with-requires : goal.progress_with-requires
progress_with-requires c = record {
  recovers = counts_where c.args.self.now c.args.letter.now c.args.report.now (sym c.is_report_awaited.ensures ∙ c.if-not-is_report_awaited.false);
}

pub returns-then-not-is_report_awaited : goal.returns-then-not-is_report_awaited
returns-then-not-is_report_awaited c =
    sym (ap (λ (s : Stepped). length s.letters)
    (ignored_so c.args.self.now c.args.letter.now c.args.report.now (sym c.is_report_awaited.ensures ∙ c.if-not-is_report_awaited.true)))

pub returns-in-Ok-Continues : goal.returns-in-Ok-Continues
returns-in-Ok-Continues c =
    sym (ap (λ (s : Stepped). length s.letters)
    (counted_so c.args.self.now c.args.letter.now c.args.report.now (sym c.is_report_awaited.ensures ∙ c.if-not-is_report_awaited.false)
    ∙ asks_on c.args.self.now c.args.report.now
    (c.in-Ok-Continues.ensures.judged ∙ ap (λ (p : RecoveryProgress). Ok p) c.in-Ok-Continues.field-0-is)))

pub returns-in-Ok-More : goal.returns-in-Ok-More
returns-in-Ok-More c =
    sym (ap (λ (s : Stepped). length s.letters)
    (counted_so c.args.self.now c.args.letter.now c.args.report.now (sym c.is_report_awaited.ensures ∙ c.if-not-is_report_awaited.false)
    ∙ awaits_others c.args.self.now c.args.report.now
    (c.in-Ok-More.ensures.judged ∙ ap (λ (p : RecoveryProgress). Ok p) c.in-Ok-More.field-0-is)))

pub returns-in-Ok-Complete : goal.returns-in-Ok-Complete
returns-in-Ok-Complete c =
    sym (ap (λ (s : Stepped). length s.letters)
    (counted_so c.args.self.now c.args.letter.now c.args.report.now (sym c.is_report_awaited.ensures ∙ c.if-not-is_report_awaited.false)
    ∙ completes c.args.self.now c.args.report.now
    (c.in-Ok-Complete.ensures.judged ∙ ap (λ (p : RecoveryProgress). Ok p) c.in-Ok-Complete.field-0-is)))

pub returns-in-Err : goal.returns-in-Err
returns-in-Err c =
    sym (ap (λ (s : Stepped). length s.letters)
    (counted_so c.args.self.now c.args.letter.now c.args.report.now (sym c.is_report_awaited.ensures ∙ c.if-not-is_report_awaited.false)
    ∙ refuses c.args.self.now c.args.report.now c.in-Err.field-0 c.in-Err.ensures.refused))
