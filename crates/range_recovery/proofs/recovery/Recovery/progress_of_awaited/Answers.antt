use Rattle.std.proofs.Common.{if◌then◌else◌, Ok, ◌∙◌, ap, sym, subst}
use Rattle.std.specs.List.Sorted.{IsStrictlySortedBy}
use Rattle.silo_address.specs.Silo.{silo_cmp}
use Rattle.std.specs.Option.{option_eq}
use Rattle.silo_address.specs.Grain.{grain_eq}
use Rattle.directory_rules.specs.State.{Recovery}
use Rattle.directory_rules.specs.Recovery.{told_by}
use Rattle.range_recovery.specs.Progress.{after_one_more}
use Rattle.range_recovery.specs.declared.progress.RecoveryProgress.TheVariants.{Continues}
use Rattle.range_recovery.proofs.Reports.{out_of_turn, progress-awaited}
use Rattle.range_recovery.proofs.recovery.Recovery.progress_of_awaited.Goals as goal

pub returns-then-not-goes_on-clause-refused : goal.returns-then-not-goes_on-clause-refused
returns-then-not-goes_on-clause-refused c =
    out_of_turn c.args.self.now c.args.report.now c.requires.asked c.requires.waits
    (ap (λ a. option_eq grain_eq a (told_by c.args.report.now.silo c.args.self.now)) (sym c.after.ensures)
    ∙ ap (λ t. option_eq grain_eq c.after.result t) (sym (c.told_by.ensures ∙ ap (λ s. told_by s c.args.self.now) c.silo.ensures))
    ∙ sym c.eq-goes_on.ensures ∙ c.if-not-goes_on.true)

pub returns-then-is_last-clause-judged : goal.returns-then-is_last-clause-judged
returns-then-is_last-clause-judged c =
    progress-awaited c.args.self.now c.args.report.now
    (subst (λ (v : Recovery). IsStrictlySortedBy silo_cmp v.awaiting) c.self.view_is c.whole.ensures.awaiting_in_order)
    c.requires.asked c.requires.waits
    (ap (λ a. option_eq grain_eq a (told_by c.args.report.now.silo c.args.self.now)) (sym c.after.ensures)
    ∙ ap (λ t. option_eq grain_eq c.after.result t) (sym (c.told_by.ensures ∙ ap (λ s. told_by s c.args.self.now) c.silo.ensures))
    ∙ sym c.eq-goes_on.ensures ∙ c.if-not-goes_on.false)
    ∙ ap (λ b. Ok (if b then after_one_more c.args.self.now else Continues)) (sym c.is_last.ensures ∙ c.if-is_last.true)
    ∙ ap (λ p. Ok p) (sym c.after_one_more.ensures)

pub returns-else-is_last-clause-judged : goal.returns-else-is_last-clause-judged
returns-else-is_last-clause-judged c =
    progress-awaited c.args.self.now c.args.report.now
    (subst (λ (v : Recovery). IsStrictlySortedBy silo_cmp v.awaiting) c.self.view_is c.whole.ensures.awaiting_in_order)
    c.requires.asked c.requires.waits
    (ap (λ a. option_eq grain_eq a (told_by c.args.report.now.silo c.args.self.now)) (sym c.after.ensures)
    ∙ ap (λ t. option_eq grain_eq c.after.result t) (sym (c.told_by.ensures ∙ ap (λ s. told_by s c.args.self.now) c.silo.ensures))
    ∙ sym c.eq-goes_on.ensures ∙ c.if-not-goes_on.false)
    ∙ ap (λ b. Ok (if b then after_one_more c.args.self.now else Continues)) (sym c.is_last.ensures ∙ c.if-is_last.false)
