use Rattle.std.proofs.Common.{◌≡◌, [], subst, sym}
use Rattle.std.specs.Result.{OnErr}
use Rattle.process_lines.specs.AskedModel.{asked_of}
use Rattle.process_lines.specs.declared.asked.Asked.{Asked}
use Rattle.process_rules.specs.Answer.{answered}
use Rattle.process_answers.proofs.Printing.{show_prints, step_prints}
use Rattle.process_answers.proofs.answering.answer_asked.Goals as goal

pub returns-in_err-write_show-in-Show-clause-memory : goal.returns-in_err-write_show-in-Show-clause-memory
returns-in_err-write_show-in-Show-clause-memory c =
    let failed = c.from_residual-in_err-write_show-in-Show.result in
    subst (λ (asked : Asked). OnErr failed ((answered (asked_of asked) c.args.silo.now).lines ≡ [] → ⊥)) (sym c.in-Show.is)
    (show_prints failed c.args.silo.now)

pub returns-in-Do-clause-memory : goal.returns-in-Do-clause-memory
returns-in-Do-clause-memory c =
    let failed = c.answer_step.result in
    subst (λ (asked : Asked). OnErr failed ((answered (asked_of asked) c.args.silo.now).lines ≡ [] → ⊥)) (sym c.in-Do.is)
    (step_prints failed _ c.args.silo.now)
