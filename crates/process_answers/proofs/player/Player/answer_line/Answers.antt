use Rattle.std.proofs.Common.{◌∙◌, ap}
use Rattle.directory_rules.specs.State.{Node}
use Rattle.directory_rules.specs.Settings.{Settings}
use Rattle.process_lines.specs.FaultNumbers.{line_fault_number}
use Rattle.process_lines.specs.AskedModel.{asked_of}
use Rattle.process_answers.proofs.Answered.{asked_answered, fault_told, passed_over, said_so}
use Rattle.process_answers.proofs.player.Player.answer_line.Goals as goal

pub returns-in-Ok-None-clause-answered : goal.returns-in-Ok-None-clause-answered
returns-in-Ok-None-clause-answered c =
    let s = c.args.self.now.silo in
    let same = c.hashing-hashing.ensures ∙ (ap (λ (i : Settings). i.hashing) c.settings.ensures ∙ ap (λ (n : Node). n.settings.hashing) c.node.ensures) in
    passed_over c.args.self.now.token s c.args.line.now c.args.out.now.items
    (said_so s c.args.line.now c.without_return.result.now c.hashing-hashing.result _ same c.without_return.ensures
    (rw c.in-Ok-None.field-0-is at c.in-Ok-None.ensures.reads))

pub returns-in-Ok-Some-clause-answered : goal.returns-in-Ok-Some-clause-answered
returns-in-Ok-Some-clause-answered c =
    let s = c.args.self.now.silo in
    let same = c.hashing-hashing.ensures ∙ (ap (λ (i : Settings). i.hashing) c.settings.ensures ∙ ap (λ (n : Node). n.settings.hashing) c.node.ensures) in
    asked_answered c.args.self.now.token s c.answer.new.silo c.args.line.now c.args.out.now.items c.answer.new.out.items
    (asked_of c.in-Ok-Some.asked) c.answer.result
    (said_so s c.args.line.now c.without_return.result.now c.hashing-hashing.result _ same c.without_return.ensures
    (rw c.in-Ok-Some.field-0-is at c.in-Ok-Some.ensures.reads))
    c.answer.ensures.silo c.answer.ensures.lines c.answer.ensures.ends

pub returns-in_ok-write_fault-in-Err-Fault-clause-answered : goal.returns-in_ok-write_fault-in-Err-Fault-clause-answered
returns-in_ok-write_fault-in-Err-Fault-clause-answered c =
    let s = c.args.self.now.silo in
    let same = c.hashing-hashing.ensures ∙ (ap (λ (i : Settings). i.hashing) c.settings.ensures ∙ ap (λ (n : Node). n.settings.hashing) c.node.ensures) in
    fault_told c.args.self.now.token s c.args.line.now c.args.out.now.items c.write_fault.new.out.items
    (line_fault_number c.in-Err-Fault.fault) c.number.result
    (said_so s c.args.line.now c.without_return.result.now c.hashing-hashing.result _ same c.without_return.ensures
    (rw c.in-Err-Fault.field-0-is at c.in-Err-Fault.ensures.reads))
    (rw c.in-Err-Fault.field-0-is at c.number.ensures) c.in_ok-write_fault-in-Err-Fault.ensures.written
