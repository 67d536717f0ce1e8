use Rattle.std.proofs.Common.{refl, arith, rules}
use Rattle.console_command.specs.Commands.{delivery_turn}
use Rattle.console_command.proofs.Lines.{begins_with_itself}
use Rattle.console_command.proofs.Turns.{settles_at_last, settles_at_most, settles_on, turn_begins}
use Rattle.console_command.proofs.commands.settle.Goals as goal

pub returns-then-not-branch-clause-performed : goal.returns-then-not-branch-clause-performed
returns-then-not-branch-clause-performed c =
    settles_at_last c.args.world.now c.args.out.now.items c.letters-most.result c.loop-delivered._delivered _ _ _ _
    c.in_ok-deliver_next.field-0
    c.if-not-branch.true (omega arith) c.loop-delivered.invariant.settles c.in_ok-deliver_next.ensures.taken

pub loop-delivered-init : goal.loop-delivered-init
loop-delivered-init c = record {
  within = omega arith;
  settles = search rules;
  begins = begins_with_itself _ _ refl;
}

pub loop-delivered-preserved : goal.loop-delivered-preserved
loop-delivered-preserved c = record {
  within = omega arith;
  settles =
      settles_on c.args.world.now c.args.out.now.items c.letters-most.result c.loop-delivered._delivered _ _ _ _
      c.in_ok-deliver_next.field-0
      c.if-not-branch.false (omega arith) c.loop-delivered.invariant.settles c.in_ok-deliver_next.ensures.taken;
  begins =
      turn_begins (delivery_turn c.loop-delivered.world) _ _ _ _ c.in_ok-deliver_next.field-0 c.loop-delivered.invariant.begins
      c.in_ok-deliver_next.ensures.taken;
}

pub returns-clause-performed : goal.returns-clause-performed
returns-clause-performed c =
    settles_at_most c.args.world.now c.args.out.now.items c.letters-most.result c.loop-delivered._delivered _ _ (omega arith)
    c.loop-delivered.invariant.settles
