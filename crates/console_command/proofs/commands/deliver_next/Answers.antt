use Rattle.std.proofs.Common.{ℕ, Option, IfOk, subst}
use Rattle.script_rules.specs.Output.{deliver_next}
use Rattle.console_command.specs.Commands.{TakesTurn, in_session}
use Rattle.console_command.proofs.commands.deliver_next.Goals as goal

pub returns-clause-taken : goal.returns-clause-taken
returns-clause-taken c =
    let old = c.args.world.now in
    let new = c.take_turn.new in
    subst (λ (least : Option ℕ). IfOk c.take_turn.result
    (TakesTurn (λ next. deliver_next least (in_session old) next) c.args.out.now.items new.world new.out.items))
    c.in-Some.ensures c.take_turn.ensures.taken
