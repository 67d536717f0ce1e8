use Rattle.std.proofs.Common.{◌+◌, drop, map}
use Rattle.script_lines.specs.CommandModel.{command_of}
use Rattle.console_threads.proofs.SoFar.{nothing_yet}
use Rattle.console_threads.proofs.Posted.{Carried, all_performed, none_left, one_left, one_performed}
use Rattle.console_threads.proofs.driver.Driver.drive.Goals as goal

pub loop-command-preserved : goal.loop-command-preserved
loop-command-preserved g c =
    let commands = c.args.commands.now in
    let index = c.loop-command.command-index in
    let command = c.command-item.result in
    let before = c.args.self.now in
    let now = c.loop-command.self in
    let after = c.carry_out.new.self in
    one_performed g.L.Charter.settings (map command_of commands) (map command_of (drop index commands))
    (map command_of (drop (index + 1) commands)) (command_of command)
    before.hand.seen now.hand.seen after.hand.seen before.receipts.items now.receipts.items after.receipts.items
    (one_left command_of commands index command c.loop-command-test.true c.command-item.is) (c.carry_out.ensures c.if-self.false)
    c.loop-command.invariant

pub returns : goal.returns
returns g c = λ all.
    let commands = c.args.commands.now in
    let index = c.loop-command.command-index in
    let before = c.args.self.now in
    let now = c.loop-command.self in
    all_performed g.L.Charter.settings (map command_of commands) (map command_of (drop index commands)) before.hand.seen now.hand.seen
    before.receipts.items now.receipts.items
    (none_left command_of commands index c.loop-command-test.false) c.loop-command.invariant

pub loop-command-init : goal.loop-command-init
loop-command-init g c =
    nothing_yet (Carried g.L.Charter.settings) (map command_of c.args.commands.now) c.args.self.now.hand.seen c.args.self.now.receipts.items
