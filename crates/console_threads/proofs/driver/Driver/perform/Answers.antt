use Rattle.script_lines.specs.CommandModel.{command_of}
use Rattle.console_threads.proofs.Posted.{no_settling, nothing_performed, posts_none}
use Rattle.console_threads.proofs.driver.Driver.perform.Goals as goal

pub returns-in-Settle : goal.returns-in-Settle
returns-in-Settle g c = λ all.
    let before = c.args.self.now in
    nothing_performed g.L.Charter.settings (command_of c.args.command.now) before.hand.seen before.receipts.items
    (no_settling c.args.command.now c.in-Settle.is)

pub returns-in_default : goal.returns-in_default
returns-in_default g c = λ all.
    let before = c.args.self.now in
    nothing_performed g.L.Charter.settings (command_of c.args.command.now) before.hand.seen before.receipts.items
    (λ world. posts_none c.args.command.now world c.in_default.not-Happen c.in_default.not-Sync)
