use Rattle.std.proofs.Common.{drop, map}
use Rattle.script_lines.specs.CommandModel.{command_of}
use Rattle.console_threads.proofs.Posted.{Carried}
use Rattle.console_threads.proofs.SoFar.{PutsSoFar}
use Rattle.console_threads.proofs.driver.Driver.drive.Given as goal

-- the receipts so far are those of the commands that were gone through
abbrev pub invariant-loop-command : goal.invariant-loop-command
invariant-loop-command g l =
    PutsSoFar (Carried g.L.Charter.settings) (map command_of l.commands) (map command_of (drop l.command-index l.commands))
    l.fn.self.hand.seen l.self.hand.seen
    l.fn.self.receipts.items l.self.receipts.items
