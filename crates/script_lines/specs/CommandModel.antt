-- How a command of the code is a command of the rule.
use Rattle.script_rules.specs.Script as rule
use Rattle.directory_rules.specs.EventModel.{event_of}
use Rattle.script_lines.specs.declared.command.Command.{Command}
use Rattle.script_lines.specs.declared.command.Command.TheVariants.{Happen, Sync, Settle, Owner, Place, Show, Mail, Dump, Check}

-- the rule's command
abbrev pub command_of : Command → rule.Command
command_of (Happen event) = rule.Happen (event_of event)
command_of Sync = rule.Sync
command_of Settle = rule.Settle
command_of (Owner hash) = rule.Owner hash
command_of (Place silo policy grain) = rule.Place silo policy grain
command_of Show = rule.Show
command_of Mail = rule.Mail
command_of Dump = rule.Dump
command_of Check = rule.Check
