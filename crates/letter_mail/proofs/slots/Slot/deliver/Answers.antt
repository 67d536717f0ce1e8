use Rattle.std.proofs.Common.{rules}
use Rattle.letter_mail.proofs.slots.Slot.deliver.Goals as goal

pub returns-in-Short : goal.returns-in-Short
returns-in-Short c = search rules
