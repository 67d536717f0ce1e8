-- How what the code keeps of an event is an entry of the journal.
use Rattle.directory_rules.specs.EventModel.{event_of}
use Rattle.cluster_journal.specs.Entry.{EntryValue}
use Rattle.cluster_journal.specs.Short.{entry_by}
use Rattle.cluster_journal.specs.declared.entry.Form.{Form}
use Rattle.cluster_journal.specs.declared.entry.Form.TheVariants.{Short, Step, Long}
use Rattle.cluster_journal.specs.declared.entry.Whole.{Whole}

-- the event, as the rule has it, and what it told
abbrev pub entry_in : Whole → EntryValue
entry_in whole = record { event = event_of whole.event; outcome = whole.outcome }

-- an entry is kept short or whole
abbrev pub entry_of : Form → EntryValue
entry_of (Short delivery) = entry_by delivery
entry_of (Step stepped) = stepped
entry_of (Long whole) = entry_in whole.value
