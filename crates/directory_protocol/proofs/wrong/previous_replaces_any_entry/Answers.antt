use Rattle.directory_protocol.proofs.StoryEntries
use Rattle.directory_protocol.proofs.wrong.previous_replaces_any_entry.Goals as goal

pub returns : goal.returns
returns c = StoryEntries.previous_replaces_any_entry
