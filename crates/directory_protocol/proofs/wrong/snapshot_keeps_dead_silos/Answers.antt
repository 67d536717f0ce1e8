use Rattle.directory_protocol.proofs.StoryEntries
use Rattle.directory_protocol.proofs.wrong.snapshot_keeps_dead_silos.Goals as goal

pub returns : goal.returns
returns c = StoryEntries.snapshot_keeps_dead_silos
