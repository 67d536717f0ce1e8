use Rattle.directory_protocol.proofs.All
use Rattle.directory_protocol.proofs.hashes_are_sealed_once.Goals as goal

pub returns : goal.returns
returns c = All.hashes_are_sealed_once
