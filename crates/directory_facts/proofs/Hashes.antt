-- The hash of a grain is a hash.
use Rattle.hash_ring.proofs.HashesBelow.{grain_below}
use Rattle.directory_facts.specs.Laws.{GrainsHaveHashes}

pub grains_have_hashes : GrainsHaveHashes
grains_have_hashes hashing grain = grain_below hashing grain
