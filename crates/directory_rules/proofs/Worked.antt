-- The worked runs, computed.
use Rattle.std.proofs.Common.{refl}
use Rattle.std.specs.Fmt.{digits}
use Rattle.sha2.specs.Sha256.{sha256, hash_after, compress, rounds, schedule, first_words, digest_bytes}
use Rattle.silo_address.specs.StatedHash.{stated_hash}
use Rattle.ring_range.specs.Cut.{cut_parts}
use Rattle.directory_rules.specs.Happens.{happens}
use Rattle.directory_rules.specs.Run.{run}
use Rattle.directory_rules.specs.Worked.{RefusalsCompute}

pub refusals_computed : RefusalsCompute
unfolding run happens cut_parts stated_hash digits sha256 hash_after compress rounds schedule first_words digest_bytes
refusals_computed = refl
