use Rattle.std.proofs.Common.{refl}
use Rattle.silo_address.specs.StatedHash.{stated_hash}
use Rattle.silo_address.proofs.laws.stated_hashes.Goals as goal

pub returns : goal.returns
unfolding stated_hash
returns c = record { stated = refl; none = refl; leading_zero = refl; too_large = refl }
