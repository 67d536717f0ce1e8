use Rattle.std.proofs.Common.{refl}
use Rattle.silo_address.proofs.grain.GrainIdHash.hash.Goals as goal

pub returns : goal.returns
returns c = λ c'. rw (c'.write.ensures, c'.as_bytes.ensures.text) refl
