use Rattle.std.proofs.Common.{sym}
use Rattle.silo_address.proofs.silo.SiloAddressDisplay.fmt.Goals as goal

pub returns-clause-writes : goal.returns-clause-writes
returns-clause-writes c = λ c' plain ok. rw (sym c'.self.view_is) (c'.write.ensures.writes plain ok)
