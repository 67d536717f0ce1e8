use Rattle.std.proofs.Common.{sym}
use Rattle.silo_address.proofs.Same.{Decides-endpoint}
use Rattle.silo_address.proofs.silo.SiloAddress.same_endpoint.Goals as goal

pub returns : goal.returns
returns c =
    rw (sym c.self.view_is, sym c.other.view_is) (Decides-endpoint _ c.self.inside.ip c.other.inside.ip c.self.inside.port
    c.other.inside.port c.eq.ensures)
