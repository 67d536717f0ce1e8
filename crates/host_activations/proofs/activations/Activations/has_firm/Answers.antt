use Rattle.std.proofs.Common.{refl}
use Rattle.host_activations.specs.Listing.{all_in}
use Rattle.host_activations.proofs.AnyFirm.{has_told}
use Rattle.host_activations.proofs.activations.Activations.has_firm.Goals as goal

pub returns : goal.returns
returns c = λ silo.
    has_told (all_in c.args.hashing c.args.range) refl silo c.args.self.now.entries c.whole.ensures.grains c.has_asked.result c.has_asked.ensures
