use Rattle.std.proofs.Common.{subst}
use Rattle.std.specs.Box.{boxed_str_bytes}
use Rattle.std.specs.List.{IsDistinct}
use Rattle.std.specs.Map.{keys_of}
use Rattle.silo_address.specs.Grain.{grain_eq}
use Rattle.grain_names.proofs.Changed.{named_apart}
use Rattle.grain_names.proofs.grain_map.GrainMap.apart.Goals as goal

pub returns : goal.returns
returns g c =
    subst (λ l. IsDistinct grain_eq (keys_of l)) c.self.view_is
    (named_apart boxed_str_bytes c.self.inside.map.entries c.self.invariant c.len-len.ensures.unique)
