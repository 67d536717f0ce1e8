use Rattle.std.proofs.Common.{◌≡◌, subst}
use Rattle.std.specs.Box.{boxed_str_bytes}
use Rattle.std.specs.List.{AllZip}
use Rattle.grain_names.specs.Names.{named}
use Rattle.grain_names.proofs.Changed.{copied_named, copied_names}
use Rattle.grain_names.proofs.grain_map.GrainMap.copy.Goals as goal

pub invariant_of-result : goal.invariant_of-result
invariant_of-result g c =
    copied_names boxed_str_bytes g.V.Clone.is_clone c.self.inside.map.entries c.in_ok-map.map.entries c.in_ok-map.ensures.cases
    c.self.invariant

pub returns : goal.returns
returns g c =
    subst (λ l. AllZip (λ e f. (f.0 ≡ e.0) × g.V.Clone.is_clone e.1 f.1) l (named boxed_str_bytes c.in_ok-map.map.entries)) c.self.view_is
    (copied_named boxed_str_bytes g.V.Clone.is_clone c.self.inside.map.entries c.in_ok-map.map.entries c.in_ok-map.ensures.cases)
