use Rattle.std.specs.Box.{boxed_str_bytes}
use Rattle.grain_names.proofs.Equal.{equal_named}
use Rattle.grain_names.proofs.grain_map.GrainMap.same.Goals as goal

pub returns : goal.returns
returns g c =
    equal_named boxed_str_bytes g.V.PartialEq.eq c.self.inside.map c.other.inside.map c.self.invariant c.other.invariant c.args.self.now
    c.args.other.now c.self.view_is c.other.view_is c.eq.result c.eq.ensures
