use Rattle.std.proofs.Common.{◌≡◌, set, subst}
use Rattle.std.specs.Box.{boxed_str_bytes}
use Rattle.std.specs.Prelude.{MatchOption, slice_get}
use Rattle.indexmap.specs.IndexMap.{set_value_at}
use Rattle.grain_names.specs.Names.{named}
use Rattle.grain_names.proofs.Changed.{set_named, set_names}
use Rattle.grain_names.proofs.grain_map.GrainMap.set_at.Goals as goal

pub invariant_of-self-2 : goal.invariant_of-self-2
invariant_of-self-2 g c = set_names boxed_str_bytes c.self.inside.map.entries c.args.index c.args.value c.self.invariant

pub returns : goal.returns
returns g c =
    let new = named boxed_str_bytes (set_value_at c.self.inside.map.entries c.args.index c.args.value) in
    subst (λ l. MatchOption (slice_get l c.args.index) (new ≡ l) (λ e. new ≡ set l c.args.index (e.0, c.args.value))) c.self.view_is
    (set_named boxed_str_bytes c.self.inside.map.entries c.args.index c.args.value)
