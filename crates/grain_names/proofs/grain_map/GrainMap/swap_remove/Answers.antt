use Rattle.std.proofs.Common.{◌≡◌, subst}
use Rattle.std.specs.Box.{boxed_str_bytes}
use Rattle.std.specs.List.{swap_remove}
use Rattle.std.specs.Prelude.{MatchOption, slice_get}
use Rattle.grain_names.specs.Names.{named}
use Rattle.grain_names.proofs.Changed.{swapped_named}
use Rattle.grain_names.proofs.grain_map.GrainMap.swap_remove.Goals as goal

pub returns : goal.returns
returns g c =
    let new = named boxed_str_bytes c.swap_remove_index.new.self.entries in
    subst (λ l. MatchOption (slice_get l c.args.index) (new ≡ l) (λ e. new ≡ swap_remove l c.args.index e)) c.self.view_is
    (swapped_named boxed_str_bytes c.self.inside.map.entries c.swap_remove_index.new.self.entries c.args.index c.swap_remove_index.result
    c.swap_remove_index.ensures.entry c.swap_remove_index.ensures.entries
    c.swap_remove_index.ensures.unchanged)
