use Rattle.std.proofs.Common.{◌≡◌, ◌∙◌, ap}
use Rattle.std.specs.Box.{boxed_slice_items}
use Rattle.silo_address.specs.ReadGrain.{grain_at_slash}
use Rattle.silo_address.specs.declared.Entry.{Entry}
use Rattle.grain_table.proofs.short_entry.ShortEntry.grain.Goals as goal

pub unreachable-requires : goal.unreachable-requires
unreachable-requires c =
    let is = c.in-Err.ensures.only (grain_at_slash (boxed_slice_items c.self.inside.text)) c.self.invariant.is_grain
    (c.as_slice.ensures.value ∙ c.self.invariant.spelled) in
    cc

pub returns : goal.returns
returns c =
    let is = c.in-Ok.ensures.only (grain_at_slash (boxed_slice_items c.self.inside.text)) c.self.invariant.is_grain
    (c.as_slice.ensures.value ∙ c.self.invariant.spelled) in
    let same : c.in-Ok.grain ≡ grain_at_slash (boxed_slice_items c.self.inside.text) = cc in
    same ∙ ap (λ (e : Entry). e.grain) c.self.view_is
