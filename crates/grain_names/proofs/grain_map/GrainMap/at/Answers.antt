use Rattle.std.proofs.Common.{sym, ap, ◌∙◌, Some, None}
use Rattle.std.specs.Box.{boxed_str_bytes}
use Rattle.std.specs.Prelude.{slice_get}
use Rattle.silo_address.specs.Grain.{Grain}
use Rattle.grain_names.proofs.Named.{name_at, stands_named}
use Rattle.grain_names.proofs.grain_map.GrainMap.at.Goals as goal

pub grain_of-requires : goal.grain_of-requires
grain_of-requires g c = name_at boxed_str_bytes c.self.inside.map.entries c.self.invariant c.args.index _ (sym c.in-Some.ensures.entry)

pub returns-in-Some : goal.returns-in-Some
returns-in-Some g c =
    ap (λ (grain : Grain). Some (grain, c.in-Some.value.now)) c.grain_of.ensures
    ∙ sym (stands_named boxed_str_bytes c.self.inside.map.entries c.args.index (Some (c.in-Some.name.now, c.in-Some.value.now))
    (sym c.in-Some.ensures.entry))
    ∙ ap (λ l. slice_get l c.args.index) c.self.view_is

pub returns-in-None : goal.returns-in-None
returns-in-None g c =
    sym (stands_named boxed_str_bytes c.self.inside.map.entries c.args.index None (sym c.in-None.ensures.entry))
    ∙ ap (λ l. slice_get l c.args.index) c.self.view_is
