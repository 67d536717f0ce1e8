use Rattle.std.proofs.Common.{sym, ap, ◌∙◌}
use Rattle.std.specs.Box.{boxed_str_bytes}
use Rattle.std.specs.Map.{lookup}
use Rattle.std.specs.Prelude.{slice_get}
use Rattle.silo_address.specs.Grain.{grain_eq}
use Rattle.grain_names.proofs.Named.{found_named, lookup_named}
use Rattle.grain_names.proofs.grain_map.GrainMap.find.Goals as goal

pub returns-in-Some-clause-value : goal.returns-in-Some-clause-value
returns-in-Some-clause-value g c =
    c.in-Some.ensures.value
    ∙ lookup_named boxed_str_bytes c.args.grain.now c.in_range.ensures c.as_str.result.now c.as_str.ensures c.self.inside.map.entries
    c.self.invariant
    ∙ ap (lookup (grain_eq c.args.grain.now)) c.self.view_is

pub returns-in-Some-clause-entry : goal.returns-in-Some-clause-entry
returns-in-Some-clause-entry g c =
    ap (λ l. slice_get l c.in-Some.index) (sym c.self.view_is)
    ∙ found_named boxed_str_bytes c.args.grain.now c.in_range.ensures c.as_str.result.now c.as_str.ensures c.self.inside.map.entries
    c.in-Some.index _ c.in-Some.value.now c.in-Some.ensures.entry c.in-Some.ensures.key

pub returns-in-None-clause-value : goal.returns-in-None-clause-value
returns-in-None-clause-value g c =
    c.in-None.ensures.value
    ∙ lookup_named boxed_str_bytes c.args.grain.now c.in_range.ensures c.as_str.result.now c.as_str.ensures c.self.inside.map.entries
    c.self.invariant
    ∙ ap (lookup (grain_eq c.args.grain.now)) c.self.view_is
