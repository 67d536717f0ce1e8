use Rattle.std.proofs.Common.{ap, ◌∙◌, ◌++◌, [], ◌∷◌}
use Rattle.std.specs.Box.{boxed_str_bytes}
use Rattle.std.specs.Map.{lookup}
use Rattle.silo_address.specs.Grain.{grain_eq}
use Rattle.grain_names.proofs.Named.{put_named, put_names}
use Rattle.grain_names.proofs.grain_map.GrainMap.put.Goals as goal

pub invariant_of-self-2 : goal.invariant_of-self-2
invariant_of-self-2 g c =
    put_names boxed_str_bytes c.args.grain.now c.in_range.ensures c.self.inside.map c.in_ok-name.name c.args.value
    (c.in_ok-name.ensures.ok ∙ c.as_str.ensures) c.self.invariant
    (ap (lookup (grain_eq c.args.grain.now)) c.self.view_is ∙ c.requires.new) c.insert.new.self.entries c.in_ok-insert.ensures.entries

pub returns-clause-put : goal.returns-clause-put
returns-clause-put g c =
    put_named boxed_str_bytes c.args.grain.now c.in_range.ensures c.self.inside.map c.in_ok-name.name c.args.value
    (c.in_ok-name.ensures.ok ∙ c.as_str.ensures) c.self.invariant
    (ap (lookup (grain_eq c.args.grain.now)) c.self.view_is ∙ c.requires.new) c.insert.new.self.entries c.in_ok-insert.ensures.entries
    ∙ ap (λ l. l ++ (c.args.grain.now, c.args.value) ∷ []) c.self.view_is
