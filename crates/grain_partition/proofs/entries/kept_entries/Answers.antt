use Rattle.std.proofs.Common.{ap, ◌∙◌, []}
use Rattle.std.specs.Prelude.{filter, flat_map, not}
use Rattle.directory_rules.specs.Members.{is_dead_in}
use Rattle.directory_rules.specs.Sight.{all_entries}
use Rattle.directory_rules.specs.Table.{entries_of}
use Rattle.grain_table.proofs.ByGrain.{nothing_is_table}
use Rattle.grain_table.proofs.Filters.{kept_of}
use Rattle.grain_table.proofs.Put.{put_in_is_table}
use Rattle.grain_table.specs.Table.{TableValue}
use Rattle.grain_partition.proofs.entries.kept_entries.Goals as goal

pub returns : goal.returns
returns c =
    ap (λ (v : TableValue). v.entries) c.remove_dead.ensures
    ∙ ap (filter (λ e. not (is_dead_in c.args.view.now e.1.activation.silo))) c.in_ok-kept.ensures
    ∙ kept_of c.args.hashing c.args.view.now c.args.range.now (all_entries c.args.pieces.now.entries)
    (put_in_is_table [] (flat_map (λ e. entries_of e.1.entries) c.args.pieces.now.entries) nothing_is_table)
