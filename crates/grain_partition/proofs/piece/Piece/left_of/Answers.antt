use Rattle.std.proofs.Common.{◌∙◌, ap, [], ◌∷◌}
use Rattle.std.specs.Prelude.{filter, not}
use Rattle.directory_rules.specs.declared.PieceState.TheVariants.{Settled}
use Rattle.directory_rules.specs.Members.{is_dead_in}
use Rattle.directory_rules.specs.State.{Piece, Table}
use Rattle.directory_rules.specs.Sight.{kept_entries}
use Rattle.grain_table.specs.Table.{TableValue}
use Rattle.grain_partition.proofs.Tidy.{kept_in_steps}
use Rattle.grain_partition.proofs.piece.Piece.left_of.Goals as goal

pub returns : goal.returns
returns c =
    c.settled.ensures
    ∙ ap (λ (entries : Table). record { range = c.args.range; state = Settled; entries = entries })
    (ap (λ (v : TableValue). v.entries) c.remove_dead.ensures
    ∙ ap (λ (v : TableValue). filter (λ e. not (is_dead_in c.args.view.now e.1.activation.silo)) v.entries) c.keep_within.ensures
    ∙ kept_in_steps c.args.hashing c.args.view.now c.args.range
    (record { range = c.self.inside.range; state = c.self.inside.state; entries = c.self.inside.entries.entries }) c.made_again.ensures
    ∙ ap (λ (piece : Piece). kept_entries c.args.hashing c.args.view.now ((0, piece) ∷ []) c.args.range) c.self.view_is)
