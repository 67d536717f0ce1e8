use Rattle.std.proofs.Common.{sym, ap, ◌∙◌}
use Rattle.std.specs.Prelude.{fold}
use Rattle.grain_partition.specs.Kept.{pieces_made, with_staying}
use Rattle.grain_partition.proofs.StayedPieces.{stayed_are_after}
use Rattle.grain_partition.proofs.sight.sight.Goals as goal

pub returns-then-tidy-clause-after : goal.returns-then-tidy-clause-after
returns-then-tidy-clause-after c =
    c.put_all_back.ensures
    ∙ (λ i. fold (with_staying c.args.hashing c.args.view.now) (c.replace-before.ensures.after i).entries
    (c.replace-before.ensures.value i).entries)
    ∙ ap (λ made. fold (with_staying c.args.hashing c.args.view.now) made c.args.pieces.now.entries)
    (c.in_ok-after.ensures ∙ ap (λ tidy. pieces_made tidy c.args.next c.args.hashing c.args.view.now c.args.silo.now
    c.args.pieces.now.entries c.args.arcs.now) c.if-tidy.true)
    ∙ stayed_are_after c.args.next c.args.hashing c.args.view.now c.args.silo.now c.args.pieces.now.entries c.requires.pieces
    (sym c.are_tidy-tidy.ensures ∙ c.if-tidy.true) c.args.arcs.now c.requires.arcs
