use Rattle.std.proofs.Common.{arith, sym, ◌∙◌}
use Rattle.std.proofs.lemmas.Grind.{common_steps}
use Rattle.directory_rules.specs.Sight.{is_owner}
use Rattle.grain_partition.specs.Kept.{piece_made}
use Rattle.grain_partition.proofs.Sighted.{made_range, one_more}
use Rattle.grain_partition.proofs.sight.pieces_made.Goals as goal

pub arcs-preserved-then-not-is_owner : goal.arcs-preserved-then-not-is_owner
arcs-preserved-then-not-is_owner c = grind (arith, common_steps)

pub arcs-preserved : goal.arcs-preserved
arcs-preserved c =
    one_more (piece_made c.args.tidy c.args.next c.args.hashing c.args.view.now c.args.silo.now c.args.pieces.now.entries)
    (λ arc. is_owner c.args.silo.now arc.to)
    (made_range c.args.tidy c.args.next c.args.hashing c.args.view.now c.args.silo.now c.args.pieces.now.entries) c.args.arcs.now
    c.requires.arcs c.arcs.arc-index c.arc-item.result c.arcs-test.true c.arc-item.is
    (sym c.is_owner.ensures ∙ c.if-not-is_owner.false) c.arcs.made.entries c.arcs.invariant c.in_ok-piece.piece c.in_ok-piece.ensures
    c.put.new.pieces.entries c.in_ok-put.ensures
