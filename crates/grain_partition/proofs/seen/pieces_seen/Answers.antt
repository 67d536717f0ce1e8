use Rattle.std.proofs.Common.{◌≡◌, [], ◌++◌, drop, append-nil, sym, ap, subst, ◌∙◌}
use Rattle.std.proofs.lemmas.List.{drop_all}
use Rattle.grain_partition.specs.Holdings.{ArePieces}
use Rattle.grain_partition.proofs.Foreseen.{is_owned, piece_seen, same_range, seen_are, seen_keep, told}
use Rattle.grain_partition.proofs.FromArcs.{made}
use Rattle.grain_partition.proofs.Sighted.{one_more}
use Rattle.grain_partition.proofs.seen.pieces_seen.Goals as goal

pub arcs-preserved : goal.arcs-preserved
arcs-preserved c =
    let pieces = c.args.pieces.now.entries in
    one_more (piece_seen c.args.next c.args.hashing c.args.view.now c.args.silo.now pieces)
    (is_owned c.args.next c.args.hashing c.args.view.now c.args.silo.now pieces)
    (same_range c.args.next c.args.hashing c.args.view.now c.args.silo.now pieces) c.args.arcs.now c.requires.arcs c.arcs.arc-index
    c.arc-item.result c.arcs-test.true c.arc-item.is
    (sym c.is_owner.ensures ∙ c.if-not-is_owner.false) c.arcs.seen.entries c.arcs.invariant c.bare.result
    (c.bare.ensures ∙ told c.args.next c.args.hashing c.args.view.now c.args.silo.now pieces c.arc-item.result c.state_of-state.result
    c.state_of-state.ensures)
    c.put.new.pieces.entries c.in_ok-put.ensures

pub returns : goal.returns
returns c =
    let pieces = c.args.pieces.now.entries in
    let f = piece_seen c.args.next c.args.hashing c.args.view.now c.args.silo.now pieces in
    let q = is_owned c.args.next c.args.hashing c.args.view.now c.args.silo.now pieces in
    let end : drop c.arcs.arc-index c.args.arcs.now ≡ [] = drop_all c.arcs.arc-index c.args.arcs.now c.arcs-test.false in
    let all : c.arcs.seen.entries ≡ made f q c.args.arcs.now = sym (append-nil c.arcs.seen.entries) ∙ ap (λ l. c.arcs.seen.entries ++ made f q l) (sym end) ∙ c.arcs.invariant in
    record {
      exact = all ∙ seen_are c.args.next c.args.hashing c.args.view.now c.args.silo.now pieces c.args.arcs.now;
      pieces =
          subst (λ l. ArePieces l) (sym all) (seen_keep c.args.next c.args.hashing c.args.view.now c.args.silo.now pieces c.args.arcs.now
          c.requires.arcs);
    }
