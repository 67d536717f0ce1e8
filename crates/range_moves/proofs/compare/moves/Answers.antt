-- The moves are those of the definition, and so what they are said to be.
use Rattle.std.proofs.Common.{◌≡◌, List, sym, subst, rules, tests}
use Rattle.std.proofs.lemmas.Iterator.{items_from_collect, YieldsList-from_slice}
use Rattle.std.proofs.lemmas.Iterator.Consumers.{YieldsList-from_filter_map}
use Rattle.std.proofs.lemmas.Result.{IfOk-weaker}
use Rattle.range_moves.specs.declared.arc.Move.{Move}
use Rattle.range_moves.specs.Arcs.{arcs_of}
use Rattle.range_moves.specs.Moves.{move_of, AreMoves}
use Rattle.range_moves.proofs.MovesOfArcs.{moves_whole}
use Rattle.range_moves.proofs.compare.moves.Goals as goal

pub returns-clause-exact : goal.returns-clause-exact
returns-clause-exact c =
    let walked : c.deref.result.now ≡ arcs_of c.args.old.now.points c.args.new.now.points = cc (c.deref.ensures.value, c.in_ok-arcs.ensures.exact) in
    items_from_collect _ c.collect.ensures.ran (YieldsList-from_filter_map _ move_of
    (YieldsList-from_slice (arcs_of c.args.old.now.points c.args.new.now.points) (cc)) c.filter_map.ensures.closure
    (λ x r q k. search (rules, tests)))

pub returns-clause-whole : goal.returns-clause-whole
returns-clause-whole c =
    IfOk-weaker c.collect.result _ _
    (λ moves exact. subst (λ (moves : List Move). AreMoves c.args.old.now.points c.args.new.now.points moves) (sym exact)
    (moves_whole c.args.old.now.points c.args.new.now.points c.whole.ensures.on_circle c.whole-2.ensures.on_circle))
    (returns-clause-exact c)
