use Rattle.std.proofs.Common.{◌≡◌, sym, subst, ◌∙◌, []}
use Rattle.node_plans.proofs.Begun.{ArePassed, all_passed, new_recoveries_are, recovers, recovers_one}
use Rattle.node_plans.proofs.beginnings.new_recoveries.Goals as goal

pub loop-start-init : goal.loop-start-init
loop-start-init c =
    let gives : c.into_iter-start-iterator.result ≡ c.args.pieces.now.entries = c.into_iter-start-iterator.ensures.into_iter_gives.0 in
    record {
      passed = [];
      split = sym gives;
      made = c.new-recoveries.ensures.empty;
    }

pub loop-start-preserved : goal.loop-start-preserved
loop-start-preserved c =
    let view = c.args.view.now in
    let pieces = c.args.pieces.now.entries in
    let had = c.loop-start.recoveries.entries in
    let before = subst (λ l. ArePassed (recovers view) pieces l had) c.in-Some.ensures.steps c.loop-start.invariant in
    subst (λ l. ArePassed (recovers view) pieces c.next.new.self l) (sym c.in_ok-put_recovery.ensures)
    (recovers_one view pieces c.next.new.self c.in-Some.start.now c.in-Some.piece.now had c.requires before)

pub returns : goal.returns
returns c =
    let view = c.args.view.now in
    all_passed (recovers view) c.args.pieces.now.entries c.loop-start.start-iterator c.loop-start.recoveries.entries c.loop-start.invariant
    c.in-None.ensures.steps.0
    ∙ sym (new_recoveries_are view c.args.pieces.now.entries)
