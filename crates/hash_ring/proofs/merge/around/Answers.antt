use Rattle.std.proofs.Common.{◌+◌, ◌-◌, List, length, take, drop, sym, subst, arith}
use Rattle.std.proofs.lemmas.List.{length-drop, take_all}
use Rattle.hash_ring.specs.declared.point.Point.{Point}
use Rattle.hash_ring.specs.Merge.{IsPutBetween}
use Rattle.hash_ring.proofs.Merges.{around_found, around_missing}
use Rattle.hash_ring.proofs.merge.around.Goals as goal

pub returns-in-Ok-clause-between : goal.returns-in-Ok-clause-between
returns-in-Ok-clause-between c =
    subst (λ (after : List Point). IsPutBetween c.args.points.now c.args.point.now (take c.in-Ok.at c.args.points.now) after)
    (sym (take_all (length c.args.points.now - (c.in-Ok.at + 1)) (drop (c.in-Ok.at + 1) c.args.points.now)
    (let left = length-drop (c.in-Ok.at + 1) c.args.points.now in omega arith)))
    (around_found c.args.points.now c.args.point.now c.in-Ok.at c.requires.in_order c.in-Ok.ensures.bound c.in-Ok.ensures.ok)

pub returns-in-Err-clause-between : goal.returns-in-Err-clause-between
returns-in-Err-clause-between c =
    subst (λ (before : List Point). IsPutBetween c.args.points.now c.args.point.now before c.split_at.result.1.now)
    (sym c.split_at.ensures.front)
    (subst (λ (after : List Point). IsPutBetween c.args.points.now c.args.point.now (take c.in-Err.at c.args.points.now) after)
    (sym c.split_at.ensures.back)
    (around_missing c.args.points.now c.args.point.now c.in-Err.at c.requires.in_order c.in-Err.ensures.bound c.in-Err.ensures.position))
