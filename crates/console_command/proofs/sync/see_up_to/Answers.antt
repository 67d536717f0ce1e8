use Rattle.std.proofs.Common.{◌+◌, ◌-◌, [], ◌∷◌, map, refl, arith}
use Rattle.std.specs.List.{range_with_len}
use Rattle.directory_rules.specs.Event.{See}
use Rattle.console_command.specs.Commands.{sights}
use Rattle.console_command.proofs.Lines.{begins_with_itself}
use Rattle.console_command.proofs.Sights.{all_went, goes_from_start, goes_no_further, goes_on, no_sight_left, one_turn, sights_left, turns_begin}
use Rattle.console_command.proofs.sync.see_up_to.Goals as goal

pub loop-seen-init : goal.loop-seen-init
loop-seen-init c = record {
  goes = goes_from_start (sights c.args.current c.args.unseen.now) c.args.world.now c.args.out.now.items;
  begins = begins_with_itself _ _ refl;
}

pub loop-seen-preserved : goal.loop-seen-preserved
loop-seen-preserved c =
    let silo = c.args.unseen.now.silo in
    let seen = c.loop-seen.seen in
    let current = c.args.current in
    let turns = one_turn _ (See silo (seen + 1)) _ _ _ c.in_ok-take_turn.field-0 c.in_ok-take_turn.ensures.taken in
    record {
      goes =
          goes_on (sights current c.args.unseen.now) c.args.world.now c.args.out.now.items
          (map (See silo) (range_with_len (seen + 1) (current - seen)))
          (See silo (seen + 1) ∷ []) (map (See silo) (range_with_len (seen + 1 + 1) (current - (seen + 1)))) _ _ _ _
          c.in_ok-take_turn.field-0
          c.if-not-branch.false (sights_left silo seen current (omega arith)) c.loop-seen.invariant.goes turns;
      begins = turns_begin (See silo (seen + 1) ∷ []) _ _ _ _ _ c.in_ok-take_turn.field-0 c.loop-seen.invariant.begins turns;
    }

pub returns-then-not-branch-clause-taken : goal.returns-then-not-branch-clause-taken
returns-then-not-branch-clause-taken c =
    let silo = c.args.unseen.now.silo in
    let seen = c.loop-seen.seen in
    let current = c.args.current in
    goes_no_further (sights current c.args.unseen.now) c.args.world.now c.args.out.now.items
    (map (See silo) (range_with_len (seen + 1) (current - seen)))
    (See silo (seen + 1) ∷ []) (map (See silo) (range_with_len (seen + 1 + 1) (current - (seen + 1)))) _ _ _ _ c.in_ok-take_turn.field-0
    c.if-not-branch.true (sights_left silo seen current (omega arith)) c.loop-seen.invariant.goes
    (one_turn _ (See silo (seen + 1)) _ _ _ c.in_ok-take_turn.field-0 c.in_ok-take_turn.ensures.taken)

pub returns-clause-taken : goal.returns-clause-taken
returns-clause-taken c =
    let silo = c.args.unseen.now.silo in
    let seen = c.loop-seen.seen in
    let current = c.args.current in
    all_went (sights current c.args.unseen.now) c.args.world.now c.args.out.now.items
    (map (See silo) (range_with_len (seen + 1) (current - seen))) _ _
    (no_sight_left silo seen current (omega arith)) c.loop-seen.invariant.goes
