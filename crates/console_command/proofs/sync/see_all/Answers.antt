use Rattle.std.proofs.Common.{◌+◌, drop, true, false, refl}
use Rattle.std.specs.Prelude.{flat_map}
use Rattle.console_command.specs.Commands.{sights}
use Rattle.script_lines.proofs.Fronts.{begins_with_the_first}
use Rattle.console_command.proofs.Lines.{begins_with_itself}
use Rattle.console_command.proofs.Results.{not_ok, on_err}
use Rattle.console_command.proofs.Sights.{all_went, goes_from_start, goes_no_further, goes_on, no_silo_left, silo_left, turns_alone, turns_begin}
use Rattle.console_command.proofs.sync.see_all.Goals as goal

pub loop-unseen-init : goal.loop-unseen-init
loop-unseen-init c = record {
  goes = goes_from_start (flat_map (sights c.args.current) c.args.silos.now) c.args.world.now c.args.out.now.items;
  begins = begins_with_itself _ _ refl;
}

pub loop-unseen-preserved : goal.loop-unseen-preserved
loop-unseen-preserved c =
    let silos = c.args.silos.now in
    let index = c.loop-unseen.unseen-index in
    let current = c.args.current in
    let unseen = c.unseen-item.result in
    record {
      goes = goes_on (flat_map (sights current) silos) c.args.world.now c.args.out.now.items (flat_map (sights current) (drop index silos))
          (sights current unseen) (flat_map (sights current) (drop (index + 1) silos)) _ _ _ _ c.in_ok-see_up_to.field-0
          c.if-not-branch.false (silo_left current silos index unseen c.loop-unseen-test.true c.unseen-item.is) c.loop-unseen.invariant.goes
          c.in_ok-see_up_to.ensures.taken;
      begins =
          turns_begin (sights current unseen) _ _ _ _ _ c.in_ok-see_up_to.field-0 c.loop-unseen.invariant.begins
          c.in_ok-see_up_to.ensures.taken;
    }

pub returns-then-not-branch-clause-performed : goal.returns-then-not-branch-clause-performed
returns-then-not-branch-clause-performed c =
    let silos = c.args.silos.now in
    let index = c.loop-unseen.unseen-index in
    let current = c.args.current in
    let unseen = c.unseen-item.result in
    turns_alone (flat_map (sights current) silos) _ _ _ _ false
    (goes_no_further (flat_map (sights current) silos) c.args.world.now c.args.out.now.items (flat_map (sights current) (drop index silos))
    (sights current unseen) (flat_map (sights current) (drop (index + 1) silos)) _ _ _ _ c.in_ok-see_up_to.field-0
    c.if-not-branch.true (silo_left current silos index unseen c.loop-unseen-test.true c.unseen-item.is) c.loop-unseen.invariant.goes
    c.in_ok-see_up_to.ensures.taken)

pub returns-clause-performed : goal.returns-clause-performed
returns-clause-performed c =
    let silos = c.args.silos.now in
    let index = c.loop-unseen.unseen-index in
    let current = c.args.current in
    turns_alone (flat_map (sights current) silos) _ _ _ _ true
    (all_went (flat_map (sights current) silos) c.args.world.now c.args.out.now.items (flat_map (sights current) (drop index silos)) _ _
    (no_silo_left current silos index c.loop-unseen-test.false) c.loop-unseen.invariant.goes)

pub returns-in_err-see_up_to-clause-performed : goal.returns-in_err-see_up_to-clause-performed
returns-in_err-see_up_to-clause-performed c = not_ok _ c.from_residual.result c.from_residual.ensures.0

pub returns-in_err-see_up_to-clause-kept : goal.returns-in_err-see_up_to-clause-kept
returns-in_err-see_up_to-clause-kept c =
    on_err c.from_residual.result (begins_with_the_first _ _ _ c.loop-unseen.invariant.begins c.in_err-see_up_to.ensures.kept)

pub returns-then-not-branch-clause-kept : goal.returns-then-not-branch-clause-kept
returns-then-not-branch-clause-kept c = tt

pub returns-clause-kept : goal.returns-clause-kept
returns-clause-kept c = tt
