use Rattle.std.proofs.Common.{List, map, refl, ◌∙◌, ap, subst, take_all}
use Rattle.directory_rules.specs.declared.Event.{Event}
use Rattle.directory_rules.specs.EventModel.{event_of}
use Rattle.directory_rules.specs.Happens.{happens}
use Rattle.directory_rules.specs.Run.{run, told_of}
use Rattle.directory_core.specs.PlainSteps.{AllMovePlainly}
use Rattle.directory_core.proofs.Runs.{further_plainly, further_told, further_world, none_plainly, none_told, none_world, on_err, stopped_at}
use Rattle.directory_core.proofs.world.World.run.Goals as goal

pub loop-event-init : goal.loop-event-init
loop-event-init c =
    record {
      world = none_world c.args.self.now;
      told = c.new-told.ensures.items
          ∙ none_told c.args.self.now;
      plain = none_plainly c.args.self.now;
    }

pub loop-event-preserved : goal.loop-event-preserved
loop-event-preserved c = record {
  world =
      further_world c.args.self.now c.loop-event.self c.tell_next.new.self c.args.events.now c.loop-event.event-index c.event-item.result
      c.loop-event-test.true c.event-item.is
      c.loop-event.invariant.world c.in_ok-tell_next.ensures.world;
  told = c.in_ok-tell_next.ensures.told
      ∙ further_told c.args.self.now c.loop-event.self c.args.events.now c.loop-event.event-index c.event-item.result
      c.loop-event.told.items (told_of (happens c.loop-event.self (event_of c.event-item.result)))
      c.loop-event-test.true c.event-item.is c.loop-event.invariant.world c.loop-event.invariant.told refl;
  plain =
      further_plainly c.args.self.now c.loop-event.self c.args.events.now c.loop-event.event-index c.event-item.result
      c.loop-event-test.true c.event-item.is
      c.loop-event.invariant.world c.loop-event.invariant.plain c.tell_next.ensures.plain;
}

pub returns-in_err-tell_next-clause-stopped : goal.returns-in_err-tell_next-clause-stopped
returns-in_err-tell_next-clause-stopped c =
    on_err c.from_residual.result
    (stopped_at c.args.self.now c.loop-event.self c.tell_next.new.self c.args.events.now c.loop-event.event-index c.event-item.result
    c.loop-event-test.true c.event-item.is
    c.loop-event.invariant.world c.loop-event.invariant.plain c.tell_next.ensures.plain c.in_err-tell_next.ensures.stopped)

pub returns-clause-world : goal.returns-clause-world
returns-clause-world c =
    c.loop-event.invariant.world ∙ ap (λ (l : List Event). (run c.args.self.now (map event_of l)).world)
    (take_all c.loop-event.event-index c.args.events.now c.loop-event-test.false)

pub returns-clause-told : goal.returns-clause-told
returns-clause-told c =
    c.loop-event.invariant.told ∙ ap (λ (l : List Event). (run c.args.self.now (map event_of l)).told)
    (take_all c.loop-event.event-index c.args.events.now c.loop-event-test.false)

pub returns-clause-plain : goal.returns-clause-plain
returns-clause-plain c =
    subst (λ (l : List Event). AllMovePlainly c.args.self.now (map event_of l))
    (take_all c.loop-event.event-index c.args.events.now c.loop-event-test.false) c.loop-event.invariant.plain
