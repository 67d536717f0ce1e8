use Rattle.std.proofs.Common.{◌≡◌, map, take}
use Rattle.directory_rules.specs.EventModel.{event_of}
use Rattle.directory_rules.specs.Run.{run}
use Rattle.directory_core.specs.PlainSteps.{AllMovePlainly}
use Rattle.directory_core.proofs.world.World.run.Given as goal

abbrev pub invariant-loop-event : goal.invariant-loop-event
invariant-loop-event l = record {
  world : l.self ≡ (run l.fn.self (map event_of (take l.event-index l.events))).world;
  told : l.told.items ≡ (run l.fn.self (map event_of (take l.event-index l.events))).told;
  plain : AllMovePlainly l.fn.self (map event_of (take l.event-index l.events));
}
