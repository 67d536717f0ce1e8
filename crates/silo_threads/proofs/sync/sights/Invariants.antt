use Rattle.std.proofs.Common.{◌≡◌, ◌++◌, map}
use Rattle.std.specs.Prelude.{flat_map}
use Rattle.directory_rules.specs.Event.{See}
use Rattle.directory_rules.specs.EventModel.{event_of}
use Rattle.script_rules.specs.Output.{sync_events, unseen_versions}
use Rattle.silo_threads.proofs.sync.sights.Given as goal

-- what is listed, with the sights of the silos that are left, is what a sync asks for
abbrev pub invariant-loop-silo : goal.invariant-loop-silo
invariant-loop-silo l =
    map event_of l.events.items ++ flat_map (λ e. map (See e.0) (unseen_versions l.world e.0 e.1)) l.silo-iterator ≡ sync_events l.world
