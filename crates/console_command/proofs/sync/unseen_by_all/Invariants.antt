use Rattle.std.proofs.Common.{◌≡◌, ◌++◌, map}
use Rattle.std.specs.Prelude.{flat_map}
use Rattle.directory_rules.specs.Event.{See}
use Rattle.script_rules.specs.Output.{sync_events, unseen_versions}
use Rattle.console_command.specs.Commands.{sights}
use Rattle.console_command.proofs.sync.unseen_by_all.Given as goal

abbrev pub invariant-loop-silo : goal.invariant-loop-silo
invariant-loop-silo l =
    flat_map (sights l.world.views.version) l.silos.items ++ flat_map (λ e. map (See e.0) (unseen_versions l.world e.0 e.1)) l.silo-iterator
    ≡ sync_events l.world
