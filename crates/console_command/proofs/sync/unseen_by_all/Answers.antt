use Rattle.std.proofs.Common.{◌++◌, List, map, ap, sym, ◌∙◌, append-nil}
use Rattle.std.specs.Prelude.{flat_map}
use Rattle.silo_address.specs.Silo.{Silo}
use Rattle.directory_rules.specs.Event.{See}
use Rattle.directory_rules.specs.State.{Node}
use Rattle.script_rules.specs.Output.{unseen_versions}
use Rattle.console_command.specs.Commands.{sights}
use Rattle.console_command.specs.declared.sync.Unseen.{Unseen}
use Rattle.console_command.proofs.Sights.{one_listed}
use Rattle.console_command.proofs.sync.unseen_by_all.Goals as goal

pub loop-silo-preserved : goal.loop-silo-preserved
loop-silo-preserved c =
    let world = c.args.world.now in
    let current = world.views.version in
    let events = λ (e : Silo × Node). map (See e.0) (unseen_versions world e.0 e.1) in
    let listed = c.loop-silo.silos.items in
    let left = c.next.new.self in
    ap (λ (silos : List Unseen). flat_map (sights current) silos ++ flat_map events left) c.in_ok-push.ensures.items
    ∙ (one_listed current listed c.unseen_by.result (events (c.in-Some.silo.now, c.in-Some.node.now)) (flat_map events left)
    c.unseen_by.ensures
    ∙ (ap (λ (nodes : List (Silo × Node)). flat_map (sights current) listed ++ flat_map events nodes) (sym c.in-Some.ensures.steps)
    ∙ c.loop-silo.invariant))

pub returns : goal.returns
returns c =
    let world = c.args.world.now in
    let events = λ (e : Silo × Node). map (See e.0) (unseen_versions world e.0 e.1) in
    let listed = flat_map (sights world.views.version) c.loop-silo.silos.items in
    sym (append-nil listed) ∙ (ap (λ (nodes : List (Silo × Node)). listed ++ flat_map events nodes) (sym c.in-None.ensures.steps.0)
    ∙ c.loop-silo.invariant)
