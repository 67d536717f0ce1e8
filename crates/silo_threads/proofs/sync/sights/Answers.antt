use Rattle.std.proofs.Common.{◌++◌, List, map, ap, sym, ◌∙◌, append_assoc, append-nil}
use Rattle.std.specs.Prelude.{flat_map}
use Rattle.silo_address.specs.Silo.{Silo}
use Rattle.directory_rules.specs.Event as rule
use Rattle.directory_rules.specs.Event.{See}
use Rattle.directory_rules.specs.EventModel.{event_of}
use Rattle.directory_rules.specs.State.{Node}
use Rattle.script_rules.specs.Output.{unseen_versions}
use Rattle.silo_threads.proofs.sync.sights.Goals as goal

pub loop-silo-preserved : goal.loop-silo-preserved
loop-silo-preserved c =
    let world = c.args.world.now in
    let events = λ (e : Silo × Node). map (See e.0) (unseen_versions world e.0 e.1) in
    let listed = map event_of c.loop-silo.events.items in
    let left = c.next.new.self in
    let its = events (c.in-Some.silo.now, c.in-Some.node.now) in
    ap (λ (es : List rule.Event). es ++ flat_map events left) c.in_ok-see_up_to.ensures
    ∙ (append_assoc listed its (flat_map events left)
    ∙ (ap (λ (nodes : List (Silo × Node)). listed ++ flat_map events nodes) (sym c.in-Some.ensures.steps) ∙ c.loop-silo.invariant))

pub returns : goal.returns
returns c =
    let world = c.args.world.now in
    let events = λ (e : Silo × Node). map (See e.0) (unseen_versions world e.0 e.1) in
    let listed = map event_of c.loop-silo.events.items in
    sym (append-nil listed) ∙ (ap (λ (nodes : List (Silo × Node)). listed ++ flat_map events nodes) (sym c.in-None.ensures.steps.0)
    ∙ c.loop-silo.invariant)
