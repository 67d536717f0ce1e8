-- A command done by the code, in the rule's words.
use Rattle.std.specs.Prelude.{◌≡◌, ℕ, ◌+◌, ◌-◌, ◌++◌, Bool, true, false, List, map}
use Rattle.std.specs.List.{range_with_len}
use Rattle.directory_rules.specs.Event.{Event, See}
use Rattle.directory_rules.specs.State.{World}
use Rattle.directory_rules.specs.Happens.{happens}
use Rattle.script_rules.specs.Output.{Session, Performed, after_event, deliver_next, events_in_turn}
use Rattle.texts.specs.Printed.{text_of_lines}
use Rattle.directory_rules.specs.Happens.{least_deliverable}
use Rattle.console_command.specs.declared.sync.Unseen.{Unseen}

-- a script on its way, in which no check has printed a fault
abbrev pub in_session : World → Session
in_session world = record { world = world; faulted = false }

-- what the rule's command prints stands behind what was written before, and its world is the one after
pub record Performs (performed : Performed) (before : List ℕ) (world : World) (after : List ℕ) : Type 0 where
  pub session : performed.session ≡ in_session world
  pub lines : after ≡ before ++ text_of_lines performed.lines

-- a turn: one event that happens before whatever is performed next, as the rule has it. Where the event is accepted, all that
-- is next comes behind its line; where it is refused, or there is none, nothing comes next.
abbrev pub TakesTurn : ((Session → Performed) → Performed) → (before : List ℕ) → (new : World) → (after : List ℕ) → (accepted : Bool) → Type 0
TakesTurn rule before new after true =
    (next : Session → Performed) (last : World) (text : List ℕ) → Performs (next (in_session new)) after last text → Performs (rule next) before last text
TakesTurn rule before new after false = (next : Session → Performed) → Performs (rule next) before new after

-- the turn of an event
abbrev pub event_turn : World → Event → (Session → Performed) → Performed
event_turn world event next = after_event (happens world event) (in_session world) next

-- the turn of the least letter that may be delivered
abbrev pub delivery_turn : World → (Session → Performed) → Performed
delivery_turn world next = deliver_next (least_deliverable world) (in_session world) next

-- the turns of events, one after the other, that happen before more of them: where all are accepted, those come behind their
-- lines; where one is refused, nothing comes next
abbrev pub TakeTurns : List Event → World → (before : List ℕ) → (new : World) → (after : List ℕ) → (accepted : Bool) → Type 0
TakeTurns events world before new after true =
    (more : List Event) (last : World) (text : List ℕ) → Performs (events_in_turn more (in_session new)) after last text → Performs (events_in_turn (events ++ more) (in_session world)) before last text
TakeTurns events world before new after false = (more : List Event) → Performs (events_in_turn (events ++ more) (in_session world)) before new after

-- the sights of a silo, from behind the version that it has seen up to the current one
abbrev pub sights : (current : ℕ) → Unseen → List Event
sights current unseen = map (See unseen.silo) (range_with_len (unseen.after + 1) (current - unseen.after))
