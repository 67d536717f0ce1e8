-- Rounds in which letters come in any order.
use Rattle.std.specs.Prelude.{◌≡◌, ℕ, ◌≤◌, ◌-◌, ◌&&◌, Bool, false, if◌then◌else◌, List, [], ◌∷◌, All, length, filter, Option, Some, None, Result, Ok, Err}
use Rattle.std.specs.Ordering.{nat_cmp}
use Rattle.std.specs.Map.{lookup}
use Rattle.std.specs.BTreeMap.{is_at}
use Rattle.silo_address.specs.Silo.{Silo}
use Rattle.directory_rules.specs.declared.act.Act.{Act}
use Rattle.directory_rules.specs.Settings.{Settings, AreSettings}
use Rattle.directory_rules.specs.Answer.{is_numbered}
use Rattle.directory_rules.specs.Host.{outstanding}
use Rattle.directory_rules.specs.State.{Node, World, Posted}
use Rattle.directory_rules.specs.Sent.{hash_of, owner_by}
use Rattle.directory_rules.specs.Sight.{is_owner}
use Rattle.directory_rules.specs.Event.{Event, Deliver, IsEvent}
use Rattle.directory_rules.specs.Happens.{happens, node_of, is_deliverable, least_deliverable}
use Rattle.directory_rules.specs.Run.{run_from_start}
use Rattle.directory_facts.specs.Laws.{world_by}
use Rattle.progress_rules.specs.Plan.{then_on, and_then, synced, nudged, round, ended, HasOwners, IsBack, IsBackUnowned}
use Rattle.progress_rules.specs.ComeBack.{HaveSeen, AreSettled}

-- whether that letter may still be delivered
abbrev pub may_come : Option Posted → World → Bool
may_come None world = false
may_come (Some posted) world = is_deliverable world posted

-- The letters of these numbers come in this order, each of them fresh, and then there is none left. 0 is no refusal of the rule's: the
-- list is no such order.
abbrev pub settled_in : List ℕ → World → Result World ℕ
settled_in [] world = ended (least_deliverable world) world
settled_in (number ∷ order) world =
    if may_come (lookup (is_at (nat_cmp number)) world.mail) world then then_on (happens world (Deliver number)) (λ next. settled_in order next) else Err 0

-- a round in that order, and rounds one after the other
abbrev pub round_in : List ℕ → World → Result World ℕ
round_in order world = and_then (nudged world) (λ next. settled_in order next)

abbrev pub rounds_in : List (List ℕ) → World → Result World ℕ
rounds_in [] world = Ok world
rounds_in (order ∷ orders) world = and_then (round_in order world) (λ next. rounds_in orders next)

-- the registrations and deregistrations that the node has outstanding at one owner
abbrev pub is_at_owner : Node → Silo → (ℕ × Act) → Bool
is_at_owner node owner e = is_numbered e.1 && is_owner owner (owner_by node (hash_of node e.1))

abbrev pub asked_of : Node → Silo → ℕ
asked_of node owner = length (filter (is_at_owner node owner) (outstanding node.host))

-- no silo has more of them at one owner
abbrev pub AreAtMost : ℕ → World → Type 0
AreAtMost most world = (silo : Silo) (node : Node) (owner : Silo) → node_of world silo ≡ Some node → asked_of node owner ≤ most

-- Once each live silo has seen the current view and a round is over, in whatever order its letters came, as many rounds are enough as a
-- silo has registrations and deregistrations at one owner, and one where there is none.
abbrev pub ComesBackInAnyOrder : Type 0
ComesBackInAnyOrder = (settings : Settings) (events : List Event) (first : List ℕ) (orders : List (List ℕ)) (settled after : World) → AreSettings settings → All IsEvent events
    → and_then (synced (run_from_start settings events).world) (λ world. round_in first world) ≡ Ok settled → AreAtMost (length orders) settled → 1 ≤ length orders
    → rounds_in orders settled ≡ Ok after → HasOwners after → IsBack after

-- Already after the first of these rounds each piece of each live silo is settled.
abbrev pub PiecesComeBackInAnyOrder : Type 0
PiecesComeBackInAnyOrder = (settings : Settings) (events : List Event) (order : List ℕ) (after : World) → AreSettings settings → All IsEvent events
    → and_then (synced (run_from_start settings events).world) (λ world. round_in order world) ≡ Ok after → AreSettled after

-- And all but the requests stays so after however many more, also where nobody owns the circle.
abbrev pub ComesBackInAnyOrderUnowned : Type 0
ComesBackInAnyOrderUnowned = (settings : Settings) (events : List Event) (first : List ℕ) (orders : List (List ℕ)) (after : World) → AreSettings settings → All IsEvent events
    → and_then (synced (run_from_start settings events).world) (λ world. rounds_in (first ∷ orders) world) ≡ Ok after → IsBackUnowned after

-- Where all have seen the current view and settled all that they own, and no letter is to come, a round in any order ends each find, and of
-- the registrations and deregistrations that a silo has outstanding at one owner at least one.
abbrev pub RoundsServe : Type 0
RoundsServe = (settings : Settings) (events : List Event) (order : List ℕ) (after : World) → AreSettings settings → All IsEvent events
    → HaveSeen (world_by settings events) → AreSettled (world_by settings events) → least_deliverable (world_by settings events) ≡ None
    → round_in order (world_by settings events) ≡ Ok after → HasOwners after
    → (silo : Silo) (before node : Node) → node_of (world_by settings events) silo ≡ Some before → node_of after silo ≡ Some node
    → (node.host.finds ≡ []) × ((owner : Silo) → asked_of node owner ≤ asked_of before owner - 1)

-- Least first is one of these orders.
abbrev pub LeastFirstIsAnOrder : Type 0
LeastFirstIsAnOrder = (settings : Settings) (events : List Event) (after : World) → round (world_by settings events) ≡ Ok after
    → (order : List ℕ) × (round_in order (world_by settings events) ≡ Ok after)
