-- In every world that a run reaches a silo has a node just where it is in the current view and isn't Dead there.
use Rattle.std.proofs.Common.{arith, ◌≡◌, refl, ℕ, List, [], ◌∷◌}
use Rattle.std.specs.Prelude.{Bool, true, false, cond, not, is_some, Option, Some, None, Result, Ok, Err, IfOk}
use Rattle.std.specs.BTreeMap.{insert_entry}
use Rattle.silo_address.specs.Silo.{Silo, silo_cmp}
use Rattle.membership_view.specs.Views.{ViewsValue}
use Rattle.membership_view.specs.Changes.{occupant}
use Rattle.texts.proofs.Entries.{sorted-nil}
use Rattle.directory_rules.specs.Settings.{Settings, AreSettings}
use Rattle.directory_rules.specs.Membership as membership
use Rattle.directory_rules.specs.Membership.{Die, is_seeable}
use Rattle.directory_rules.specs.State.{Letter, Node, World, Accepted}
use Rattle.directory_rules.specs.Node.{new_node}
use Rattle.directory_rules.specs.Event.{Event, Join, Leave, Kill, See, Do, Deliver, Lose}
use Rattle.directory_rules.specs.declared.outcome.Happening.{Happening}
use Rattle.directory_rules.specs.Step.{Stepped}
use Rattle.directory_rules.specs.Input.{Input, Does, Receives, sight_of, step}
use Rattle.directory_rules.specs.World.{first_world, membership_of}
use Rattle.directory_rules.specs.Mail.{letter_of, has_room_for, with_delivered}
use Rattle.directory_rules.specs.Happens as rule
use Rattle.directory_rules.specs.Run.{run, run_from_start, world_after}
use Rattle.directory_rules.specs.Laws.{ArePeopled}
use Rattle.directory_rules.proofs.Decided.{decided, join_makes, leave_makes, death_makes}
use Rattle.directory_rules.proofs.People.{peopled_put, peopled_leave, peopled_death, peopled_join, without}

abbrev Peopled : World → Type 0
Peopled world = ArePeopled world.views world.nodes

abbrev After : Result Accepted ℕ → Type 0
After result = IfOk result (λ accepted. Peopled accepted.world)

unless : (b : Bool) (number : ℕ) (result : Result Accepted ℕ) → After result → After (cond (not b) (Err number) result)
unless true number result then = then
unless false number result then = tt

when : (b : Bool) (number : ℕ) (result : Result Accepted ℕ) → After result → After (cond b result (Err number))
when true number result then = then
when false number result then = tt

taken : (world : World) (silo : Silo) (happening : Happening) (stepped : Stepped) (old : Node) → Peopled world
    → rule.node_of world silo ≡ Some old → After (rule.taken world silo happening stepped)
taken world silo happening stepped old are there =
    unless (has_room_for world stepped.letters) 909 _ (peopled_put world.views world.nodes silo old stepped.node are there)

done_by : (result : Result Stepped ℕ) (world : World) (silo : Silo) (old : Node) → Peopled world → rule.node_of world silo ≡ Some old
    → After (rule.done_by result world silo)
done_by (Err number) world silo old are there = tt
done_by (Ok stepped) world silo old are there = taken world silo _ stepped old are there

does_at : (node : Option Node) (world : World) (silo : Silo) (input : Input) → Peopled world → rule.node_of world silo ≡ node
    → After (rule.does_at node world silo input)
does_at None world silo input are there = tt
does_at (Some node) world silo input are there = done_by (step node input) world silo node are there

does : (world : World) (silo : Silo) (input : Input) → Peopled world → After (rule.does world silo input)
does world silo input are = does_at (rule.node_of world silo) world silo input are refl

seen_by : (result : Result Stepped ℕ) (world : World) (silo : Silo) (version : ℕ) (old : Node) → Peopled world
    → rule.node_of world silo ≡ Some old → After (rule.seen_by result world silo version)
seen_by (Err number) world silo version old are there = tt
seen_by (Ok stepped) world silo version old are there = taken world silo _ stepped old are there

sees_at : (node : Option Node) (world : World) (silo : Silo) (version : ℕ) → Peopled world → rule.node_of world silo ≡ node
    → After (rule.sees_at node world silo version)
sees_at None world silo version are there = tt
sees_at (Some node) world silo version are there =
    unless _ 903 _ (unless (is_seeable (membership_of world) silo version) 904 _
    (seen_by (step node (sight_of (membership_of world) version)) world silo version node are there))

joining : (dead : Option Silo) (world : World) (silo : Silo) (views : ViewsValue) (node : Node)
    → ArePeopled views (insert_entry silo_cmp (without dead world.nodes) silo node)
    → ArePeopled views (rule.with_node (rule.without_replaced world dead) silo node).nodes
joining None world silo views node are = are
joining (Some old) world silo views node are = are

joins : (world : World) (silo : Silo) (places : List ℕ) → Peopled world → After (rule.decides world (membership.Join silo places))
joins world silo places are = decided After world (membership.Join silo places) (λ number. tt) (λ m is.
    let dead = occupant silo world.views.rows in
    joining dead world silo m.views (new_node world.settings silo)
    (peopled_join world.views m.views world.nodes silo (new_node world.settings silo) are
    (join_makes world.settings (membership_of world) m silo places is).viewed))

leaves : (world : World) (silo : Silo) → Peopled world → After (rule.decides world (membership.Leave silo))
leaves world silo are = decided After world (membership.Leave silo) (λ number. tt) (λ m is.
    peopled_leave world.views m.views world.nodes silo are (leave_makes world.settings (membership_of world) m silo is).viewed)

dies : (world : World) (silo : Silo) → Peopled world → After (rule.decides world (Die silo))
dies world silo are = decided After world (Die silo) (λ number. tt) (λ m is.
    peopled_death world.views m.views world.nodes silo are (death_makes world.settings (membership_of world) m silo is).viewed)

delivered_by : (result : Result Stepped ℕ) (world : World) (number : ℕ) (letter : Letter) (old : Node) → Peopled world
    → rule.node_of world letter.to ≡ Some old → After (rule.delivered_by result world number letter)
delivered_by (Err refusal) world number letter old are there = tt
delivered_by (Ok stepped) world number letter old are there = taken (with_delivered world number letter) letter.to _ stepped old are there

delivers_to : (node : Option Node) (world : World) (number : ℕ) (letter : Letter) → Peopled world → rule.node_of world letter.to ≡ node
    → After (rule.delivers_to node world number letter)
delivers_to None world number letter are there = tt
delivers_to (Some node) world number letter are there = delivered_by (step node (Receives letter)) world number letter node are there

delivers : (letter : Option Letter) (world : World) (number : ℕ) → Peopled world → After (rule.delivers letter world number)
delivers None world number are = tt
delivers (Some letter) world number are = delivers_to (rule.node_of world letter.to) world number letter are refl

attempted : (world : World) (event : Event) → Peopled world → After (rule.attempted world event)
attempted world (Join silo places) are = joins world silo places are
attempted world (Leave silo) are = leaves world silo are
attempted world (Kill silo) are = dies world silo are
attempted world (See silo version) are = sees_at (rule.node_of world silo) world silo version are refl
attempted world (Do silo step) are = does world silo (Does step) are
attempted world (Deliver number) are = delivers (letter_of world number) world number are
attempted world (Lose number) are = when (is_some (letter_of world number)) 905 _ are

happened : (world : World) (event : Event) → Peopled world → After (rule.happens world event)
unfolding rule.happens
happened world event are = when _ 908 (rule.attempted world event) (attempted world event are)

world_kept : (result : Result Accepted ℕ) (world : World) → After result → Peopled world → Peopled (world_after result world)
world_kept (Ok accepted) world after are = after
world_kept (Err number) world after are = are

run_keeps : (world : World) (events : List Event) → Peopled world → Peopled (run world events).world
unfolding run
run_keeps world [] are = are
run_keeps world (event ∷ events) are =
    run_keeps (world_after (rule.happens world event) world) events
    (world_kept (rule.happens world event) world (happened world event are) are)

-- nobody is there at first
first_peopled : (settings : Settings) → AreSettings settings → Peopled (first_world settings)
first_peopled settings are = record {
  whole = record {
    limit_above = omega (are.silos_above, arith);
    limit_below = are.silos_within;
    first_below = omega arith;
    first_upto = omega arith;
    within_limit = omega arith;
    in_order = sorted-nil silo_cmp;
    in_time = λ silo row found. absurd (cc (found));
    older_dead = λ older newer row next found. absurd (cc (found));
    counted = omega arith;
  };
  by_address = sorted-nil silo_cmp;
  live = λ silo. refl;
}

pub peopled_after : (settings : Settings) (events : List Event) → AreSettings settings
    → ArePeopled (run_from_start settings events).world.views (run_from_start settings events).world.nodes
peopled_after settings events are = run_keeps (first_world settings) events (first_peopled settings are)
