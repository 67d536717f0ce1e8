-- A fact that new nodes have and that every step keeps holds of each node of every world that a run reaches; also where it
-- rests on a fact of the places that silos get.
use Rattle.std.proofs.Common.{◌≡◌, refl, sym, subst, ℕ, List, [], ◌∷◌}
use Rattle.std.specs.Prelude.{⊤, Bool, true, false, cond, not, is_some, All, Option, Some, None, Result, Ok, Err, IfOk, IfSome}
use Rattle.std.specs.Map.{lookup, values_of}
use Rattle.std.specs.BTreeMap.{is_at}
use Rattle.std.proofs.lemmas.List.Elements.{All-nil, All-head, All-tail}
use Rattle.std.proofs.lemmas.Map.Views.{IfSome-lookup_from_All, All-values-insert_entry, All-map-remove_entry}
use Rattle.silo_address.specs.Silo.{Silo, silo_cmp}
use Rattle.membership_view.specs.Changes.{occupant}
use Rattle.hash_ring.specs.Places.{PlacesValue, after_add}
use Rattle.directory_rules.specs.Settings.{Settings}
use Rattle.directory_rules.specs.Membership as membership
use Rattle.directory_rules.specs.Membership.{Die, is_seeable}
use Rattle.directory_rules.specs.State.{Letter, Node, World, Accepted}
use Rattle.directory_rules.specs.Node.{new_node}
use Rattle.directory_rules.specs.Event.{Event, Join, Leave, Kill, See, Do, Deliver, Lose}
use Rattle.directory_rules.specs.declared.outcome.Happening.{Happening}
use Rattle.directory_rules.specs.Step.{Stepped}
use Rattle.directory_rules.specs.Input.{Input, Sees, Does, Receives, sight_of, step}
use Rattle.directory_rules.specs.World.{first_world, membership_of}
use Rattle.directory_rules.specs.Mail.{letter_of, has_room_for, with_delivered}
use Rattle.directory_rules.specs.Happens as rule
use Rattle.directory_rules.specs.Run.{run, run_from_start, world_after}
use Rattle.directory_rules.proofs.Decided.{decided, join_makes, leave_makes, death_makes}

-- the places that an input brings are so: a sight brings those of all silos, and nothing else brings any
abbrev pub Brings : (PlacesValue → Type 0) → Input → Type 0
Brings P (Sees before view places) = P places
Brings P (Does step) = ⊤
Brings P (Receives letter) = ⊤

-- by events that are so the places stay so; new nodes have the fact, and steps that bring such places keep it
pub record StepsKeepBy (E : Event → Type 0) (P : PlacesValue → Type 0) (Q : Node → Type 0) : Type 0 where
  pub adding : (places : PlacesValue) (silo : Silo) (given : List ℕ) (next : PlacesValue) → E (Join silo given) → P places
      → after_add places silo given ≡ Ok next → P next
  pub new : (settings : Settings) (silo : Silo) → Q (new_node settings silo)
  pub stepping : (node : Node) (input : Input) (stepped : Stepped) → Brings P input → Q node → step node input ≡ Ok stepped → Q stepped.node

-- the places are so, and each node has the fact
pub record Each (P : PlacesValue → Type 0) (Q : Node → Type 0) (world : World) : Type 0 where
  pub places : P world.places
  pub nodes : All Q (values_of world.nodes)

abbrev After : (PlacesValue → Type 0) → (Node → Type 0) → Result Accepted ℕ → Type 0
After P Q result = IfOk result (λ accepted. Each P Q accepted.world)

-- the node that a silo has is one of them
pub of_found : (Q : Node → Type 0) (test : Silo → Bool) (nodes : List (Silo × Node)) (node : Node) → All Q (values_of nodes)
    → lookup test nodes ≡ Some node → Q node
of_found Q test nodes node all found = subst (λ o. IfSome o Q) found (IfSome-lookup_from_All Q test nodes all)

unless : (P : PlacesValue → Type 0) (Q : Node → Type 0) (b : Bool) (number : ℕ) (result : Result Accepted ℕ) → After P Q result
    → After P Q (cond (not b) (Err number) result)
unless P Q true number result then = then
unless P Q false number result then = tt

when : (P : PlacesValue → Type 0) (Q : Node → Type 0) (b : Bool) (number : ℕ) (result : Result Accepted ℕ) → After P Q result
    → After P Q (cond b result (Err number))
when P Q true number result then = then
when P Q false number result then = tt

taken : (P : PlacesValue → Type 0) (Q : Node → Type 0) (world : World) (silo : Silo) (happening : Happening) (stepped : Stepped)
    → Each P Q world → Q stepped.node → After P Q (rule.taken world silo happening stepped)
taken P Q world silo happening stepped each new =
    unless P Q (has_room_for world stepped.letters) 909 _
    (record { places = each.places; nodes = All-values-insert_entry silo_cmp silo stepped.node Q world.nodes each.nodes new })

done_by : (E : Event → Type 0) (P : PlacesValue → Type 0) (Q : Node → Type 0) (k : StepsKeepBy E P Q) (node : Node) (input : Input)
    (result : Result Stepped ℕ) (world : World) (silo : Silo) → Each P Q world → Brings P input → Q node → step node input ≡ result
    → After P Q (rule.done_by result world silo)
done_by E P Q k node input (Err number) world silo each brings has is = tt
done_by E P Q k node input (Ok stepped) world silo each brings has is =
    taken P Q world silo _ stepped each (k.stepping node input stepped brings has is)

does_at : (E : Event → Type 0) (P : PlacesValue → Type 0) (Q : Node → Type 0) (k : StepsKeepBy E P Q) (node : Option Node) (world : World)
    (silo : Silo) (input : Input) → Each P Q world → Brings P input → rule.node_of world silo ≡ node
    → After P Q (rule.does_at node world silo input)
does_at E P Q k None world silo input each brings there = tt
does_at E P Q k (Some node) world silo input each brings there =
    done_by E P Q k node input (step node input) world silo each brings
    (of_found Q (is_at (silo_cmp silo)) world.nodes node each.nodes there) refl

does : (E : Event → Type 0) (P : PlacesValue → Type 0) (Q : Node → Type 0) (k : StepsKeepBy E P Q) (world : World) (silo : Silo)
    (input : Input) → Each P Q world → Brings P input → After P Q (rule.does world silo input)
does E P Q k world silo input each brings = does_at E P Q k (rule.node_of world silo) world silo input each brings refl

seen_by : (E : Event → Type 0) (P : PlacesValue → Type 0) (Q : Node → Type 0) (k : StepsKeepBy E P Q) (node : Node) (input : Input)
    (result : Result Stepped ℕ) (world : World) (silo : Silo) (version : ℕ) → Each P Q world → Brings P input → Q node
    → step node input ≡ result → After P Q (rule.seen_by result world silo version)
seen_by E P Q k node input (Err number) world silo version each brings has is = tt
seen_by E P Q k node input (Ok stepped) world silo version each brings has is =
    taken P Q world silo _ stepped each (k.stepping node input stepped brings has is)

sees_at : (E : Event → Type 0) (P : PlacesValue → Type 0) (Q : Node → Type 0) (k : StepsKeepBy E P Q) (node : Option Node) (world : World)
    (silo : Silo) (version : ℕ) → Each P Q world → rule.node_of world silo ≡ node → After P Q (rule.sees_at node world silo version)
sees_at E P Q k None world silo version each there = tt
sees_at E P Q k (Some node) world silo version each there =
    unless P Q _ 903 _ (unless P Q (is_seeable (membership_of world) silo version) 904 _
    (seen_by E P Q k node (sight_of (membership_of world) version) (step node (sight_of (membership_of world) version)) world silo version
    each each.places (of_found Q (is_at (silo_cmp silo)) world.nodes node each.nodes there) refl))

-- the nodes without that of the silo that is replaced
replaced : (Q : Node → Type 0) (world : World) (old : Option Silo) → All Q (values_of world.nodes)
    → All Q (values_of (rule.without_replaced world old).nodes)
replaced Q world None all = all
replaced Q world (Some old) all = All-map-remove_entry (is_at (silo_cmp old)) (λ e. e.1) Q world.nodes all

-- a join: the places of the silo are added, and its node is new
joins : (E : Event → Type 0) (P : PlacesValue → Type 0) (Q : Node → Type 0) (k : StepsKeepBy E P Q) (world : World) (silo : Silo)
    (given : List ℕ) → E (Join silo given) → Each P Q world → After P Q (rule.decides world (membership.Join silo given))
joins E P Q k world silo given so each = decided (After P Q) world (membership.Join silo given) (λ number. tt) (λ m is.
    record {
      places =
          k.adding world.places silo given m.places so each.places (join_makes world.settings (membership_of world) m silo given is).added;
      nodes =
          All-values-insert_entry silo_cmp silo (new_node world.settings silo) Q
          (rule.without_replaced world (occupant silo world.views.rows)).nodes
          (replaced Q world (occupant silo world.views.rows) each.nodes) (k.new world.settings silo);
    })

leaves : (P : PlacesValue → Type 0) (Q : Node → Type 0) (world : World) (silo : Silo) → Each P Q world
    → After P Q (rule.decides world (membership.Leave silo))
leaves P Q world silo each = decided (After P Q) world (membership.Leave silo) (λ number. tt) (λ m is.
    record { places = subst P (sym (leave_makes world.settings (membership_of world) m silo is).places) each.places; nodes = each.nodes })

dies : (P : PlacesValue → Type 0) (Q : Node → Type 0) (world : World) (silo : Silo) → Each P Q world
    → After P Q (rule.decides world (Die silo))
dies P Q world silo each = decided (After P Q) world (Die silo) (λ number. tt) (λ m is.
    record {
      places = subst P (sym (death_makes world.settings (membership_of world) m silo is).places) each.places;
      nodes = replaced Q
          world (Some silo) each.nodes;
    })

delivered_by : (E : Event → Type 0) (P : PlacesValue → Type 0) (Q : Node → Type 0) (k : StepsKeepBy E P Q) (node : Node)
    (result : Result Stepped ℕ) (world : World) (number : ℕ) (letter : Letter) → Each P Q world → Q node
    → step node (Receives letter) ≡ result → After P Q (rule.delivered_by result world number letter)
delivered_by E P Q k node (Err refusal) world number letter each has is = tt
delivered_by E P Q k node (Ok stepped) world number letter each has is =
    taken P Q (with_delivered world number letter) letter.to _ stepped (record { places = each.places; nodes = each.nodes })
    (k.stepping node (Receives letter) stepped tt has is)

delivers_to : (E : Event → Type 0) (P : PlacesValue → Type 0) (Q : Node → Type 0) (k : StepsKeepBy E P Q) (node : Option Node)
    (world : World) (number : ℕ) (letter : Letter) → Each P Q world → rule.node_of world letter.to ≡ node
    → After P Q (rule.delivers_to node world number letter)
delivers_to E P Q k None world number letter each there = tt
delivers_to E P Q k (Some node) world number letter each there =
    delivered_by E P Q k node (step node (Receives letter)) world number letter each
    (of_found Q (is_at (silo_cmp letter.to)) world.nodes node each.nodes there) refl

delivers : (E : Event → Type 0) (P : PlacesValue → Type 0) (Q : Node → Type 0) (k : StepsKeepBy E P Q) (letter : Option Letter)
    (world : World) (number : ℕ) → Each P Q world → After P Q (rule.delivers letter world number)
delivers E P Q k None world number each = tt
delivers E P Q k (Some letter) world number each = delivers_to E P Q k (rule.node_of world letter.to) world number letter each refl

attempted : (E : Event → Type 0) (P : PlacesValue → Type 0) (Q : Node → Type 0) (k : StepsKeepBy E P Q) (world : World) (event : Event)
    → E event → Each P Q world → After P Q (rule.attempted world event)
attempted E P Q k world (Join silo places) so each = joins E P Q k world silo places so each
attempted E P Q k world (Leave silo) so each = leaves P Q world silo each
attempted E P Q k world (Kill silo) so each = dies P Q world silo each
attempted E P Q k world (See silo version) so each = sees_at E P Q k (rule.node_of world silo) world silo version each refl
attempted E P Q k world (Do silo step) so each = does E P Q k world silo (Does step) each tt
attempted E P Q k world (Deliver number) so each = delivers E P Q k (letter_of world number) world number each
attempted E P Q k world (Lose number) so each =
    when P Q (is_some (letter_of world number)) 905 _ (record { places = each.places; nodes = each.nodes })

happened : (E : Event → Type 0) (P : PlacesValue → Type 0) (Q : Node → Type 0) (k : StepsKeepBy E P Q) (world : World) (event : Event)
    → E event → Each P Q world → After P Q (rule.happens world event)
unfolding rule.happens
happened E P Q k world event so each = when P Q _ 908 (rule.attempted world event) (attempted E P Q k world event so each)

world_kept : (P : PlacesValue → Type 0) (Q : Node → Type 0) (result : Result Accepted ℕ) (world : World) → After P Q result → Each P Q world
    → Each P Q (world_after result world)
world_kept P Q (Ok accepted) world after each = after
world_kept P Q (Err number) world after each = each

run_each : (E : Event → Type 0) (P : PlacesValue → Type 0) (Q : Node → Type 0) (k : StepsKeepBy E P Q) (world : World) (events : List Event)
    → All E events → Each P Q world → Each P Q (run world events).world
unfolding run
run_each E P Q k world [] so each = each
run_each E P Q k world (event ∷ events) so each =
    run_each E P Q k (world_after (rule.happens world event) world) events (All-tail E event events so)
    (world_kept P Q (rule.happens world event) world (happened E P Q k world event (All-head E event events so) each) each)

-- places and nodes after any run of such events
pub each_by : (E : Event → Type 0) (P : PlacesValue → Type 0) (Q : Node → Type 0) → StepsKeepBy E P Q
    → (settings : Settings) (events : List Event) → P (first_world settings).places → All E events
    → Each P Q (run_from_start settings events).world
each_by E P Q k settings events first so = run_each E P Q k (first_world settings) events so (record { places = first; nodes = All-nil Q })

-- new nodes have the fact, and all steps keep it
pub record StepsKeep (Q : Node → Type 0) : Type 0 where
  pub new : (settings : Settings) (silo : Silo) → Q (new_node settings silo)
  pub stepping : (node : Node) (input : Input) (stepped : Stepped) → Q node → step node input ≡ Ok stepped → Q stepped.node

-- then it holds of each node after any run
pub each_after : (Q : Node → Type 0) → StepsKeep Q → (settings : Settings) (events : List Event)
    → All Q (values_of (run_from_start settings events).world.nodes)
each_after Q k settings events =
    (each_by (λ _. ⊤) (λ _. ⊤) Q (record {
      adding = λ places silo given next so kept is. tt;
      new = k.new;
      stepping = λ node input stepped brings. k.stepping node input stepped;
    }) settings events tt (λ at d below. tt)).nodes
