-- Every accepted event is one of these ways, each with what its guards say.
use Rattle.std.proofs.Common.{◌≡◌, refl, sym, subst, ℕ, ◌+◌, ◌-◌, List}
use Rattle.std.specs.Prelude.{⊤, Bool, true, false, cond, not, nat_le, nat_lt, is_some, Option, Some, None, Result, Ok, Err, IfOk}
use Rattle.std.proofs.lemmas.Bool.{leb-true}
use Rattle.texts.proofs.Decided.{both}
use Rattle.silo_address.specs.Silo.{Silo}
use Rattle.membership_view.specs.Views.{ViewsValue, view_at}
use Rattle.membership_view.specs.Changes as change
use Rattle.hash_ring.specs.Places.{PlacesValue, after_add}
use Rattle.directory_rules.specs.Membership as membership
use Rattle.directory_rules.specs.Membership.{Die, is_seeable, joined_in}
use Rattle.directory_rules.specs.State.{Letter, Node, World, Accepted}
use Rattle.directory_rules.specs.Letter.{kind_of}
use Rattle.directory_rules.specs.Event.{Event, Join, Leave, Kill, See, Do, Deliver, Lose}
use Rattle.directory_rules.specs.declared.outcome.Happening.{Happening}
use Rattle.directory_rules.specs.declared.outcome.Happening.TheVariants.{Joined, Left, Saw, Did, Delivered, Lost}
use Rattle.directory_rules.specs.Step.{Stepped}
use Rattle.directory_rules.specs.Input.{Input, Sees, Does, Receives, sight_of, step}
use Rattle.directory_rules.specs.World.{membership_of}
use Rattle.directory_rules.specs.Mail.{letter_of, with_sent, has_room_for, span_of, with_delivered, with_lost}
use Rattle.directory_rules.specs.Happens as rule
use Rattle.directory_rules.proofs.Decided.{made, decided, join_makes, leave_is, death_is, died}
use Rattle.directory_facts.proofs.Carried.{IsSight}

-- an input that is the silo's own doing: it brings neither a view nor a letter
abbrev pub IsOwnInput : Input → Type 0
IsOwnInput (Sees before view places) = ⊥
IsOwnInput (Does step) = ⊤
IsOwnInput (Receives letter) = ⊥

-- the step is done: the silo has its new node, and its letters are in the mail
abbrev pub with_step : World → Silo → Stepped → World
with_step world silo stepped = rule.counted (with_sent (rule.with_node world silo stepped.node) stepped.letters)

abbrev pub accepted_step : World → Silo → Happening → Stepped → Accepted
accepted_step world silo happening stepped = record {
  outcome = record { happening = happening; sent = span_of world stepped.letters };
  world = with_step world silo stepped;
}

-- what is to be shown of every way
pub record EventWays (world : World) (P : Accepted → Type 0) : Type 0 where
  pub joins :
      (silo : Silo) (given : List ℕ) (next : ViewsValue) (added : PlacesValue) → change.after_join world.views silo ≡ Ok next
      → after_add world.places silo given ≡ Ok added
      → P (rule.tells (rule.after_joining world silo (change.occupant silo world.views.rows) next added)
      (Joined next.version silo (change.occupant silo world.views.rows)))
  pub leaves :
      (silo : Silo) → change.after world.views (change.Leave silo) ≡ Ok (change.with_leave world.views silo)
      → P (rule.tells (record world { views = change.with_leave world.views silo }) (Left (world.views.version + 1) silo))
  pub dies : (silo : Silo) → change.after world.views (change.Die silo) ≡ Ok (change.with_death world.views silo) → P (died world silo)
  pub sees :
      (silo : Silo) (version : ℕ) (node : Node) (stepped : Stepped) → rule.node_of world silo ≡ Some node
      → IsSight world.views world.places silo (view_at world.views (version - 1)) (view_at world.views version) world.places
      → step node (sight_of (membership_of world) version) ≡ Ok stepped
      → P (accepted_step world silo (Saw silo version stepped.effect) stepped)
  pub does :
      (silo : Silo) (input : Input) (node : Node) (stepped : Stepped) → IsOwnInput input → rule.node_of world silo ≡ Some node
      → step node input ≡ Ok stepped
      → P (accepted_step world silo (Did silo stepped.effect) stepped)
  pub delivers :
      (number : ℕ) (letter : Letter) (node : Node) (stepped : Stepped) → letter_of world number ≡ Some letter
      → rule.node_of world letter.to ≡ Some node
      → step node (Receives letter) ≡ Ok stepped
      → P (accepted_step (with_delivered world number letter) letter.to (Delivered number (kind_of letter.body) stepped.effect) stepped)
  pub loses : (number : ℕ) → P (rule.tells (with_lost world number) (Lost number))

module _ (world : World) (P : Accepted → Type 0) (w : EventWays world P) where
  abbrev Held : Result Accepted ℕ → Type 0
  Held result = IfOk result P

  unless : (b : Bool) (number : ℕ) (result : Result Accepted ℕ) → (b ≡ true → Held result) → Held (cond (not b) (Err number) result)
  unless true number result then = then refl
  unless false number result then = tt

  when : (b : Bool) (number : ℕ) (result : Result Accepted ℕ) → Held result → Held (cond b result (Err number))
  when true number result then = then
  when false number result then = tt

  taken : (its : World) (silo : Silo) (happening : Happening) (stepped : Stepped) → P (accepted_step its silo happening stepped)
      → Held (rule.taken its silo happening stepped)
  taken its silo happening stepped made = unless (has_room_for its stepped.letters) 909 _ (λ room. made)

  done_by : (node : Node) (input : Input) (result : Result Stepped ℕ) (silo : Silo) → IsOwnInput input → rule.node_of world silo ≡ Some node
      → step node input ≡ result → Held (rule.done_by result world silo)
  done_by node input (Err number) silo own there is = tt
  done_by node input (Ok stepped) silo own there is = taken world silo _ stepped (w.does silo input node stepped own there is)

  does_at : (node : Option Node) (silo : Silo) (input : Input) → IsOwnInput input → rule.node_of world silo ≡ node
      → Held (rule.does_at node world silo input)
  does_at None silo input own there = tt
  does_at (Some node) silo input own there = done_by node input (step node input) silo own there refl

  seen_by :
      (node : Node) (result : Result Stepped ℕ) (silo : Silo) (version : ℕ) → rule.node_of world silo ≡ Some node
      → IsSight world.views world.places silo (view_at world.views (version - 1)) (view_at world.views version) world.places
      → step node (sight_of (membership_of world) version) ≡ result → Held (rule.seen_by result world silo version)
  seen_by node (Err number) silo version there sight is = tt
  seen_by node (Ok stepped) silo version there sight is = taken world silo _ stepped (w.sees silo version node stepped there sight is)

  sees_at : (node : Option Node) (silo : Silo) (version : ℕ) → rule.node_of world silo ≡ node → Held (rule.sees_at node world silo version)
  sees_at None silo version there = tt
  sees_at (Some node) silo version there =
      unless (nat_lt node.view.version version) 903 _ (λ newer. unless (is_seeable (membership_of world) silo version) 904 _ (λ seeable.
      let so = both (nat_le version world.views.version) (nat_le (joined_in (membership_of world) silo) version) seeable in
      seen_by node (step node (sight_of (membership_of world) version)) silo version there
      (record {
        version = version;
        within = leb-true version world.views.version so.0;
        joined = leb-true (joined_in (membership_of world) silo) version so.1;
        is_before = refl;
        is_view = refl;
        is_brought = refl;
      }) refl))

  joins : (silo : Silo) (given : List ℕ) → Held (rule.decides world (membership.Join silo given))
  joins silo given = decided Held world (membership.Join silo given) (λ number. tt) (λ m is.
      let makes = join_makes world.settings (membership_of world) m silo given is in
      w.joins silo given m.views m.places makes.viewed makes.added)

  leaves : (silo : Silo) → Held (rule.decides world (membership.Leave silo))
  leaves silo = decided Held world (membership.Leave silo) (λ number. tt) (λ m is.
      let its = leave_is world.settings (membership_of world) m silo is in
      subst (λ m. Held (made world (membership.Leave silo) m)) (sym its.0) (w.leaves silo its.1))

  dies : (silo : Silo) → Held (rule.decides world (Die silo))
  dies silo = decided Held world (Die silo) (λ number. tt) (λ m is.
      let its = death_is world.settings (membership_of world) m silo is in
      subst (λ m. Held (made world (Die silo) m)) (sym its.0) (w.dies silo its.1))

  delivered_by : (node : Node) (result : Result Stepped ℕ) (number : ℕ) (letter : Letter) → letter_of world number ≡ Some letter
      → rule.node_of world letter.to ≡ Some node → step node (Receives letter) ≡ result
      → Held (rule.delivered_by result world number letter)
  delivered_by node (Err refusal) number letter found there is = tt
  delivered_by node (Ok stepped) number letter found there is =
      taken (with_delivered world number letter) letter.to _ stepped (w.delivers number letter node stepped found there is)

  delivers_to : (node : Option Node) (number : ℕ) (letter : Letter) → letter_of world number ≡ Some letter
      → rule.node_of world letter.to ≡ node → Held (rule.delivers_to node world number letter)
  delivers_to None number letter found there = tt
  delivers_to (Some node) number letter found there = delivered_by node (step node (Receives letter)) number letter found there refl

  delivers : (letter : Option Letter) (number : ℕ) → letter_of world number ≡ letter → Held (rule.delivers letter world number)
  delivers None number found = tt
  delivers (Some letter) number found = delivers_to (rule.node_of world letter.to) number letter found refl

  attempted : (event : Event) → Held (rule.attempted world event)
  attempted (Join silo given) = joins silo given
  attempted (Leave silo) = leaves silo
  attempted (Kill silo) = dies silo
  attempted (See silo version) = sees_at (rule.node_of world silo) silo version refl
  attempted (Do silo step) = does_at (rule.node_of world silo) silo (Does step) tt refl
  attempted (Deliver number) = delivers (letter_of world number) number refl
  attempted (Lose number) = when (is_some (letter_of world number)) 905 _ (w.loses number)

-- what happens at an event
pub by_event : (world : World) (P : Accepted → Type 0) → EventWays world P → (event : Event) → IfOk (rule.happens world event) P
unfolding rule.happens
by_event world P w event = when world P w _ 908 (rule.attempted world event) (attempted world P w event)
