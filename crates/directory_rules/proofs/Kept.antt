-- What every event keeps of the mail, of the number of letters ever sent and of the settings.
use Rattle.std.proofs.Common.{◌≡◌, refl, ℕ, List, [], ◌∷◌, ◌++◌, length, ◌+◌}
use Rattle.std.specs.Prelude.{Bool, true, false, cond, not, is_some, Option, Some, None, Result, Ok, Err, IfOk}
use Rattle.std.specs.Ordering.{nat_cmp}
use Rattle.std.specs.Map.{set_value, remove_entry}
use Rattle.std.specs.BTreeMap.{is_at}
use Rattle.silo_address.specs.Silo.{Silo}
use Rattle.membership_view.specs.Changes.{occupant}
use Rattle.directory_rules.specs.Settings.{Settings}
use Rattle.directory_rules.specs.Membership as membership
use Rattle.directory_rules.specs.Membership.{Change, Die, Membership, is_seeable}
use Rattle.directory_rules.specs.State.{Letter, Node, Posted, World, Accepted}
use Rattle.directory_rules.specs.Event.{Event, Join, Leave, Kill, See, Do, Deliver, Lose}
use Rattle.directory_rules.specs.declared.outcome.Happening.{Happening}
use Rattle.directory_rules.specs.Step.{Stepped}
use Rattle.directory_rules.specs.Input.{Input, Does, Receives, sight_of, step}
use Rattle.directory_rules.specs.World.{membership_of}
use Rattle.directory_rules.specs.Mail.{letter_of, numbered, has_room_for, with_delivered}
use Rattle.directory_rules.specs.Happens as rule
use Rattle.directory_rules.specs.Run.{run, world_after}
use Rattle.directory_rules.proofs.Decided.{decided}

-- a fact about settings, mail and the number of letters ever sent
abbrev pub Fact : Type 1
Fact = Settings → List (ℕ × Posted) → ℕ → Type 0

abbrev pub On : Fact → World → Type 0
On P world = P world.settings world.mail world.sent

-- sending, delivering and losing keep the fact
pub record Keeps (P : Fact) : Type 0 where
  pub sending : (world : World) (letters : List Letter) → has_room_for world letters ≡ true → On P world
      → P world.settings (world.mail ++ numbered world letters) (world.sent + length letters)
  pub delivering : (settings : Settings) (mail : List (ℕ × Posted)) (sent number : ℕ) (posted : Posted) → P settings mail sent
      → P settings (set_value (is_at (nat_cmp number)) mail posted) sent
  pub losing : (settings : Settings) (mail : List (ℕ × Posted)) (sent number : ℕ) → P settings mail sent
      → P settings (remove_entry (is_at (nat_cmp number)) mail) sent

-- the fact holds of the world after, if the event is accepted
abbrev pub After : Fact → Result Accepted ℕ → Type 0
After P result = IfOk result (λ accepted. On P accepted.world)

pub unless : (P : Fact) (b : Bool) (number : ℕ) (result : Result Accepted ℕ) → (b ≡ true → After P result)
    → After P (cond (not b) (Err number) result)
unless P true number result then = then refl
unless P false number result then = tt

pub when : (P : Fact) (b : Bool) (number : ℕ) (result : Result Accepted ℕ) → (b ≡ true → After P result)
    → After P (cond b result (Err number))
when P true number result then = then refl
when P false number result then = tt

taken : (P : Fact) → Keeps P → (world : World) (silo : Silo) (happening : Happening) (stepped : Stepped) → On P world
    → After P (rule.taken world silo happening stepped)
taken P k world silo happening stepped on =
    unless P (has_room_for world stepped.letters) 909 _ (λ room. k.sending world stepped.letters room on)

done_by : (P : Fact) → Keeps P → (result : Result Stepped ℕ) (world : World) (silo : Silo) → On P world
    → After P (rule.done_by result world silo)
done_by P k (Err number) world silo on = tt
done_by P k (Ok stepped) world silo on = taken P k world silo _ stepped on

does_at : (P : Fact) → Keeps P → (node : Option Node) (world : World) (silo : Silo) (input : Input) → On P world
    → After P (rule.does_at node world silo input)
does_at P k None world silo input on = tt
does_at P k (Some node) world silo input on = done_by P k (step node input) world silo on

does : (P : Fact) → Keeps P → (world : World) (silo : Silo) (input : Input) → On P world → After P (rule.does world silo input)
does P k world silo input on = does_at P k (rule.node_of world silo) world silo input on

seen_by : (P : Fact) → Keeps P → (result : Result Stepped ℕ) (world : World) (silo : Silo) (version : ℕ) → On P world
    → After P (rule.seen_by result world silo version)
seen_by P k (Err number) world silo version on = tt
seen_by P k (Ok stepped) world silo version on = taken P k world silo _ stepped on

sees_at : (P : Fact) → Keeps P → (node : Option Node) (world : World) (silo : Silo) (version : ℕ) → On P world
    → After P (rule.sees_at node world silo version)
sees_at P k None world silo version on = tt
sees_at P k (Some node) world silo version on =
    unless P _ 903 _ (λ newer. unless P (is_seeable (membership_of world) silo version) 904 _
    (λ seeable. seen_by P k (step node (sight_of (membership_of world) version)) world silo version on))

-- a change of membership changes neither settings nor mail
joins_kept : (P : Fact) (world : World) (silo : Silo) (replaced : Option Silo) (m : Membership) → On P world
    → On P (rule.after_joining world silo replaced m.views m.places)
joins_kept P world silo None m on = on
joins_kept P world silo (Some old) m on = on

change_kept : (P : Fact) (world : World) (change : Change) (m : Membership) → On P world → On P (rule.after_change world change m)
change_kept P world (membership.Join silo stated) m on = joins_kept P world silo (occupant silo world.views.rows) m on
change_kept P world (membership.Leave silo) m on = on
change_kept P world (Die silo) m on = on

decides : (P : Fact) (world : World) (change : Change) → On P world → After P (rule.decides world change)
decides P world change on = decided (After P) world change (λ number. tt) (λ m is. change_kept P world change m on)

delivered_by : (P : Fact) → Keeps P → (result : Result Stepped ℕ) (world : World) (number : ℕ) (letter : Letter) → On P world
    → After P (rule.delivered_by result world number letter)
delivered_by P k (Err refusal) world number letter on = tt
delivered_by P k (Ok stepped) world number letter on =
    taken P k (with_delivered world number letter) letter.to _ stepped (k.delivering world.settings world.mail world.sent number _ on)

delivers_to : (P : Fact) → Keeps P → (node : Option Node) (world : World) (number : ℕ) (letter : Letter) → On P world
    → After P (rule.delivers_to node world number letter)
delivers_to P k None world number letter on = tt
delivers_to P k (Some node) world number letter on = delivered_by P k (step node (Receives letter)) world number letter on

delivers : (P : Fact) → Keeps P → (letter : Option Letter) (world : World) (number : ℕ) → On P world
    → After P (rule.delivers letter world number)
delivers P k None world number on = tt
delivers P k (Some letter) world number on = delivers_to P k (rule.node_of world letter.to) world number letter on

attempted : (P : Fact) → Keeps P → (world : World) (event : Event) → On P world → After P (rule.attempted world event)
attempted P k world (Join silo places) on = decides P world (membership.Join silo places) on
attempted P k world (Leave silo) on = decides P world (membership.Leave silo) on
attempted P k world (Kill silo) on = decides P world (Die silo) on
attempted P k world (See silo version) on = sees_at P k (rule.node_of world silo) world silo version on
attempted P k world (Do silo step) on = does P k world silo (Does step) on
attempted P k world (Deliver number) on = delivers P k (letter_of world number) world number on
attempted P k world (Lose number) on =
    when P (is_some (letter_of world number)) 905 _ (λ there. k.losing world.settings world.mail world.sent number on)

-- an accepted event keeps the fact
pub happened : (P : Fact) → Keeps P → (world : World) (event : Event) → On P world → After P (rule.happens world event)
unfolding rule.happens
happened P k world event on = when P _ 908 (rule.attempted world event) (λ room. attempted P k world event on)

world_kept : (P : Fact) (result : Result Accepted ℕ) (world : World) → After P result → On P world → On P (world_after result world)
world_kept P (Ok accepted) world after on = after
world_kept P (Err number) world after on = on

-- a run keeps the fact
pub run_keeps : (P : Fact) → Keeps P → (world : World) (events : List Event) → On P world → On P (run world events).world
unfolding run
run_keeps P k world [] on = on
run_keeps P k world (event ∷ events) on =
    run_keeps P k (world_after (rule.happens world event) world) events
    (world_kept P (rule.happens world event) world (happened P k world event on) on)
