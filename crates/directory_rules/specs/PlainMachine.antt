-- The plain machine: what the directory looks like to those who use it. A view and one set of activations, each on a silo
-- that isn't Dead, in one of three phases. It knows no pieces, requests, letters or rings.
use Rattle.std.specs.Prelude.{◌≡◌, ◌≢◌, ℕ, ◌+◌, IsSome, Option, Some, None, true, false}
use Rattle.std.specs.Option.{option_map, option_and_then}
use Rattle.silo_address.specs.Silo.{Silo}
use Rattle.silo_address.specs.Grain.{Grain}
use Rattle.membership_view.specs.View.{ViewValue, status_of}
use Rattle.membership_view.specs.Views.{view_at}
use Rattle.membership_view.specs.Changes.{Change}
use Rattle.membership_view.specs.Step.{MembershipStep}
use Rattle.directory_rules.specs.declared.held.Held.{Held}
use Rattle.directory_rules.specs.declared.held.Phase.{Phase}
use Rattle.directory_rules.specs.declared.held.Phase.TheVariants as phase
use Rattle.directory_rules.specs.declared.effect.Effect.{Effect}
use Rattle.directory_rules.specs.declared.effect.Effect.TheVariants as effect
use Rattle.directory_rules.specs.Members.{is_dead_in}
use Rattle.directory_rules.specs.Host.{held_of}
use Rattle.directory_rules.specs.State.{Node, World}
use Rattle.directory_rules.specs.declared.outcome.Happening.{Happening}
use Rattle.directory_rules.specs.declared.outcome.Happening.TheVariants.{Joined, Left, Died, Saw, Did, Delivered, Lost}
use Rattle.directory_rules.specs.Happens.{node_of}

-- an activation's phase, and the count that tells it on its silo
pub data Life : Type 0 where
  Is_asking : (count : ℕ) → Life
  Is_firm : (count : ℕ) → Life
  Is_closing : (count : ℕ) → Life

-- the state of the plain machine
pub record Plain : Type 0 where
  pub view : ViewValue
  -- the activations of each silo, one a grain
  pub lives : Silo → Grain → Option Life
  -- a count that the silo has not used, and none above it
  pub unused : Silo → Option ℕ

-- the kinds of its steps
pub data PlainStep : Type 0 where
  Change_view : PlainStep
  Begin : PlainStep
  Make_firm : PlainStep
  Yield : PlainStep
  Begin_closing : PlainStep
  Give_up : PlainStep
  End : PlainStep
  Nothing_changes : PlainStep

-- the view and the counts are the same, and so are all activations but that of one grain on one silo
pub record IsChanged (p : Plain) (silo : Silo) (grain : Grain) (life : Option Life) (q : Plain) : Type 0 where
  pub view : q.view ≡ p.view
  pub there : q.lives silo grain ≡ life
  pub elsewhere : (s : Silo) (g : Grain) → ¬ ((s ≡ silo) × (g ≡ grain)) → q.lives s g ≡ p.lives s g

-- nothing differs
pub record IsSame (p q : Plain) : Type 0 where
  pub view : q.view ≡ p.view
  pub unused : (s : Silo) → q.unused s ≡ p.unused s
  pub lives : (s : Silo) (g : Grain) → q.lives s g ≡ p.lives s g

-- a membership step; the activations on silos that are Dead then go, and all others stay
pub record ViewChanges (p q : Plain) : Type 0 where
  pub change : Change
  pub step : MembershipStep p.view change q.view
  pub dead : (s : Silo) (g : Grain) → is_dead_in q.view s ≡ true → q.lives s g ≡ None
  pub others : (s : Silo) (g : Grain) → is_dead_in q.view s ≡ false → q.lives s g ≡ p.lives s g
  pub unused : (s : Silo) → IsSome (p.unused s) → is_dead_in q.view s ≡ false → q.unused s ≡ p.unused s

-- an activation that was never there before begins on a silo that isn't Dead and has none of the grain, and asks
pub record Begins (p q : Plain) : Type 0 where
  pub silo : Silo
  pub grain : Grain
  pub count : ℕ
  pub known : IsSome (status_of p.view silo)
  pub alive : is_dead_in p.view silo ≡ false
  pub free : p.lives silo grain ≡ None
  pub fresh : p.unused silo ≡ Some count
  pub begun : IsChanged p silo grain (Some (Is_asking count)) q
  pub used : q.unused silo ≡ Some (count + 1)
  pub others : (s : Silo) → s ≢ silo → q.unused s ≡ p.unused s

-- an activation goes on from one phase to the next, or goes; no count is used
pub record Goes (p : Plain) (silo : Silo) (grain : Grain) (life : Life) (next : Option Life) (q : Plain) : Type 0 where
  pub was : p.lives silo grain ≡ Some life
  pub changed : IsChanged p silo grain next q
  pub unused : (s : Silo) → q.unused s ≡ p.unused s

-- an asking one becomes firm, where no other of its grain is firm
pub record BecomesFirm (p q : Plain) : Type 0 where
  pub silo : Silo
  pub grain : Grain
  pub count : ℕ
  pub goes : Goes p silo grain (Is_asking count) (Some (Is_firm count)) q
  pub alone : (s : Silo) (other : ℕ) → p.lives s grain ≢ Some (Is_firm other)

-- an asking one goes
abbrev pub Yields : Plain → Plain → Type 0
Yields p q = (silo : Silo) × (grain : Grain) × (count : ℕ) × Goes p silo grain (Is_asking count) None q

-- a firm one becomes closing
abbrev pub BeginsToClose : Plain → Plain → Type 0
BeginsToClose p q = (silo : Silo) × (grain : Grain) × (count : ℕ) × Goes p silo grain (Is_firm count) (Some (Is_closing count)) q

-- an asking one becomes closing
abbrev pub IsGivenUp : Plain → Plain → Type 0
IsGivenUp p q = (silo : Silo) × (grain : Grain) × (count : ℕ) × Goes p silo grain (Is_asking count) (Some (Is_closing count)) q

-- a closing one goes
abbrev pub Ends : Plain → Plain → Type 0
Ends p q = (silo : Silo) × (grain : Grain) × (count : ℕ) × Goes p silo grain (Is_closing count) None q

-- the step takes p to q; there are no other steps
abbrev pub IsPlainStep : Plain → PlainStep → Plain → Type 0
IsPlainStep p Change_view q = ViewChanges p q
IsPlainStep p Begin q = Begins p q
IsPlainStep p Make_firm q = BecomesFirm p q
IsPlainStep p Yield q = Yields p q
IsPlainStep p Begin_closing q = BeginsToClose p q
IsPlainStep p Give_up q = IsGivenUp p q
IsPlainStep p End q = Ends p q
IsPlainStep p Nothing_changes q = IsSame p q

-- What the world is to the plain machine.

-- the phase that the plain machine knows
abbrev pub life_by : Phase → (count : ℕ) → Life
life_by (phase.Asking number) count = Is_asking count
life_by phase.Firm count = Is_firm count
life_by (phase.Closing number) count = Is_closing count

-- a held activation as the plain machine knows it
abbrev pub life_of : Held → Life
life_of held = life_by held.phase held.count

-- what the node holds of the grain
abbrev pub life_on : Grain → Node → Option Life
life_on grain node = option_map life_of (held_of node.host grain)

-- the current view, what live silos hold, and their next counts
abbrev pub plain_of : World → Plain
plain_of world = record {
  view = view_at world.views world.views.version;
  lives = λ silo grain. option_and_then (life_on grain) (node_of world silo);
  unused = λ silo. option_map (λ node. node.host.next_count) (node_of world silo);
}

-- the plain step of what a silo's step did
abbrev pub step_of_effect : Effect → PlainStep
step_of_effect (effect.Started entry) = Begin
step_of_effect (effect.Closing entry) = Begin_closing
step_of_effect (effect.Cancelled entry) = Give_up
step_of_effect (effect.Offered entry to) = Begin_closing
step_of_effect effect.Firm = Make_firm
step_of_effect effect.Yielded = Yield
step_of_effect effect.Ended = End
step_of_effect other = Nothing_changes

-- the plain step of an accepted event, by what happened
abbrev pub plain_step_of : Happening → PlainStep
plain_step_of (Joined version silo replaced) = Change_view
plain_step_of (Left version silo) = Change_view
plain_step_of (Died version silo) = Change_view
plain_step_of (Saw silo version effect) = Nothing_changes
plain_step_of (Did silo effect) = step_of_effect effect
plain_step_of (Delivered number letter effect) = step_of_effect effect
plain_step_of (Lost number) = Nothing_changes
