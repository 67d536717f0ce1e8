-- The plain machine: what the directory looks like to its users. A version, and one set of activations, each on a live
-- silo, in one of three phases. It has no tables, requests or letters.
use Rattle.std.specs.Prelude.{◌≡◌, ◌≢◌, ◌⊎◌, ℕ, suc, true, false, cond, Option, Some, None, option_map}
use Rattle.silo_address.specs.Silo.{Silo}
use Rattle.silo_address.specs.Grain.{Grain}
use Rattle.directory_protocol.specs.Change.{put, put_at}
use Rattle.directory_protocol.specs.Setting.{Setting}
use Rattle.directory_protocol.specs.World.{World, Held, Asking, Firm, Closing, count_of}
use Rattle.directory_protocol.specs.Actions.{Action, New_view, See, Start, Close, Offer_away, Renew, Find, Serve, Confirm, Leave, Tell, Install, Recover, Allowed}
use Rattle.directory_protocol.specs.Effects.{after}
use Rattle.directory_protocol.specs.Safety.{IsFirmOn}

-- an activation's phase, and the count that tells it on its silo
pub data Life : Type 0 where
  Is_asking : (count : ℕ) → Life
  Is_firm : (count : ℕ) → Life
  Is_closing : (count : ℕ) → Life

pub record Plain : Type 0 where
  pub version : ℕ
  -- the activations of each silo, at most one a grain
  pub lives : Silo → Grain → Option Life
  -- the least count that a silo never used
  pub unused : Silo → ℕ

pub data PlainStep : Type 0 where
  -- the next view comes, and the activations of silos that are dead there go
  Change_view : PlainStep
  -- a silo that holds none of a grain starts an activation that was never there before
  Begin : Silo → Grain → PlainStep
  -- an asking one becomes firm, where no other of its grain is firm
  Make_firm : Silo → Grain → (count : ℕ) → PlainStep
  -- an asking one goes
  Yield : Silo → Grain → (count : ℕ) → PlainStep
  -- a firm one becomes closing
  Begin_closing : Silo → Grain → (count : ℕ) → PlainStep
  -- an asking one becomes closing
  Give_up : Silo → Grain → (count : ℕ) → PlainStep
  -- a closing one goes
  End : Silo → Grain → (count : ℕ) → PlainStep
  Nothing_changes : PlainStep

-- q is p with another life, or none, of that grain on that silo
pub record IsChanged (p : Plain) (s : Silo) (g : Grain) (life : Option Life) (q : Plain) : Type 0 where
  pub version : q.version ≡ p.version
  pub unused : (t : Silo) → q.unused t ≡ p.unused t
  pub lives : (t : Silo) (r : Grain) → q.lives t r ≡ put_at s g life p.lives t r

pub record IsViewChange (m : Setting) (p q : Plain) : Type 0 where
  pub version : q.version ≡ suc p.version
  pub unused : (t : Silo) → q.unused t ≡ p.unused t
  pub lives : (t : Silo) (r : Grain) → q.lives t r ≡ cond (m.alive (suc p.version) t) (p.lives t r) None

pub record IsBegun (m : Setting) (p : Plain) (s : Silo) (g : Grain) (q : Plain) : Type 0 where
  pub alive : m.alive p.version s ≡ true
  pub free : p.lives s g ≡ None
  pub version : q.version ≡ p.version
  pub unused : (t : Silo) → q.unused t ≡ put s (suc (p.unused s)) p.unused t
  pub lives : (t : Silo) (r : Grain) → q.lives t r ≡ put_at s g (Some (Is_asking (p.unused s))) p.lives t r

pub record IsSame (p q : Plain) : Type 0 where
  pub version : q.version ≡ p.version
  pub unused : (t : Silo) → q.unused t ≡ p.unused t
  pub lives : (t : Silo) (r : Grain) → q.lives t r ≡ p.lives t r

-- from p the step makes q
abbrev pub IsPlainStep : Setting → Plain → PlainStep → Plain → Type 0
IsPlainStep m p Change_view q = IsViewChange m p q
IsPlainStep m p (Begin s g) q = IsBegun m p s g q
IsPlainStep m p (Make_firm s g c) q = (p.lives s g ≡ Some (Is_asking c)) × ((t : Silo) (d : ℕ) → p.lives t g ≢ Some (Is_firm d)) × IsChanged p s g (Some (Is_firm c)) q
IsPlainStep m p (Yield s g c) q = (p.lives s g ≡ Some (Is_asking c)) × IsChanged p s g None q
IsPlainStep m p (Begin_closing s g c) q = (p.lives s g ≡ Some (Is_firm c)) × IsChanged p s g (Some (Is_closing c)) q
IsPlainStep m p (Give_up s g c) q = (p.lives s g ≡ Some (Is_asking c)) × IsChanged p s g (Some (Is_closing c)) q
IsPlainStep m p (End s g c) q = (p.lives s g ≡ Some (Is_closing c)) × IsChanged p s g None q
IsPlainStep m p Nothing_changes q = IsSame p q

abbrev pub life_of : Held → Life
life_of (Asking count number previous) = Is_asking count
life_of (Firm count) = Is_firm count
life_of (Closing count number) = Is_closing count

-- a world seen from outside: what live silos hold
abbrev pub plain_of : Setting → World → Plain
plain_of m w =
    record {
      version = w.now;
      lives = λ s g. cond (m.alive w.now s) (option_map life_of (w.held s g)) None;
      unused = w.next_count;
    }

-- the step that an action is
abbrev pub plain_step_of : Action → PlainStep
plain_step_of New_view = Change_view
plain_step_of (See x) = Nothing_changes
plain_step_of (Start s g previous) = Begin s g
plain_step_of (Close s g (Asking c n previous)) = Give_up s g c
plain_step_of (Close s g (Firm c)) = Begin_closing s g c
plain_step_of (Close s g (Closing c n)) = Nothing_changes
plain_step_of (Offer_away s g c) = Begin_closing s g c
plain_step_of (Renew s g x purpose) = Nothing_changes
plain_step_of (Find s) = Nothing_changes
plain_step_of (Serve x) = Nothing_changes
plain_step_of (Confirm y g x) = Make_firm y.receiver g (count_of x)
plain_step_of (Leave y g (Asking c n previous)) = Yield y.receiver g c
plain_step_of (Leave y g (Firm c)) = Nothing_changes
plain_step_of (Leave y g (Closing c n)) = End y.receiver g c
plain_step_of (Tell s) = Nothing_changes
plain_step_of (Install x snapshot) = Nothing_changes
plain_step_of (Recover x told) = Nothing_changes

-- each action that may be taken is the plain machine's step
abbrev pub StepsPlainly : Setting → World → Type 0
StepsPlainly m w = (a : Action) → Allowed m w a → IsPlainStep m (plain_of m w) (plain_step_of a) (plain_of m (after m w a))

-- a firm activation ceases to be firm only by its silo's death, and where its silo closes or offers it
abbrev pub FirmUntilClosed : Setting → World → Type 0
FirmUntilClosed m w =
    (a : Action) → Allowed m w a → (g : Grain) (s : Silo) (c : ℕ) → IsFirmOn m w g s c → IsFirmOn m (after m w a) g s c ⊎ ((m.alive (after m w a).now s ≡ false) ⊎ ((a ≡ Close s g (Firm c)) ⊎ (a ≡ Offer_away s g c)))
