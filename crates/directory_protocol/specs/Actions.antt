-- The actions of the abstract protocol, and when each may be taken. A guard is a proposition, and asks no more than the
-- directory's rule keeps: a sight, an answer, an installation or a recovery that the rule makes meets it.
use Rattle.std.specs.Prelude.{◌≡◌, ◌≢◌, ◌⊎◌, ◌<◌, ◌≤◌, ℕ, suc, Bool, true, false, Option, Some, None}
use Rattle.silo_address.specs.Silo.{Silo}
use Rattle.silo_address.specs.Grain.{Grain}
use Rattle.silo_address.specs.declared.activation.ActivationId.{ActivationId}
use Rattle.directory_protocol.specs.Setting.{Setting}
use Rattle.directory_protocol.specs.Letters.{Answer, Registered, Taken, Removed, Purpose, Register, Deregister, purpose_of, Request, named, Reply, Snapshot, Report, Offer, Sent}
use Rattle.directory_protocol.specs.World.{World, Held, Firm, outstanding, is_closing}

-- a silo sees a newer version: what it keeps settled, and what it seals for other silos
pub record Sight : Type 0 where
  pub silo : Silo
  pub version : ℕ
  pub kept : (hash : ℕ) → Bool
  pub sealed : (hash : ℕ) → Bool

-- a silo answers a request; the entry is what its table then has for the request's grain
pub record Service : Type 0 where
  pub server : Silo
  pub request : Request
  pub answer : Answer
  pub entry : Option ActivationId

-- a silo settles part of what it owns, with these entries
pub record Settling : Type 0 where
  pub silo : Silo
  pub part : (hash : ℕ) → Bool
  pub entries : Grain → Option ActivationId

pub data Action : Type 0 where
  -- the next view comes
  New_view : Action
  -- a silo sees a version: the next one, or a later one past others that it skips
  See : Sight → Action
  -- a silo starts an activation, perhaps in place of one that was offered
  Start : (silo : Silo) → Grain → (previous : Option ActivationId) → Action
  -- a silo closes an activation: a firm one, or one that asks, which it gives up
  Close : (silo : Silo) → Grain → Held → Action
  -- a silo closes its firm activation of that count, and offers it
  Offer_away : (silo : Silo) → Grain → (count : ℕ) → Action
  -- a silo sends the outstanding request of an activation again, under a new number
  Renew : (silo : Silo) → Grain → Held → Purpose → Action
  -- a silo takes a number for a request that only asks where an activation is
  Find : (silo : Silo) → Action
  -- a silo answers a request that comes
  Serve : Service → Action
  -- an asking activation becomes firm by a reply
  Confirm : Reply → Grain → Held → Action
  -- an asking or closing activation goes by a reply
  Leave : Reply → Grain → Held → Action
  -- a silo reports its firm activations
  Tell : (silo : Silo) → Action
  -- a silo settles part of a snapshot
  Install : Settling → Snapshot → Action
  -- a silo settles what every member reported of each grain, be it in one report or in several
  Recover : Settling → (told : Silo → Grain → Report) → Action

pub record MaySee (m : Setting) (w : World) (x : Sight) : Type 0 where
  pub alive : m.alive w.now x.silo ≡ true
  pub newer : w.seen x.silo < x.version
  pub known : x.version ≤ w.now
  pub member : m.member x.version x.silo ≡ true
  -- it keeps only what it had settled and still owns
  pub kept_settled : (h : ℕ) → x.kept h ≡ true → w.settled x.silo h ≡ true
  pub kept_owned : (h : ℕ) → x.kept h ≡ true → m.owner x.version h ≡ Some x.silo
  -- it seals only what it had settled, and only at the next version
  pub sealed_settled : (h : ℕ) → x.sealed h ≡ true → w.settled x.silo h ≡ true
  pub sealed_next : (h : ℕ) → x.sealed h ≡ true → x.version ≡ suc (w.seen x.silo)

-- an activation that a silo which has seen that version may start in the place of: one that was offered no later
abbrev pub IsOffered : World → Grain → (seen : ℕ) → ActivationId → Type 0
IsOffered w g seen p = (o : Offer) × Sent o w.offers × (o.grain ≡ g) × (o.activation ≡ p) × (o.version ≤ seen)

pub record MayStart (m : Setting) (w : World) (s : Silo) (g : Grain) (previous : Option ActivationId) : Type 0 where
  pub alive : m.alive w.now s ≡ true
  pub member : m.member (w.seen s) s ≡ true
  pub free : w.held s g ≡ None
  pub offered : (p : ActivationId) → previous ≡ Some p → IsOffered w g (w.seen s) p

-- the silo holds that activation of the grain, which isn't closing yet
pub record MayClose (m : Setting) (w : World) (s : Silo) (g : Grain) (x : Held) : Type 0 where
  pub alive : m.alive w.now s ≡ true
  pub held : w.held s g ≡ Some x
  pub not_yet : is_closing x ≡ false

pub record MayRenew (m : Setting) (w : World) (s : Silo) (g : Grain) (x : Held) (purpose : Purpose) : Type 0 where
  pub alive : m.alive w.now s ≡ true
  pub held : w.held s g ≡ Some x
  pub outstanding : (n : ℕ) × (outstanding purpose x ≡ Some n)

-- a registration is entered where there is no entry, where it is entered already, and in place of its previous one;
-- where another has the place, that is the answer. `before` and `entry` are the grain's entry before and after
abbrev pub IsRegistered : (a : ActivationId) → (previous before : Option ActivationId) → Answer → (entry : Option ActivationId) → Type 0
IsRegistered a previous before answer entry =
    ((answer ≡ Registered) × (entry ≡ Some a) × ((before ≡ None) ⊎ (before ≡ Some a) ⊎ (before ≡ previous)))
    ⊎ ((answer ≡ Taken) × (entry ≡ before) × (before ≢ None) × (before ≢ Some a) × (before ≢ previous))

-- a deregistration takes out exactly the activation that it names
abbrev pub IsDeregistered : (a : ActivationId) → (before : Option ActivationId) → Answer → (entry : Option ActivationId) → Type 0
IsDeregistered a before answer entry =
    (answer ≡ Removed) × (((before ≡ Some a) × (entry ≡ None)) ⊎ ((before ≢ Some a) × (entry ≡ before)))

abbrev pub IsAnswered :
    Purpose → (a : ActivationId) → (previous before : Option ActivationId) → Answer → (entry : Option ActivationId) → Type 0
IsAnswered Register a previous before answer entry = IsRegistered a previous before answer entry
IsAnswered Deregister a previous before answer entry = IsDeregistered a before answer entry

-- a silo serves a request of the version that it has seen, about a hash that it has settled, if the number is above
-- the last one that it served of the sender
pub record MayServe (m : Setting) (w : World) (x : Service) : Type 0 where
  pub sent : Sent x.request w.requests
  pub alive : m.alive w.now x.server ≡ true
  pub same_version : w.seen x.server ≡ x.request.version
  pub settled : w.settled x.server (m.hash x.request.grain) ≡ true
  pub new_number : w.served x.server x.request.sender < x.request.number
  pub answered : IsAnswered x.request.purpose (named x.request) x.request.previous (w.table x.server x.request.grain) x.answer x.entry

-- a reply counts for an activation that its receiver holds: the version is the seen one, and the number is
-- outstanding for a request of its kind
pub record Counts (seen : Silo → ℕ) (held : Silo → Grain → Option Held) (y : Reply) (g : Grain) (x : Held) : Type 0 where
  pub held_there : held y.receiver g ≡ Some x
  pub same_number : outstanding (purpose_of y.answer) x ≡ Some y.number
  pub same_version : y.version ≡ seen y.receiver

pub record MayAccept (m : Setting) (w : World) (y : Reply) (g : Grain) (x : Held) : Type 0 where
  pub alive : m.alive w.now y.receiver ≡ true
  pub sent : Sent y w.replies
  pub counts : Counts w.seen w.held y g x

pub record MayConfirm (m : Setting) (w : World) (y : Reply) (g : Grain) (x : Held) : Type 0 where
  pub accepted : MayAccept m w y g x
  pub answer : y.answer ≡ Registered

pub record MayLeave (m : Setting) (w : World) (y : Reply) (g : Grain) (x : Held) : Type 0 where
  pub accepted : MayAccept m w y g x
  pub answer : y.answer ≢ Registered

-- what a silo settles it owns, and hadn't settled
pub record MaySettle (m : Setting) (w : World) (x : Settling) : Type 0 where
  pub alive : m.alive w.now x.silo ≡ true
  pub owned : (h : ℕ) → x.part h ≡ true → m.owner (w.seen x.silo) h ≡ Some x.silo
  pub unsettled : (h : ℕ) → x.part h ≡ true → w.settled x.silo h ≡ false

-- it has the entries of a snapshot for the version that the silo has seen
pub record MayInstall (m : Setting) (w : World) (x : Settling) (snapshot : Snapshot) : Type 0 where
  pub settles : MaySettle m w x
  pub sent : Sent snapshot w.snapshots
  pub same_version : suc snapshot.sealed_at ≡ w.seen x.silo
  pub covered : (h : ℕ) → x.part h ≡ true → snapshot.covers h ≡ true
  pub entries : (g : Grain) → x.part (m.hash g) ≡ true → x.entries g ≡ snapshot.entries g

-- of each grain each member of the seen view reported there; the entries are theirs, and each grain that was reported has one
pub record MayRecover (m : Setting) (w : World) (x : Settling) (told : Silo → Grain → Report) : Type 0 where
  pub settles : MaySettle m w x
  pub sent : (r : Silo) (g : Grain) → m.member (w.seen x.silo) r ≡ true → Sent (told r g) w.reports
  pub same_version : (r : Silo) (g : Grain) → m.member (w.seen x.silo) r ≡ true → (told r g).version ≡ w.seen x.silo
  pub own_report : (r : Silo) (g : Grain) → m.member (w.seen x.silo) r ≡ true → (told r g).sender ≡ r
  pub from_member :
      (g : Grain) (a : ActivationId) → x.part (m.hash g) ≡ true → x.entries g ≡ Some a → m.member (w.seen x.silo) a.silo ≡ true
  pub from_report : (g : Grain) (a : ActivationId) → x.part (m.hash g) ≡ true → x.entries g ≡ Some a → (told a.silo g).firm g ≡ Some a.count
  pub complete :
      (g : Grain) (r : Silo) (c : ℕ) → x.part (m.hash g) ≡ true → m.member (w.seen x.silo) r ≡ true → (told r g).firm g ≡ Some c
      → (a : ActivationId) × (x.entries g ≡ Some a)

-- the action may be taken in that world
abbrev pub Allowed : Setting → World → Action → Type 0
Allowed m w New_view = Unit {0}
Allowed m w (See x) = MaySee m w x
Allowed m w (Start s g previous) = MayStart m w s g previous
Allowed m w (Close s g x) = MayClose m w s g x
Allowed m w (Offer_away s g count) = MayClose m w s g (Firm count)
Allowed m w (Renew s g x purpose) = MayRenew m w s g x purpose
Allowed m w (Find s) = m.alive w.now s ≡ true
Allowed m w (Serve x) = MayServe m w x
Allowed m w (Confirm y g x) = MayConfirm m w y g x
Allowed m w (Leave y g x) = MayLeave m w y g x
Allowed m w (Tell s) = m.alive w.now s ≡ true
Allowed m w (Install x snapshot) = MayInstall m w x snapshot
Allowed m w (Recover x told) = MayRecover m w x told
