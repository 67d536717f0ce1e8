-- What the protocol keeps safe: the statements of the theorems.
use Rattle.std.specs.Prelude.{◌≡◌, ◌⊎◌, ℕ, true, Option, Some, List}
use Rattle.silo_address.specs.Silo.{Silo}
use Rattle.silo_address.specs.Grain.{Grain}
use Rattle.silo_address.specs.declared.activation.ActivationId.{ActivationId}
use Rattle.directory_protocol.specs.Setting.{Setting}
use Rattle.directory_protocol.specs.Letters.{activation_on, Reply, Snapshot, Sent}
use Rattle.directory_protocol.specs.World.{World, start, Firm}
use Rattle.directory_protocol.specs.Actions.{Action, Serve, Service, Allowed}
use Rattle.directory_protocol.specs.Effects.{replied, after, run, AllAllowed}
use Rattle.directory_protocol.specs.Authority.{IsHeld}

-- the silo is live, and has the hash settled, at whatever version it has seen
pub record IsSettledAt (m : Setting) (w : World) (h : ℕ) (s : Silo) : Type 0 where
  pub alive : m.alive w.now s ≡ true
  pub settled : w.settled s h ≡ true

-- the activation of that count is firm on the silo, which is live
pub record IsFirmOn (m : Setting) (w : World) (g : Grain) (s : Silo) (count : ℕ) : Type 0 where
  pub alive : m.alive w.now s ≡ true
  pub firm : w.held s g ≡ Some (Firm count)

-- at most one silo has a hash settled, over all versions
abbrev pub OneSettles : Setting → World → Type 0
OneSettles m w = (h : ℕ) (s t : Silo) → IsSettledAt m w h s → IsSettledAt m w h t → s ≡ t

-- no grain is firm on two live silos
abbrev pub OneFirm : Setting → World → Type 0
OneFirm m w = (g : Grain) (s t : Silo) (c d : ℕ) → IsFirmOn m w g s c → IsFirmOn m w g t d → activation_on s c ≡ activation_on t d

-- the table of a settled hash is right: it has each firm activation of that hash; what else it has is held by its silo,
-- if that is live; and at the current version it has only what is on live silos. It has one entry a grain
pub record IsRight (m : Setting) (w : World) (s : Silo) (g : Grain) : Type 0 where
  pub complete : (t : Silo) (c : ℕ) → IsFirmOn m w g t c → w.table s g ≡ Some (activation_on t c)
  pub held : (a : ActivationId) → w.table s g ≡ Some a → m.alive w.now a.silo ≡ true → IsHeld w.held g a
  pub live : (a : ActivationId) → w.table s g ≡ Some a → w.seen s ≡ w.now → m.alive w.now a.silo ≡ true

abbrev pub SettledIsRight : Setting → World → Type 0
SettledIsRight m w = (g : Grain) (s : Silo) → IsSettledAt m w (m.hash g) s → IsRight m w s g

-- a hash is sealed once at a version: what was handed over is one snapshot
abbrev pub SealedOnce : Setting → World → Type 0
SealedOnce m w =
    (h : ℕ) (x y : Snapshot) → Sent x w.snapshots → Sent y w.snapshots → x.covers h ≡ true → y.covers h ≡ true → x.sealed_at ≡ y.sealed_at → x ≡ y

-- some list of allowed actions makes that world of the first one
abbrev pub IsReached : Setting → World → Type 0
IsReached m w = (actions : List Action) × AllAllowed m actions start × (run m actions start ≡ w)

-- it holds in each world that some list of allowed actions makes of the first one
abbrev pub AfterAnyRun : (Setting → World → Type 0) → Type 0
AfterAnyRun Holds = (m : Setting) (actions : List Action) → AllAllowed m actions start → Holds m (run m actions start)

-- an answer that is new after the action was given by a live silo that has the hash settled, at the request's version
abbrev pub SettledServesAlone : Setting → World → Action → Type 0
SettledServesAlone m w a =
    Allowed m w a → (y : Reply) → Sent y (after m w a).replies → Sent y w.replies ⊎ ((x : Service) × (a ≡ Serve x) × (y ≡ replied x) × IsSettledAt m w (m.hash x.request.grain) x.server × (w.seen x.server ≡ x.request.version))

-- the world with other histories
abbrev pub remembering : World → (level : ℕ → ℕ) → (authority : Grain → Option ActivationId) → World
remembering w level authority = record w { level = level; authority = authority }

-- the two histories decide nothing: with others the same actions are allowed, and make the same of all the rest
abbrev pub HistoriesUnread : Setting → World → Action → Type 0
HistoriesUnread m w a =
    (level : ℕ → ℕ) (authority : Grain → Option ActivationId)
    → (Allowed m w a → Allowed m (remembering w level authority) a)
    × (remembering (after m w a) level authority ≡ remembering (after m (remembering w level authority) a) level authority)
