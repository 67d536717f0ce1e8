-- The second half of the invariant: what the last settled table of a grain had is what is firm, what tables have, what
-- snapshots carry and what reports name.
use Rattle.std.specs.Prelude.{◌≡◌, ◌≢◌, ◌<◌, ℕ, suc, Bool, true, Option, Some, List}
use Rattle.silo_address.specs.Silo.{Silo}
use Rattle.silo_address.specs.Grain.{Grain}
use Rattle.silo_address.specs.declared.activation.ActivationId.{ActivationId}
use Rattle.directory_protocol.specs.Setting.{Setting}
use Rattle.directory_protocol.specs.Letters.{activation_on, Registered, Reply, Snapshot, Report, Sent}
use Rattle.directory_protocol.specs.World.{World, Held, Firm, count_of, surviving}
use Rattle.directory_protocol.specs.Actions.{Counts}

-- the activation is held by its silo, for that grain
abbrev pub IsHeld : (held : Silo → Grain → Option Held) → Grain → ActivationId → Type 0
IsHeld held g a = (x : Held) × (held a.silo g ≡ Some x) × (count_of x ≡ a.count)

-- entries: settled tables and snapshots have the authority, which is held and on a member of its level
pub record Entries
    (m : Setting) (now : ℕ) (settled : Silo → ℕ → Bool) (table : Silo → Grain → Option ActivationId)
    (held : Silo → Grain → Option Held) (snapshots : List Snapshot) (level : ℕ → ℕ) (authority : Grain → Option ActivationId) : Type 0 where
  pub right : (s : Silo) (g : Grain) → m.alive now s ≡ true → settled s (m.hash g) ≡ true → table s g ≡ authority g
  pub on_member : (g : Grain) (a : ActivationId) → authority g ≡ Some a → m.member (level (m.hash g)) a.silo ≡ true
  pub held_there : (g : Grain) (a : ActivationId) → authority g ≡ Some a → IsHeld held g a
  pub sealed :
      (x : Snapshot) (g : Grain) → Sent x snapshots → x.covers (m.hash g) ≡ true → level (m.hash g) ≡ x.sealed_at
      → x.entries g ≡ surviving m (suc x.sealed_at) (authority g)

-- confirmed: what is firm, or would be by a reply that counts, is the authority; what would go by a reply isn't
pub record Confirmed
    (m : Setting) (now : ℕ) (seen : Silo → ℕ) (held : Silo → Grain → Option Held) (replies : List Reply)
    (authority : Grain → Option ActivationId) : Type 0 where
  pub firm : (s : Silo) (g : Grain) (c : ℕ) → m.alive now s ≡ true → held s g ≡ Some (Firm c) → authority g ≡ Some (activation_on s c)
  pub registered :
      (y : Reply) (g : Grain) (x : Held) → Sent y replies → y.answer ≡ Registered → m.alive now y.receiver ≡ true
      → Counts seen held y g x → authority g ≡ Some (activation_on y.receiver (count_of x))
  pub refused :
      (y : Reply) (g : Grain) (x : Held) → Sent y replies → y.answer ≢ Registered → Counts seen held y g x
      → authority g ≢ Some (activation_on y.receiver (count_of x))

-- reported: a report of a version above the level names the authority, all that is firm, and all that later reports name
pub record Reported
    (m : Setting) (held : Silo → Grain → Option Held) (reports : List Report) (level : ℕ → ℕ)
    (authority : Grain → Option ActivationId) : Type 0 where
  pub right :
      (x : Report) (g : Grain) (c : ℕ) → Sent x reports → level (m.hash g) < x.version → x.firm g ≡ Some c
      → authority g ≡ Some (activation_on x.sender c)
  pub all_firm :
      (x : Report) (g : Grain) (c : ℕ) → Sent x reports → level (m.hash g) < x.version → held x.sender g ≡ Some (Firm c)
      → x.firm g ≡ Some c
  pub shrinking :
      (x y : Report) (g : Grain) (c : ℕ) → Sent x reports → Sent y reports → y.sender ≡ x.sender → x.version < y.version
      → level (m.hash g) < x.version → y.firm g ≡ Some c → x.firm g ≡ Some c

abbrev pub EntriesOf : Setting → World → Type 0
EntriesOf m w = Entries m w.now w.settled w.table w.held w.snapshots w.level w.authority

abbrev pub ConfirmedOf : Setting → World → Type 0
ConfirmedOf m w = Confirmed m w.now w.seen w.held w.replies w.authority

abbrev pub ReportedOf : Setting → World → Type 0
ReportedOf m w = Reported m w.held w.reports w.level w.authority
