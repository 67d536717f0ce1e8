-- The first half of the invariant: what a silo owns it has settled rightly, and a hash is settled at one silo at most.
-- Records of clauses are over the parts of a world that they read, so that an action that leaves these leaves the record.
use Rattle.std.specs.Prelude.{◌≡◌, ◌≢◌, ◌⊎◌, ◌<◌, ◌≤◌, ℕ, suc, Bool, true, Some, List}
use Rattle.silo_address.specs.Silo.{Silo}
use Rattle.directory_protocol.specs.Setting.{Setting}
use Rattle.directory_protocol.specs.Letters.{Snapshot, Report, Sent}
use Rattle.directory_protocol.specs.World.{World}

-- structure: versions seen are versions of views, and a silo settles only what it owns
pub record Structure (m : Setting) (now : ℕ) (seen : Silo → ℕ) (settled : Silo → ℕ → Bool) : Type 0 where
  pub known : (s : Silo) → seen s ≤ now
  -- a silo that has seen a view is a member of it
  pub member : (s : Silo) → 1 ≤ seen s → m.member (seen s) s ≡ true
  pub owned : (s : Silo) (h : ℕ) → settled s h ≡ true → m.owner (seen s) h ≡ Some s

-- whoever owned h at version k has gone past k: it is dead, or has seen a later version
abbrev pub IsLeft : Setting → (now : ℕ) → (seen : Silo → ℕ) → (h k : ℕ) → Type 0
IsLeft m now seen h k = (s : Silo) → m.owner k h ≡ Some s → m.alive now s ≡ true → k < seen s

-- h can no more be settled at version k: nothing was sealed for it, and some member that can't report any more never did
pub record IsBarred (m : Setting) (now : ℕ) (seen : Silo → ℕ) (snapshots : List Snapshot) (reports : List Report) (h k : ℕ) : Type 0 where
  pub none_sealed : (x : Snapshot) → Sent x snapshots → x.covers h ≡ true → suc x.sealed_at ≢ k
  pub silent : Silo
  pub was_member : m.member k silent ≡ true
  pub went_past : m.alive now silent ≡ true → k < seen silent
  pub none_told : (x : Report) → Sent x reports → x.sender ≡ silent → x.version ≢ k

-- levels: what is settled is settled at the level of its hash, and nobody can settle it at a version up to that any more
pub record Levels
    (m : Setting) (now : ℕ) (seen : Silo → ℕ) (settled : Silo → ℕ → Bool) (snapshots : List Snapshot) (reports : List Report)
    (level : ℕ → ℕ) : Type 0 where
  pub low : (h : ℕ) → level h ≤ now
  pub at_level : (s : Silo) (h : ℕ) → m.alive now s ≡ true → settled s h ≡ true → level h ≡ seen s
  -- the owner at the level has gone past it, or has it settled there
  pub top :
      (s : Silo) (h : ℕ) → m.owner (level h) h ≡ Some s → m.alive now s ≡ true
      → (level h < seen s) ⊎ ((seen s ≡ level h) × (settled s h ≡ true))
  -- each version below the level is left by its owner, or barred
  pub below : (h k : ℕ) → k < level h → IsLeft m now seen h k ⊎ IsBarred m now seen snapshots reports h k
  -- a hash in a snapshot was settled at the version at which it was sealed, and has been given up there
  pub sealed_low : (x : Snapshot) (h : ℕ) → Sent x snapshots → x.covers h ≡ true → x.sealed_at ≤ level h
  pub sealed_left : (x : Snapshot) (h : ℕ) → Sent x snapshots → x.covers h ≡ true → IsLeft m now seen h x.sealed_at
  -- a hash is sealed once at a version
  pub sealed_once :
      (x y : Snapshot) (h : ℕ) → Sent x snapshots → Sent y snapshots → x.covers h ≡ true → y.covers h ≡ true
      → x.sealed_at ≡ y.sealed_at → x ≡ y
  -- a report is by a member of its version, which has seen it
  pub told_member : (x : Report) → Sent x reports → 1 ≤ x.version → m.member x.version x.sender ≡ true
  pub told_seen : (x : Report) → Sent x reports → x.version ≤ seen x.sender

abbrev pub StructureOf : Setting → World → Type 0
StructureOf m w = Structure m w.now w.seen w.settled

abbrev pub LevelsOf : Setting → World → Type 0
LevelsOf m w = Levels m w.now w.seen w.settled w.snapshots w.reports w.level
