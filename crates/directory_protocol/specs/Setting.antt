-- The setting of a run: the membership views that come, one after the other, and the hash of each grain.
-- It says nothing of how a view is made or of how an owner is chosen: only what safety needs of them.
use Rattle.std.specs.Prelude.{◌≡◌, ◌≢◌, ◌≤◌, ℕ, Bool, true, Option, Some}
use Rattle.silo_address.specs.Silo.{Silo}
use Rattle.silo_address.specs.Grain.{Grain}

pub record Setting : Type 0 where
  pub hash : Grain → ℕ
  -- the owner of a hash in the view of a version, if there is one
  pub owner : (version hash : ℕ) → Option Silo
  -- in the view of that version, and not dead there
  pub member : (version : ℕ) → Silo → Bool
  -- not dead in the view of that version, whether it is in it or not
  pub alive : (version : ℕ) → Silo → Bool
  -- before the first view nobody owns anything
  pub no_owner_at_first : (h : ℕ) (s : Silo) → owner 0 h ≢ Some s
  pub owner_is_member : (k h : ℕ) (s : Silo) → owner k h ≡ Some s → member k s ≡ true
  pub member_is_alive : (k : ℕ) (s : Silo) → member k s ≡ true → alive k s ≡ true
  pub dead_stays_dead : (j k : ℕ) (s : Silo) → j ≤ k → alive k s ≡ true → alive j s ≡ true
  -- a silo leaves the views by its death alone
  pub member_until_death : (j k : ℕ) (s : Silo) → j ≤ k → member j s ≡ true → alive k s ≡ true → member k s ≡ true
