-- What stays by itself while views come and silos see them: an owner that went past a version, and a barred version.
use Rattle.std.proofs.Common.{◌≡◌, ◌≢◌, ◌⊎◌, ◌<◌, ◌≤◌, ℕ, suc, true, List, inl, inr, arith}
use Rattle.silo_address.specs.Silo.{Silo}
use Rattle.directory_protocol.specs.Setting.{Setting}
use Rattle.directory_protocol.specs.Letters.{Snapshot, Report, Sent}
use Rattle.directory_protocol.specs.Levels.{IsLeft, IsBarred}

-- time went on: no dead silo is live again, and versions seen only rose
pub record IsLater (m : Setting) (now : ℕ) (seen : Silo → ℕ) (now' : ℕ) (seen' : Silo → ℕ) : Type 0 where
  pub alive : (s : Silo) → m.alive now' s ≡ true → m.alive now s ≡ true
  pub no_less : (s : Silo) → seen s ≤ seen' s

pub later_same : (m : Setting) (now : ℕ) (seen : Silo → ℕ) → IsLater m now seen now seen
later_same m now seen = record { alive = λ s a. a; no_less = λ s. omega arith }

pub later_view : (m : Setting) (now : ℕ) (seen : Silo → ℕ) → IsLater m now seen (suc now) seen
later_view m now seen =
    record { alive = λ s a. m.dead_stays_dead now (suc now) s (omega arith) a; no_less = λ s. omega arith }

module _ (m : Setting) (now : ℕ) (seen : Silo → ℕ) (now' : ℕ) (seen' : Silo → ℕ) (later : IsLater m now seen now' seen') (h k : ℕ) where
  pub left_stays : IsLeft m now seen h k → IsLeft m now' seen' h k
  left_stays left s o a =
      let b : k < seen s = left s o (later.alive s a) in
      let c : seen s ≤ seen' s = later.no_less s in
      omega arith

  -- new snapshots may come, if none for version k has h
  pub barred_stays :
      (snapshots snapshots' : List Snapshot) (reports : List Report)
      → ((x : Snapshot) → Sent x snapshots' → x.covers h ≡ true → Sent x snapshots ⊎ (suc x.sealed_at ≢ k))
      → IsBarred m now seen snapshots reports h k → IsBarred m now' seen' snapshots' reports h k
  barred_stays snapshots snapshots' reports new barred =
      record {
        none_sealed = λ x q c. elim (new x q c) [ inl p ↦ barred.none_sealed x p c | inr n ↦ n ];
        silent = barred.silent;
        was_member = barred.was_member;
        went_past = λ a.
            let b : k < seen barred.silent = barred.went_past (later.alive barred.silent a) in
            let c : seen barred.silent ≤ seen' barred.silent = later.no_less barred.silent in
            omega arith;
        none_told = barred.none_told;
      }
