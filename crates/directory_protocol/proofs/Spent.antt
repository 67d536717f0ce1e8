-- Spent numbers: they stay spent, and no request under a spent number is served.
use Rattle.std.proofs.Common.{◌≡◌, ◌⊎◌, ◌<◌, ◌≤◌, ℕ, true, Some, inl, inr, sym, ◌∙◌, subst, arith}
use Rattle.silo_address.specs.Silo.{Silo}
use Rattle.directory_protocol.specs.Setting.{Setting}
use Rattle.directory_protocol.specs.World.{World}
use Rattle.directory_protocol.specs.Actions.{Service, MayServe}
use Rattle.directory_protocol.specs.Requests.{IsSpent}
use Rattle.directory_protocol.specs.Invariant.{Placed}
use Rattle.directory_protocol.proofs.Left.{IsLater}

-- for lower versions and lower numbers it is spent too
pub spent_lower :
    (m : Setting) (now : ℕ) (seen : Silo → ℕ) (served : Silo → Silo → ℕ) (level : ℕ → ℕ) (t : Silo) (h k n k' n' : ℕ) → k' ≤ k
    → n' ≤ n → IsSpent m now seen served level t h k n → IsSpent m now seen served level t h k' n'
spent_lower m now seen served level t h k n k' n' lk ln spent =
    record {
      reached = lower;
      used = λ e s o a.
          let same : k' ≡ k = omega (arith, spent.reached) in
          elim (spent.used (e ∙ same) s (subst (λ j. m.owner j h ≡ Some s) same o) a) [
            | inl p ↦ inl (subst (λ j. j < seen s) (sym same) p)
            | inr q ↦ inr (let b : n ≤ served s t = q in omega arith)
          ];
    }
  where
    lower : k' ≤ level h
    lower = omega (arith, spent.reached)

-- it stays spent where the level only rises, and where an owner at the level that hasn't gone past it only serves more
pub spent_stays :
    (m : Setting) (now : ℕ) (seen : Silo → ℕ) (now' : ℕ) (seen' : Silo → ℕ) → IsLater m now seen now' seen'
    → (served served' : Silo → Silo → ℕ) (level level' : ℕ → ℕ) (t : Silo) (h k n : ℕ) → level h ≤ level' h
    → ((s : Silo) → level' h ≡ level h → m.owner (level h) h ≡ Some s → m.alive now s ≡ true → (level h < seen' s)
    ⊎ (served s t ≤ served' s t))
    → IsSpent m now seen served level t h k n → IsSpent m now' seen' served' level' t h k n
spent_stays m now seen now' seen' later served served' level level' t h k n rises serves spent =
    record {
      reached = omega (arith, spent.reached);
      used = λ e s o a.
          let reached : k ≤ level h = spent.reached in
          let at : level h ≡ k = omega arith in
          let live : m.alive now s ≡ true = later.alive s a in
          let no_less : seen s ≤ seen' s = later.no_less s in
          elim (spent.used at s o live) [
            | inl p ↦ inl (omega arith)
            | inr q ↦
                elim (serves s (e ∙ sym at) (subst (λ j. m.owner j h ≡ Some s) (sym at) o) live) [
                  | inl p ↦ inl (subst (λ j. j < seen' s) at p)
                  | inr p ↦ inr (omega arith)
                ]
          ];
    }

-- what is served isn't spent
pub not_spent :
    (m : Setting) (w : World) (x : Service) → Placed m w → MayServe m w x
    → IsSpent m w.now w.seen w.served w.level x.request.sender (m.hash x.request.grain) x.request.version x.request.number → ⊥
not_spent m w x placed may spent =
    elim (spent.used at x.server owned may.alive) [ inl p ↦ omega (arith, may.same_version) | inr p ↦ omega (arith, may.new_number) ]
  where
    h : ℕ
    h = m.hash x.request.grain

    at : w.level h ≡ x.request.version
    at = placed.levels.at_level x.server h may.alive may.settled ∙ may.same_version

    owned : m.owner x.request.version h ≡ Some x.server
    owned = subst (λ j. m.owner j h ≡ Some x.server) may.same_version (placed.structure.owned x.server h may.settled)
