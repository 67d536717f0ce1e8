-- A set of hashes becomes settled at a silo: what such an action owes, and that levels are kept where it pays.
use Rattle.std.proofs.Common.{◌≡◌, ◌⊎◌, ◌<◌, ◌≤◌, ℕ, Bool, true, false, cond, Option, Some, List, inl, inr, sym, ap, ◌∙◌, subst, arith}
use Rattle.std.proofs.lemmas.Bool.{cases_order}
use Rattle.silo_address.specs.Silo.{Silo}
use Rattle.directory_protocol.specs.Change.{where_true}
use Rattle.directory_protocol.specs.Setting.{Setting}
use Rattle.directory_protocol.specs.Letters.{Snapshot, Sent}
use Rattle.directory_protocol.specs.World.{World}
use Rattle.directory_protocol.specs.Levels.{Structure, Levels, IsLeft, IsBarred}
use Rattle.directory_protocol.specs.Invariant.{Placed}
use Rattle.directory_protocol.proofs.Changes.{on_bool, not_both}
use Rattle.directory_protocol.proofs.Left.{IsLater, left_stays, barred_stays}

-- what it owes: it settles the hashes of `up` at the silo s, at the version that s then has seen
pub record Rises
    (m : Setting) (w : World) (seen' : Silo → ℕ) (settled' : Silo → ℕ → Bool) (snapshots' : List Snapshot) (s : Silo)
    (up : ℕ → Bool) : Type 0 where
  pub later : IsLater m w.now w.seen w.now seen'
  pub structure : Structure m w.now seen' settled'
  pub settles : (h : ℕ) → up h ≡ true → settled' s h ≡ true
  -- the version is above the level, and each version from the level on is left by its owner, or above the level barred
  pub raised : (h : ℕ) → up h ≡ true → w.level h < seen' s
  pub left : (h : ℕ) → up h ≡ true → IsLeft m w.now seen' h (w.level h)
  pub between :
      (h k : ℕ) → up h ≡ true → w.level h < k → k < seen' s
      → IsLeft m w.now seen' h k ⊎ IsBarred m w.now seen' snapshots' w.reports h k
  -- what else is settled was so before, and stays so unless its silo saw more
  pub no_other : (q : Silo) (h : ℕ) → settled' q h ≡ true → ((up h ≡ true) × (q ≡ s)) ⊎ ((w.settled q h ≡ true) × (seen' q ≡ w.seen q))
  pub stays :
      (q : Silo) (h : ℕ) → up h ≡ false → w.settled q h ≡ true
      → (w.seen q < seen' q) ⊎ ((seen' q ≡ w.seen q) × (settled' q h ≡ true))
  -- a new snapshot has hashes that were settled at its version, and are left there
  pub new_snapshot :
      (x : Snapshot) (h : ℕ) → Sent x snapshots' → x.covers h ≡ true
      → Sent x w.snapshots ⊎ ((x.sealed_at ≡ w.level h) × IsLeft m w.now seen' h x.sealed_at)
  pub sealed_once :
      (x y : Snapshot) (h : ℕ) → Sent x snapshots' → Sent y snapshots' → x.covers h ≡ true → y.covers h ≡ true
      → x.sealed_at ≡ y.sealed_at → x ≡ y

same_owner : {s t : Silo} {o : Option Silo} → o ≡ Some s → o ≡ Some t → s ≡ t
same_owner p q = cc

module _ (m : Setting) (w : World) (seen' : Silo → ℕ) (settled' : Silo → ℕ → Bool) (snapshots' : List Snapshot) (s : Silo) (up : ℕ → Bool)
    (r : Rises m w seen' settled' snapshots' s up) (p : Placed m w) where
  level' : ℕ → ℕ
  level' = where_true up (λ h. seen' s) w.level

  low : (h : ℕ) → where_true up (λ h. seen' s) w.level h ≤ w.now
  low h = on_bool (λ b. cond b (seen' s) (w.level h) ≤ w.now) (up h) (λ u. r.structure.known s) (λ u. p.levels.low h)

  at_level : (q : Silo) (h : ℕ) → m.alive w.now q ≡ true → settled' q h ≡ true → where_true up (λ h. seen' s) w.level h ≡ seen' q
  at_level q h a t =
      on_bool (λ b. cond b (seen' s) (w.level h) ≡ seen' q) (up h)
      (λ u. elim (r.no_other q h t) [
        | inl i ↦ ap seen' (sym i.1)
        | inr o ↦
            let at : w.level h ≡ w.seen q = p.levels.at_level q h a o.0 in
            let owned : m.owner (w.level h) h ≡ Some q = subst (λ k. m.owner k h ≡ Some q) (sym at) (p.structure.owned q h o.0) in
            let gone : w.level h < seen' q = r.left h u q owned a in
            let same : seen' q ≡ w.seen q = o.1 in
            absurd (omega arith)
      ])
      (λ u. elim (r.no_other q h t) [
        | inl i ↦ not_both i.0 u
        | inr o ↦ p.levels.at_level q h a o.0 ∙ sym o.1
      ])

  top :
      (q : Silo) (h : ℕ) → m.owner (where_true up (λ h. seen' s) w.level h) h ≡ Some q → m.alive w.now q ≡ true
      → (where_true up (λ h. seen' s) w.level h < seen' q) ⊎ ((seen' q ≡ where_true up (λ h. seen' s) w.level h) × (settled' q h ≡ true))
  top q h =
      on_bool (λ b. m.owner (cond b (seen' s) (w.level h)) h ≡ Some q → m.alive w.now q ≡ true → (cond b (seen' s) (w.level h) < seen' q)
      ⊎ ((seen' q ≡ cond b (seen' s) (w.level h)) × (settled' q h ≡ true))) (up h)
      (λ u o a.
      let here : settled' s h ≡ true = r.settles h u in
      let e : s ≡ q = same_owner (r.structure.owned s h here) o in
      inr (ap seen' (sym e), subst (λ q. settled' q h ≡ true) e here))
      (λ u o a.
      let no_less : w.seen q ≤ seen' q = r.later.no_less q in
      elim (p.levels.top q h o a) [
        | inl b ↦ inl (omega arith)
        | inr b ↦
            let at : w.seen q ≡ w.level h = b.0 in
            elim (r.stays q h u b.1) [
              | inl c ↦ inl (omega arith)
              | inr c ↦ inr (c.0 ∙ b.0, c.1)
            ]
      ])

  old_below : (h k : ℕ) → k < w.level h → IsLeft m w.now seen' h k ⊎ IsBarred m w.now seen' snapshots' w.reports h k
  old_below h k l =
      elim (p.levels.below h k l) [
        | inl i ↦ inl (left_stays m w.now w.seen w.now seen' r.later h k i)
        | inr b ↦
            inr
            (barred_stays m w.now w.seen w.now seen' r.later h k w.snapshots snapshots' w.reports
            (λ x q c. elim (r.new_snapshot x h q c) [
              | inl o ↦ inl o
              | inr n ↦ inr
                  (λ e. let at : x.sealed_at ≡ w.level h = n.0 in omega arith)
            ])
            b)
      ]

  from_level :
      (h k : ℕ) → up h ≡ true → k < seen' s → (k ≡ w.level h) ⊎ ((k < w.level h) ⊎ (w.level h < k))
      → IsLeft m w.now seen' h k ⊎ IsBarred m w.now seen' snapshots' w.reports h k
  from_level h k u l (inl c) = inl (subst (λ k. IsLeft m w.now seen' h k) (sym c) (r.left h u))
  from_level h k u l (inr (inl c)) = old_below h k c
  from_level h k u l (inr (inr c)) = r.between h k u c l

  below :
      (h k : ℕ) → k < where_true up (λ h. seen' s) w.level h
      → IsLeft m w.now seen' h k ⊎ IsBarred m w.now seen' snapshots' w.reports h k
  below h k =
      on_bool (λ b. k < cond b (seen' s) (w.level h) → IsLeft m w.now seen' h k ⊎ IsBarred m w.now seen' snapshots' w.reports h k) (up h)
      (λ u l. from_level h k u l (cases_order k (w.level h)))
      (λ u l. old_below h k l)

  pub level_rises : (h : ℕ) → w.level h ≤ where_true up (λ h. seen' s) w.level h
  level_rises h = on_bool (λ b. w.level h ≤ cond b (seen' s) (w.level h)) (up h) (λ u.
      let a : w.level h < seen' s = r.raised h u in
      omega arith) (λ u. omega arith)

  pub levels_rise : Levels m w.now seen' settled' snapshots' w.reports (where_true up (λ h. seen' s) w.level)
  levels_rise =
      record {
        low = low;
        at_level = at_level;
        top = top;
        below = below;
        sealed_low = λ x h q c.
            let higher : w.level h ≤ where_true up (λ h. seen' s) w.level h = level_rises h in
            elim (r.new_snapshot x h q c) [
              | inl o ↦ (let lower : x.sealed_at ≤ w.level h = p.levels.sealed_low x h o c in omega arith)
              | inr n ↦ (let at : x.sealed_at ≡ w.level h = n.0 in omega arith)
            ];
        sealed_left = λ x h q c.
            elim (r.new_snapshot x h q c) [
              | inl o ↦ left_stays m w.now w.seen w.now seen' r.later h x.sealed_at (p.levels.sealed_left x h o c)
              | inr n ↦ n.1
            ];
        sealed_once = r.sealed_once;
        told_member = p.levels.told_member;
        told_seen = λ x q.
            let a : x.version ≤ w.seen x.sender = p.levels.told_seen x q in
            let b : w.seen x.sender ≤ seen' x.sender = r.later.no_less x.sender in
            omega arith;
      }
