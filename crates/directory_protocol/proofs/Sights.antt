-- A sight: it raises the levels of what it keeps.
use Rattle.std.proofs.Common.{◌≡◌, ◌≢◌, ◌⊎◌, ◌<◌, ◌≤◌, ℕ, suc, true, Some, inl, inr, sym, refl, ap, ◌∙◌, subst, arith}
use Rattle.silo_address.specs.Silo.{Silo}
use Rattle.directory_protocol.specs.Change.{where_true}
use Rattle.directory_protocol.specs.Setting.{Setting}
use Rattle.directory_protocol.specs.Letters.{Snapshot, Sent}
use Rattle.directory_protocol.specs.World.{World}
use Rattle.directory_protocol.specs.Actions.{Sight, MaySee}
use Rattle.directory_protocol.specs.Effects.{sealed_by, after_sight}
use Rattle.directory_protocol.specs.Levels.{Structure, Levels, IsLeft, IsBarred}
use Rattle.directory_protocol.specs.Invariant.{Placed}
use Rattle.directory_protocol.proofs.Changes.{put_all, put_same, put_other, silo_cases, sent_all}
use Rattle.directory_protocol.proofs.Left.{IsLater}
use Rattle.directory_protocol.proofs.Rise.{Rises, levels_rise}

module _ (m : Setting) (w : World) (x : Sight) (may : MaySee m w x) where
  pub later_sight : IsLater m w.now w.seen w.now (after_sight m w x).seen
  later_sight =
      record {
        alive = λ s a. a;
        no_less = put_all (λ s n. w.seen s ≤ n) x.silo x.version w.seen (omega (arith, may.newer)) (λ s n. omega arith);
      }

  sight_structure : Placed m w → Structure m w.now (after_sight m w x).seen (after_sight m w x).settled
  sight_structure p =
      record {
        known = put_all (λ s n. n ≤ w.now) x.silo x.version w.seen may.known (λ s n. p.structure.known s);
        member = put_all (λ s n. 1 ≤ n → m.member n s ≡ true) x.silo x.version w.seen (λ l. may.member) (λ s n. p.structure.member s);
        owned = λ s. elim (silo_cases s x.silo) [ inl e ↦ here s e | inr n ↦ there s n ];
      }
    where
      here : (s : Silo) → s ≡ x.silo → (h : ℕ) → (after_sight m w x).settled s h ≡ true → m.owner ((after_sight m w x).seen s) h ≡ Some s
      here s e h t =
          subst (λ s. (after_sight m w x).settled s h ≡ true → m.owner ((after_sight m w x).seen s) h ≡ Some s) (sym e)
          (λ t. subst (λ k. m.owner k h ≡ Some x.silo) (sym (put_same x.silo x.version w.seen))
          (may.kept_owned h (sym (ap (λ f. f h) (put_same x.silo x.kept w.settled)) ∙ t)))
          t

      there : (s : Silo) → s ≢ x.silo → (h : ℕ) → (after_sight m w x).settled s h ≡ true → m.owner ((after_sight m w x).seen s) h ≡ Some s
      there s n h t =
          subst (λ k. m.owner k h ≡ Some s) (sym (put_other x.silo x.version w.seen s n))
          (p.structure.owned s h (sym (ap (λ f. f h) (put_other x.silo x.kept w.settled s n)) ∙ t))

  pub sight_level : Placed m w → (h : ℕ) → x.kept h ≡ true → w.level h ≡ w.seen x.silo
  sight_level p h u = p.levels.at_level x.silo h may.alive (may.kept_settled h u)

  -- what the silo has settled is left by it once it saw more
  sight_left : Placed m w → (h : ℕ) → w.settled x.silo h ≡ true → IsLeft m w.now (after_sight m w x).seen h (w.seen x.silo)
  sight_left p h t s o a =
      let mine : m.owner (w.seen x.silo) h ≡ Some x.silo = p.structure.owned x.silo h t in
      let e : s ≡ x.silo = cc in
      subst (λ s. w.seen x.silo < (after_sight m w x).seen s) (sym e)
      (subst (λ k. w.seen x.silo < k) (sym (put_same x.silo x.version w.seen)) may.newer)

  -- nothing can be settled at a version that is skipped
  sight_barred :
      Placed m w → (h k : ℕ) → x.kept h ≡ true → w.seen x.silo < k → k < x.version
      → IsBarred m w.now (after_sight m w x).seen (after_sight m w x).snapshots w.reports h k
  sight_barred p h k u above under =
      record {
        none_sealed = sent_all (λ y. y.covers h ≡ true → suc y.sealed_at ≢ k) (sealed_by m w x) w.snapshots
            (λ c e. let next : x.version ≡ suc (w.seen x.silo) = may.sealed_next h c in omega arith)
            (λ y q c e.
            let low : y.sealed_at ≤ w.level h = p.levels.sealed_low y h q c in
            let at : w.level h ≡ w.seen x.silo = sight_level p h u in
            let same : w.seen x.silo ≡ y.sealed_at = omega arith in
            let mine : m.owner y.sealed_at h ≡ Some x.silo = subst (λ k. m.owner k h ≡ Some x.silo) same (p.structure.owned x.silo h (may.kept_settled h u)) in
            let gone : y.sealed_at < w.seen x.silo = p.levels.sealed_left y h q c x.silo mine may.alive in
            omega arith);
        silent = x.silo;
        was_member =
            let old : m.member (w.seen x.silo) x.silo ≡ true = m.owner_is_member (w.seen x.silo) h x.silo (p.structure.owned x.silo h (may.kept_settled h u)) in
            m.member_until_death (w.seen x.silo) k x.silo (omega arith) old
            (m.dead_stays_dead k w.now x.silo (omega (arith, may.known)) may.alive);
        went_past = λ a. subst (λ v. k < v) (sym (put_same x.silo x.version w.seen)) under;
        none_told = λ y q e d.
            let told : y.version ≤ w.seen y.sender = p.levels.told_seen y q in
            let same : w.seen y.sender ≡ w.seen x.silo = ap w.seen e in
            omega arith;
      }

  sight_rises : Placed m w → Rises m w (after_sight m w x).seen (after_sight m w x).settled (after_sight m w x).snapshots x.silo x.kept
  sight_rises p =
      record {
        later = later_sight;
        structure = sight_structure p;
        settles = λ h u. ap (λ f. f h) (put_same x.silo x.kept w.settled) ∙ u;
        raised = λ h u. rw (put_same x.silo x.version w.seen) (let at : w.level h ≡ w.seen x.silo = sight_level p h u in
            omega (arith, may.newer));
        left =
            λ h u. subst (λ k. IsLeft m w.now (after_sight m w x).seen h k) (sym (sight_level p h u))
            (sight_left p h (may.kept_settled h u));
        between = λ h k u above under.
            inr
            (sight_barred p h k u (let at : w.level h ≡ w.seen x.silo = sight_level p h u in omega arith)
            (subst (λ v. k < v) (put_same x.silo x.version w.seen) under));
        no_other = λ q h t.
            elim (silo_cases q x.silo) [
              | inl e ↦ inl (sym (ap (λ f. f h) (ap (after_sight m w x).settled e ∙ put_same x.silo x.kept w.settled)) ∙ t, e)
              | inr n ↦ inr (sym (ap (λ f. f h) (put_other x.silo x.kept w.settled q n)) ∙ t, put_other x.silo x.version w.seen q n)
            ];
        stays = λ q h u t.
            elim (silo_cases q x.silo) [
              | inl e ↦ inl (subst (λ q. w.seen q < (after_sight m w x).seen q) (sym e)
                  (subst (λ v. w.seen x.silo < v) (sym (put_same x.silo x.version w.seen)) may.newer))
              | inr n ↦ inr (put_other x.silo x.version w.seen q n, ap (λ f. f h) (put_other x.silo x.kept w.settled q n) ∙ t)
            ];
        new_snapshot =
            λ y h. sent_all (λ y. y.covers h ≡ true → Sent y w.snapshots
            ⊎ ((y.sealed_at ≡ w.level h) × IsLeft m w.now (after_sight m w x).seen h y.sealed_at)) (sealed_by m w x) w.snapshots
            (λ c. inr (sym (p.levels.at_level x.silo h may.alive (may.sealed_settled h c)), sight_left p h (may.sealed_settled h c)))
            (λ y q c. inl q)
            y;
        sealed_once = λ y z h q. once h y q z;
      }
    where
      not_before : (y : Snapshot) (h : ℕ) → Sent y w.snapshots → y.covers h ≡ true → x.sealed h ≡ true → y.sealed_at ≢ w.seen x.silo
      not_before y h q c u e =
          let mine : m.owner y.sealed_at h ≡ Some x.silo = subst (λ k. m.owner k h ≡ Some x.silo) (sym e) (p.structure.owned x.silo h (may.sealed_settled h u)) in
          let gone : y.sealed_at < w.seen x.silo = p.levels.sealed_left y h q c x.silo mine may.alive in
          omega arith

      once :
          (h : ℕ) (y : Snapshot) → Sent y (after_sight m w x).snapshots → (z : Snapshot) → Sent z (after_sight m w x).snapshots
          → y.covers h ≡ true → z.covers h ≡ true → y.sealed_at ≡ z.sealed_at → y ≡ z
      once h =
          sent_all (λ y. (z : Snapshot) → Sent z (after_sight m w x).snapshots → y.covers h ≡ true → z.covers h ≡ true
          → y.sealed_at ≡ z.sealed_at → y ≡ z) (sealed_by m w x) w.snapshots
          (sent_all (λ z. x.sealed h ≡ true → z.covers h ≡ true → w.seen x.silo ≡ z.sealed_at → sealed_by m w x ≡ z) (sealed_by m w x)
          w.snapshots
          (λ c d e. refl)
          (λ z q c d e. absurd (not_before z h q d c (sym e))))
          (λ y q. sent_all (λ z. y.covers h ≡ true → z.covers h ≡ true → y.sealed_at ≡ z.sealed_at → y ≡ z) (sealed_by m w x) w.snapshots
          (λ c d e. absurd (not_before y h q c d e))
          (λ z r c d e. p.levels.sealed_once y z h q r c d e))

  pub placed_sight : Placed m w → Placed m (after_sight m w x)
  placed_sight p =
      record {
        structure = sight_structure p;
        levels =
            subst (λ v. Levels m w.now (after_sight m w x).seen (after_sight m w x).settled (after_sight m w x).snapshots w.reports
            (where_true x.kept (λ h. v) w.level))
            (put_same x.silo x.version w.seen)
            (levels_rise m w (after_sight m w x).seen (after_sight m w x).settled (after_sight m w x).snapshots x.silo x.kept
            (sight_rises p) p);
      }
