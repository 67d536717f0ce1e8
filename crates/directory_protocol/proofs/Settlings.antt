-- A silo settles part of what it owns: by a snapshot, or by the reports of all members.
use Rattle.std.proofs.Common.{◌≡◌, ◌≢◌, ◌⊎◌, ◌<◌, ◌≤◌, ℕ, Bool, true, cond, Some, [], inl, inr, sym, refl, ap, ◌∙◌, subst, arith}
use Rattle.std.proofs.lemmas.Bool.{cases_order}
use Rattle.silo_address.specs.Silo.{Silo}
use Rattle.silo_address.specs.Grain.{Grain}
use Rattle.directory_protocol.specs.Change.{put, where_true}
use Rattle.directory_protocol.specs.Setting.{Setting}
use Rattle.directory_protocol.specs.Letters.{Snapshot, Report}
use Rattle.directory_protocol.specs.World.{World}
use Rattle.directory_protocol.specs.Actions.{Settling, MaySettle, MayInstall, MayRecover}
use Rattle.directory_protocol.specs.Effects.{after_settling}
use Rattle.directory_protocol.specs.Levels.{Structure, IsLeft, IsBarred}
use Rattle.directory_protocol.specs.Invariant.{Placed}
use Rattle.directory_protocol.proofs.Changes.{on_bool, not_both, put_all, put_same}
use Rattle.directory_protocol.proofs.Left.{later_same}
use Rattle.directory_protocol.proofs.Rise.{Rises, levels_rise}

-- the hashes settled after it, at each silo
abbrev settled_after : World → Settling → Silo → ℕ → Bool
settled_after w x = put x.silo (where_true x.part (λ h. true) (w.settled x.silo)) w.settled

module _ (m : Setting) (w : World) (x : Settling) (may : MaySettle m w x) (p : Placed m w) where
  -- a live owner that hasn't settled the hash isn't at its level
  pub unsettled_above : (h : ℕ) → x.part h ≡ true → w.level h ≢ w.seen x.silo
  unsettled_above h u e =
      elim (p.levels.top x.silo h (subst (λ k. m.owner k h ≡ Some x.silo) (sym e) (may.owned h u)) may.alive) [
        | inl l ↦ omega arith
        | inr t ↦ not_both t.1 (may.unsettled h u)
      ]

  settled_cases : (q : Silo) (h : ℕ) → settled_after w x q h ≡ true → ((x.part h ≡ true) × (q ≡ x.silo)) ⊎ (w.settled q h ≡ true)
  settled_cases q h =
      put_all (λ q f. f h ≡ true → ((x.part h ≡ true) × (q ≡ x.silo)) ⊎ (w.settled q h ≡ true)) x.silo
      (where_true x.part (λ h. true) (w.settled x.silo)) w.settled
      (on_bool (λ b. cond b true (w.settled x.silo h) ≡ true → ((b ≡ true) × (x.silo ≡ x.silo)) ⊎ (w.settled x.silo h ≡ true)) (x.part h)
      (λ u t. inl (refl, refl)) (λ u t. inr t))
      (λ q n t. inr t)
      q

  still_settled : (q : Silo) (h : ℕ) → w.settled q h ≡ true → settled_after w x q h ≡ true
  still_settled q h =
      put_all (λ q f. w.settled q h ≡ true → f h ≡ true) x.silo (where_true x.part (λ h. true) (w.settled x.silo)) w.settled
      (λ t. on_bool (λ b. cond b true (w.settled x.silo h) ≡ true) (x.part h) (λ u. refl) (λ u. t))
      (λ q n t. t)
      q

  now_settled : (h : ℕ) → x.part h ≡ true → settled_after w x x.silo h ≡ true
  now_settled h u =
      ap (λ f. f h) (put_same x.silo (where_true x.part (λ h. true) (w.settled x.silo)) w.settled)
      ∙ ap (λ b. cond b true (w.settled x.silo h)) u

  settling_structure : Structure m w.now w.seen (settled_after w x)
  settling_structure =
      record {
        known = p.structure.known;
        member = p.structure.member;
        owned = λ q h t.
            elim (settled_cases q h t) [
              | inl i ↦ subst (λ q. m.owner (w.seen q) h ≡ Some q) (sym i.1) (may.owned h i.0)
              | inr o ↦ p.structure.owned q h o
            ];
      }

  settling_rises :
      ((h : ℕ) → x.part h ≡ true → w.level h < w.seen x.silo)
      → ((h k : ℕ) → x.part h ≡ true → w.level h ≤ k → k < w.seen x.silo → IsLeft m w.now w.seen h k)
      → Rises m w w.seen (settled_after w x) w.snapshots x.silo x.part
  settling_rises raised left =
      record {
        later = later_same m w.now w.seen;
        structure = settling_structure;
        settles = now_settled;
        raised = raised;
        left = λ h u. left h (w.level h) u (omega arith) (raised h u);
        between = λ h k u above under. inl (left h k u (omega arith) under);
        no_other = λ q h t. elim (settled_cases q h t) [ inl i ↦ inl i | inr o ↦ inr (o, refl) ];
        stays = λ q h u t. inr (refl, still_settled q h t);
        new_snapshot = λ y h q c. inl q;
        sealed_once = p.levels.sealed_once;
      }

  placed_settling :
      ((h : ℕ) → x.part h ≡ true → w.level h < w.seen x.silo)
      → ((h k : ℕ) → x.part h ≡ true → w.level h ≤ k → k < w.seen x.silo → IsLeft m w.now w.seen h k)
      → Placed m (after_settling m w x)
  placed_settling raised left =
      record {
        structure = settling_structure;
        levels = levels_rise m w w.seen (settled_after w x) w.snapshots x.silo x.part (settling_rises raised left) p;
      }

module _ (m : Setting) (w : World) (x : Settling) (snapshot : Snapshot) (may : MayInstall m w x snapshot) (p : Placed m w) where
  -- the snapshot has what its sealer had settled last
  pub install_level : (h : ℕ) → x.part h ≡ true → w.level h ≡ snapshot.sealed_at
  install_level h u = from_order (cases_order (w.level h) (w.seen x.silo))
    where
      low : snapshot.sealed_at ≤ w.level h
      low = p.levels.sealed_low snapshot h may.sent (may.covered h u)

      barred : IsBarred m w.now w.seen w.snapshots w.reports h (w.seen x.silo) → w.level h ≡ snapshot.sealed_at
      barred b = absurd (b.none_sealed snapshot may.sent (may.covered h u) may.same_version)

      left : IsLeft m w.now w.seen h (w.seen x.silo) → w.level h ≡ snapshot.sealed_at
      left l =
          let gone : w.seen x.silo < w.seen x.silo = l x.silo (may.settles.owned h u) may.settles.alive in
          absurd (omega arith)

      from_order :
          (w.level h ≡ w.seen x.silo) ⊎ ((w.level h < w.seen x.silo) ⊎ (w.seen x.silo < w.level h))
          → w.level h ≡ snapshot.sealed_at
      from_order (inl e) = absurd (unsettled_above m w x may.settles p h u e)
      from_order (inr (inl l)) = omega (arith, may.same_version, low)
      from_order (inr (inr l)) = elim (p.levels.below h (w.seen x.silo) l) [ inl a ↦ left a | inr b ↦ barred b ]

  pub placed_install : Placed m (after_settling m w x)
  placed_install =
      placed_settling m w x may.settles p
      (λ h u. let at : w.level h ≡ snapshot.sealed_at = install_level h u in omega (arith, may.same_version))
      (λ h k u above under.
      let at : w.level h ≡ snapshot.sealed_at = install_level h u in
      let same : snapshot.sealed_at ≡ k = omega (arith, may.same_version) in
      subst (λ k. IsLeft m w.now w.seen h k) same (p.levels.sealed_left snapshot h may.sent (may.covered h u)))

-- some grain: what a member reported of any shows that it has seen the version
some_grain : Grain
some_grain = record { kind = []; key = [] }

module _ (m : Setting) (w : World) (x : Settling) (told : Silo → Grain → Report) (may : MayRecover m w x told) (p : Placed m w) where
  pub recover_below : (h : ℕ) → x.part h ≡ true → w.level h < w.seen x.silo
  recover_below h u = from_order (cases_order (w.level h) (w.seen x.silo))
    where
      barred : IsBarred m w.now w.seen w.snapshots w.reports h (w.seen x.silo) → w.level h < w.seen x.silo
      barred b =
          absurd (b.none_told (told b.silent some_grain) (may.sent b.silent some_grain b.was_member)
          (may.own_report b.silent some_grain b.was_member) (may.same_version b.silent some_grain b.was_member))

      left : IsLeft m w.now w.seen h (w.seen x.silo) → w.level h < w.seen x.silo
      left l =
          let gone : w.seen x.silo < w.seen x.silo = l x.silo (may.settles.owned h u) may.settles.alive in
          absurd (omega arith)

      from_order : (w.level h ≡ w.seen x.silo) ⊎ ((w.level h < w.seen x.silo) ⊎ (w.seen x.silo < w.level h)) → w.level h < w.seen x.silo
      from_order (inl e) = absurd (unsettled_above m w x may.settles p h u e)
      from_order (inr (inl l)) = l
      from_order (inr (inr l)) = elim (p.levels.below h (w.seen x.silo) l) [ inl a ↦ left a | inr b ↦ barred b ]

  -- each live member has seen the version at which it reported
  pub member_saw : (r : Silo) → m.member (w.seen x.silo) r ≡ true → w.seen x.silo ≤ w.seen r
  member_saw r i =
      let its : Report = told r some_grain in
      let told_seen : its.version ≤ w.seen its.sender = p.levels.told_seen its (may.sent r some_grain i) in
      let at : its.version ≡ w.seen x.silo = may.same_version r some_grain i in
      let by : w.seen its.sender ≡ w.seen r = ap w.seen (may.own_report r some_grain i) in
      omega arith

  pub placed_recover : Placed m (after_settling m w x)
  placed_recover =
      placed_settling m w x may.settles p recover_below
      (λ h k u above under s o a.
      let old : m.member k s ≡ true = m.owner_is_member k h s o in
      let known : w.seen x.silo ≤ w.now = p.structure.known x.silo in
      let is_member : m.member (w.seen x.silo) s ≡ true = m.member_until_death k (w.seen x.silo) s (omega arith) old (m.dead_stays_dead (w.seen x.silo) w.now s known a) in
      let saw : w.seen x.silo ≤ w.seen s = member_saw s is_member in
      omega arith)
