-- Authority is kept by the actions that settle hashes: a sight, an installation, a recovery.
use Rattle.std.proofs.Common.{◌≡◌, ◌≢◌, ◌<◌, ◌≤◌, ℕ, suc, true, cond, Some, inl, inr, sym, refl, ap, ◌∙◌, arith}
use Rattle.silo_address.specs.Silo.{Silo}
use Rattle.silo_address.specs.Grain.{Grain}
use Rattle.silo_address.specs.declared.activation.ActivationId.{ActivationId}
use Rattle.directory_protocol.specs.Change.{put, where_true}
use Rattle.directory_protocol.specs.Setting.{Setting}
use Rattle.directory_protocol.specs.Letters.{activation_on, Snapshot, Report}
use Rattle.directory_protocol.specs.World.{World, count_of, surviving}
use Rattle.directory_protocol.specs.Actions.{See, Install, Recover, Sight, MaySee, Settling, MayInstall, MayRecover}
use Rattle.directory_protocol.specs.Effects.{kept_entries, after_sight, after, after_settling, sealed_by}
use Rattle.directory_protocol.specs.Authority.{Confirmed}
use Rattle.directory_protocol.specs.Invariant.{Placed, Asked, Backed}
use Rattle.directory_protocol.specs.Safety.{OneSettles}
use Rattle.directory_protocol.proofs.Changes.{on_bool, put_same, put_other, silo_cases, sent_all}
use Rattle.directory_protocol.proofs.Sights.{sight_level}
use Rattle.directory_protocol.proofs.Settlings.{install_level, recover_below, member_saw}
use Rattle.directory_protocol.proofs.Placed.{one_settles, placed_after}
use Rattle.directory_protocol.proofs.Counted.{counts_seen}
use Rattle.directory_protocol.proofs.Risen.{IsBacked, backed_by_surviving, on_member_risen, held_risen, sealed_risen, confirmed_risen, reported_risen}

-- ---- a sight

module _ (m : Setting) (w : World) (x : Sight) (may : MaySee m w x) (p : Placed m w) (k : Asked m w) (b : Backed m w) where
  sight_backed : IsBacked m w x.kept (kept_entries m w x) x.version
  sight_backed =
      backed_by_surviving m w p b x.kept (kept_entries m w x) x.version may.known
      (λ h u. let at : w.level h ≡ w.seen x.silo = sight_level m w x may p h u in omega (arith, may.newer))
      (λ g u. ap (surviving m x.version) (b.entries.right x.silo g may.alive (may.kept_settled (m.hash g) u)))

  sight_right :
      (s : Silo) (g : Grain) → m.alive w.now s ≡ true → (after_sight m w x).settled s (m.hash g) ≡ true
      → (after_sight m w x).table s g ≡ (after_sight m w x).authority g
  sight_right s g a t = elim (silo_cases s x.silo) [ inl e ↦ here e | inr n ↦ there n ]
    where
      here : s ≡ x.silo → (after_sight m w x).table s g ≡ (after_sight m w x).authority g
      here e =
          let kept : x.kept (m.hash g) ≡ true = sym (ap (λ f. f (m.hash g)) (ap (put x.silo x.kept w.settled) e ∙ put_same x.silo x.kept w.settled)) ∙ t in
          ap (λ f. f g) (ap (put x.silo (kept_entries m w x) w.table) e ∙ put_same x.silo (kept_entries m w x) w.table)
          ∙ ap (λ t. cond t (kept_entries m w x g) (w.authority g)) (sym kept)

      there : s ≢ x.silo → (after_sight m w x).table s g ≡ (after_sight m w x).authority g
      there n =
          let old : w.settled s (m.hash g) ≡ true = sym (ap (λ f. f (m.hash g)) (put_other x.silo x.kept w.settled s n)) ∙ t in
          on_bool (λ t. (after_sight m w x).table s g ≡ cond t (kept_entries m w x g) (w.authority g)) (x.kept (m.hash g))
          (λ u. absurd (n (one_settles m w p (m.hash g) s x.silo (record { alive = a; settled = old })
          (record { alive = may.alive; settled = may.kept_settled (m.hash g) u }))))
          (λ u. ap (λ f. f g) (put_other x.silo (kept_entries m w x) w.table s n) ∙ b.entries.right s g a old)

  -- what is sealed was settled, and has the authority less what is dead
  sealed_right :
      (g : Grain) → x.sealed (m.hash g) ≡ true → (after_sight m w x).level (m.hash g) ≡ w.seen x.silo
      → kept_entries m w x g ≡ surviving m (suc (w.seen x.silo)) ((after_sight m w x).authority g)
  sealed_right g u =
      on_bool (λ t. cond t x.version (w.level (m.hash g)) ≡ w.seen x.silo
      → kept_entries m w x g ≡ surviving m (suc (w.seen x.silo)) (cond t (kept_entries m w x g) (w.authority g))) (x.kept (m.hash g))
      (λ v e. absurd (omega (arith, may.newer)))
      (λ v e. ap (surviving m x.version) (b.entries.right x.silo g may.alive (may.sealed_settled (m.hash g) u))
      ∙ ap (λ k. surviving m k (w.authority g)) (may.sealed_next (m.hash g) u))

  pub backed_sight : Backed m (after m w (See x))
  backed_sight =
      record {
        entries = record {
          right = sight_right;
          on_member = on_member_risen m w p b x.kept (kept_entries m w x) x.version sight_backed;
          held_there = held_risen m w p b x.kept (kept_entries m w x) x.version sight_backed;
          sealed = λ y g q.
              sent_all (λ y. y.covers (m.hash g) ≡ true → (after_sight m w x).level (m.hash g) ≡ y.sealed_at
              → y.entries g ≡ surviving m (suc y.sealed_at) ((after_sight m w x).authority g)) (sealed_by m w x) w.snapshots
              (sealed_right g)
              (λ y q. sealed_risen m w p b x.kept (kept_entries m w x) x.version sight_backed y g q)
              y q;
        };
        confirmed = record {
          firm = risen.firm;
          registered = λ y g z q e a c. risen.registered y g z q e a (counts_seen m w x may k.numbers y g z q c);
          refused = λ y g z q e c. risen.refused y g z q e (counts_seen m w x may k.numbers y g z q c);
        };
        reported = reported_risen m w p b x.kept (kept_entries m w x) x.version sight_backed;
      }
    where
      risen : Confirmed m w.now w.seen w.held w.replies ((after_sight m w x).authority)
      risen = confirmed_risen m w p b x.kept (kept_entries m w x) x.version sight_backed

-- ---- a table for hashes that weren't settled

backed_settling :
    (m : Setting) (w : World) (x : Settling) → m.alive w.now x.silo ≡ true → Placed m w → Backed m w
    → OneSettles m (after_settling m w x) → IsBacked m w x.part x.entries (w.seen x.silo) → Backed m (after_settling m w x)
backed_settling m w x alive p b one r =
    record {
      entries = record {
        right = λ s g a t. elim (silo_cases s x.silo) [ inl e ↦ here s g e t | inr n ↦ there s g a t n ];
        on_member = on_member_risen m w p b x.part x.entries (w.seen x.silo) r;
        held_there = held_risen m w p b x.part x.entries (w.seen x.silo) r;
        sealed = sealed_risen m w p b x.part x.entries (w.seen x.silo) r;
      };
      confirmed = confirmed_risen m w p b x.part x.entries (w.seen x.silo) r;
      reported = reported_risen m w p b x.part x.entries (w.seen x.silo) r;
    }
  where
    settled_here : (h : ℕ) → (after_settling m w x).settled x.silo h ≡ cond (x.part h) true (w.settled x.silo h)
    settled_here h = ap (λ f. f h) (put_same x.silo (where_true x.part (λ h. true) (w.settled x.silo)) w.settled)

    here :
        (s : Silo) (g : Grain) → s ≡ x.silo → (after_settling m w x).settled s (m.hash g) ≡ true
        → (after_settling m w x).table s g ≡ (after_settling m w x).authority g
    here s g e t =
        ap (λ s. (after_settling m w x).table s g) e
        ∙ ap (λ f. f g) (put_same x.silo (where_true (λ g. x.part (m.hash g)) x.entries (w.table x.silo)) w.table)
        ∙ on_bool (λ t. cond t true (w.settled x.silo (m.hash g)) ≡ true
        → cond t (x.entries g) (w.table x.silo g) ≡ cond t (x.entries g) (w.authority g)) (x.part (m.hash g))
        (λ u i. refl)
        (λ u i. b.entries.right x.silo g alive i)
        (sym (settled_here (m.hash g)) ∙ sym (ap (λ s. (after_settling m w x).settled s (m.hash g)) e) ∙ t)

    there :
        (s : Silo) (g : Grain) → m.alive w.now s ≡ true → (after_settling m w x).settled s (m.hash g) ≡ true → s ≢ x.silo
        → (after_settling m w x).table s g ≡ (after_settling m w x).authority g
    there s g a t n =
        let old : w.settled s (m.hash g) ≡ true = sym (ap (λ f. f (m.hash g)) (put_other x.silo (where_true x.part (λ h. true) (w.settled x.silo)) w.settled s n)) ∙ t in
        ap (λ f. f g) (put_other x.silo (where_true (λ g. x.part (m.hash g)) x.entries (w.table x.silo)) w.table s n)
        ∙ on_bool (λ t. w.table s g ≡ cond t (x.entries g) (w.authority g)) (x.part (m.hash g))
        (λ u. absurd (n (one (m.hash g) s x.silo (record { alive = a; settled = t })
        (record { alive = alive; settled = settled_here (m.hash g) ∙ ap (λ t. cond t true (w.settled x.silo (m.hash g))) u }))))
        (λ u. b.entries.right s g a old)

pub backed_install :
    (m : Setting) (w : World) (x : Settling) (snapshot : Snapshot) → MayInstall m w x snapshot → Placed m w → Backed m w
    → Backed m (after m w (Install x snapshot))
backed_install m w x snapshot may p b =
    backed_settling m w x may.settles.alive p b (one_settles m (after m w (Install x snapshot))
    (placed_after m w (Install x snapshot) may p))
    (backed_by_surviving m w p b x.part x.entries (w.seen x.silo) (p.structure.known x.silo)
    (λ h u. let at : w.level h ≡ snapshot.sealed_at = install_level m w x snapshot may p h u in omega (arith, may.same_version))
    (λ g u.
    may.entries g u
    ∙ b.entries.sealed snapshot g may.sent (may.covered (m.hash g) u) (install_level m w x snapshot may p (m.hash g) u)
    ∙ ap (λ v. surviving m v (w.authority g)) may.same_version))

-- ---- the reports of all members

module _ (m : Setting) (w : World) (x : Settling) (told : Silo → Grain → Report) (may : MayRecover m w x told) (p : Placed m w) (k : Asked m w)
    (b : Backed m w) where
  -- a report's version is above the levels of the part
  above : (g : Grain) (r : Silo) → x.part (m.hash g) ≡ true → m.member (w.seen x.silo) r ≡ true → w.level (m.hash g) < (told r g).version
  above g r u i =
      let l : w.level (m.hash g) < w.seen x.silo = recover_below m w x told may p (m.hash g) u in
      let e : (told r g).version ≡ w.seen x.silo = may.same_version r g i in
      omega arith

  recovered_within : (g : Grain) (a : ActivationId) → x.part (m.hash g) ≡ true → x.entries g ≡ Some a → w.authority g ≡ Some a
  recovered_within g a u e =
      let i : m.member (w.seen x.silo) a.silo ≡ true = may.from_member g a u e in
      b.reported.right (told a.silo g) g a.count (may.sent a.silo g i) (above g a.silo u i) (may.from_report g a u e)
      ∙ ap (λ s. Some (activation_on s a.count)) (may.own_report a.silo g i)

  -- what a member reported is entered
  told_enters :
      (g : Grain) (r : Silo) (c : ℕ) → x.part (m.hash g) ≡ true → m.member (w.seen x.silo) r ≡ true
      → w.authority g ≡ Some (activation_on r c) → (told r g).firm g ≡ Some c → x.entries g ≡ Some (activation_on r c)
  told_enters g r c u i e f =
      let entered = may.complete g r c u i f in
      entered.1 ∙ sym (recovered_within g entered.0 u entered.1) ∙ e

  -- who holds the authority is a member, if it isn't dead
  member_then :
      (g : Grain) (a : ActivationId) → x.part (m.hash g) ≡ true → w.authority g ≡ Some a → m.alive (w.seen x.silo) a.silo ≡ true
      → m.member (w.seen x.silo) a.silo ≡ true
  member_then g a u e l =
      let below : w.level (m.hash g) < w.seen x.silo = recover_below m w x told may p (m.hash g) u in
      m.member_until_death (w.level (m.hash g)) (w.seen x.silo) a.silo (omega arith) (b.entries.on_member g a e) l

  recover_backed : IsBacked m w x.part x.entries (w.seen x.silo)
  recover_backed =
      record {
        raised = recover_below m w x told may p;
        within = recovered_within;
        on_member = may.from_member;
        has_firm = λ s g c u a e.
            let is : w.authority g ≡ Some (activation_on s c) = b.confirmed.firm s g c a e in
            let i : m.member (w.seen x.silo) s ≡ true = member_then g (activation_on s c) u is (m.dead_stays_dead (w.seen x.silo) w.now s (p.structure.known x.silo) a) in
            told_enters g s c u i is
            (b.reported.all_firm (told s g) g c (may.sent s g i) (above g s u i) (ap (λ s. w.held s g) (may.own_report s g i) ∙ e));
        has_registered = λ y g z u q e a c.
            let is : w.authority g ≡ Some (activation_on y.receiver (count_of z)) = b.confirmed.registered y g z q e a c in
            let i : m.member (w.seen x.silo) y.receiver ≡ true = member_then g (activation_on y.receiver (count_of z)) u is (m.dead_stays_dead (w.seen x.silo) w.now y.receiver (p.structure.known x.silo) a) in
            let saw : w.seen x.silo ≤ w.seen y.receiver = member_saw m w x told may p y.receiver i in
            let spent : y.version ≤ w.level (m.hash g) = (k.spent.replied y g z q c).reached in
            let below : w.level (m.hash g) < w.seen x.silo = recover_below m w x told may p (m.hash g) u in
            absurd (omega (arith, c.same_version));
        has_reported = λ y g c u q l e.
            let below : w.level (m.hash g) < w.seen x.silo = recover_below m w x told may p (m.hash g) u in
            let is : w.authority g ≡ Some (activation_on y.sender c) = b.reported.right y g c q (omega arith) e in
            let member : m.member y.version y.sender ≡ true = p.levels.told_member y q (omega arith) in
            let lives : m.alive (w.seen x.silo) y.sender ≡ true = m.dead_stays_dead (w.seen x.silo) y.version y.sender (omega arith) (m.member_is_alive y.version y.sender member) in
            let i : m.member (w.seen x.silo) y.sender ≡ true = member_then g (activation_on y.sender c) u is lives in
            told_enters g y.sender c u i is
            (b.reported.shrinking (told y.sender g) y g c (may.sent y.sender g i) q (sym (may.own_report y.sender g i))
            (let at : (told y.sender g).version ≡ w.seen x.silo = may.same_version y.sender g i in
            omega arith) (above g y.sender u i) e);
      }

  pub backed_recover : Backed m (after m w (Recover x told))
  backed_recover =
      backed_settling m w x may.settles.alive p b (one_settles m (after m w (Recover x told)) (placed_after m w (Recover x told) may p))
      recover_backed
