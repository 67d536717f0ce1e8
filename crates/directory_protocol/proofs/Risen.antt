-- The authority of a set of hashes becomes a table, at a version above their levels: what such a table owes, and what is
-- then kept.
use Rattle.std.proofs.Common.{◌≡◌, ◌<◌, ◌≤◌, ℕ, suc, Bool, true, cond, Option, Some, None, sym, refl, ap, ◌∙◌, subst, arith}
use Rattle.silo_address.specs.Silo.{Silo}
use Rattle.silo_address.specs.Grain.{Grain}
use Rattle.silo_address.specs.declared.activation.ActivationId.{ActivationId}
use Rattle.directory_protocol.specs.Change.{where_true}
use Rattle.directory_protocol.specs.Setting.{Setting}
use Rattle.directory_protocol.specs.Letters.{activation_on, Registered, Reply, Snapshot, Report, Sent}
use Rattle.directory_protocol.specs.World.{World, Held, Firm, count_of, surviving}
use Rattle.directory_protocol.specs.Actions.{Counts}
use Rattle.directory_protocol.specs.Authority.{IsHeld, Confirmed, Reported}
use Rattle.directory_protocol.specs.Invariant.{Placed, Backed}
use Rattle.directory_protocol.proofs.Changes.{on_bool}

-- what the table owes, on the hashes of `up`, at the version v
pub record IsBacked (m : Setting) (w : World) (up : ℕ → Bool) (table : Grain → Option ActivationId) (v : ℕ) : Type 0 where
  pub raised : (h : ℕ) → up h ≡ true → w.level h < v
  -- it is within the authority, and on members of the version
  pub within : (g : Grain) (a : ActivationId) → up (m.hash g) ≡ true → table g ≡ Some a → w.authority g ≡ Some a
  pub on_member : (g : Grain) (a : ActivationId) → up (m.hash g) ≡ true → table g ≡ Some a → m.member v a.silo ≡ true
  -- it has what is confirmed, and what later reports name
  pub has_firm :
      (s : Silo) (g : Grain) (c : ℕ) → up (m.hash g) ≡ true → m.alive w.now s ≡ true → w.held s g ≡ Some (Firm c)
      → table g ≡ Some (activation_on s c)
  pub has_registered :
      (y : Reply) (g : Grain) (x : Held) → up (m.hash g) ≡ true → Sent y w.replies → y.answer ≡ Registered
      → m.alive w.now y.receiver ≡ true → Counts w.seen w.held y g x → table g ≡ Some (activation_on y.receiver (count_of x))
  pub has_reported :
      (x : Report) (g : Grain) (c : ℕ) → up (m.hash g) ≡ true → Sent x w.reports → v < x.version → x.firm g ≡ Some c
      → table g ≡ Some (activation_on x.sender c)

module _ (m : Setting) (w : World) (p : Placed m w) (b : Backed m w) (up : ℕ → Bool) (table : Grain → Option ActivationId) (v : ℕ)
    (r : IsBacked m w up table v) where
  pub within_risen : (g : Grain) (a : ActivationId) → where_true (λ g. up (m.hash g)) table w.authority g ≡ Some a → w.authority g ≡ Some a
  within_risen g a =
      on_bool (λ t. cond t (table g) (w.authority g) ≡ Some a → w.authority g ≡ Some a) (up (m.hash g)) (r.within g a) (λ u e. e)

  pub on_member_risen :
      (g : Grain) (a : ActivationId) → where_true (λ g. up (m.hash g)) table w.authority g ≡ Some a
      → m.member (where_true up (λ h. v) w.level (m.hash g)) a.silo ≡ true
  on_member_risen g a =
      on_bool (λ t. cond t (table g) (w.authority g) ≡ Some a → m.member (cond t v (w.level (m.hash g))) a.silo ≡ true) (up (m.hash g))
      (r.on_member g a) (λ u. b.entries.on_member g a)

  pub held_risen : (g : Grain) (a : ActivationId) → where_true (λ g. up (m.hash g)) table w.authority g ≡ Some a → IsHeld w.held g a
  held_risen g a e = b.entries.held_there g a (within_risen g a e)

  pub sealed_risen :
      (x : Snapshot) (g : Grain) → Sent x w.snapshots → x.covers (m.hash g) ≡ true
      → where_true up (λ h. v) w.level (m.hash g) ≡ x.sealed_at
      → x.entries g ≡ surviving m (suc x.sealed_at) (where_true (λ g. up (m.hash g)) table w.authority g)
  sealed_risen x g q c =
      on_bool (λ t. cond t v (w.level (m.hash g)) ≡ x.sealed_at
      → x.entries g ≡ surviving m (suc x.sealed_at) (cond t (table g) (w.authority g))) (up (m.hash g))
      (λ u e. let low : x.sealed_at ≤ w.level (m.hash g) = p.levels.sealed_low x (m.hash g) q c in
      let l : w.level (m.hash g) < v = r.raised (m.hash g) u in
      absurd (omega arith))
      (λ u. b.entries.sealed x g q c)

  pub confirmed_risen : Confirmed m w.now w.seen w.held w.replies (where_true (λ g. up (m.hash g)) table w.authority)
  confirmed_risen =
      record {
        firm =
            λ s g c a e. on_bool (λ t. cond t (table g) (w.authority g) ≡ Some (activation_on s c)) (up (m.hash g))
            (λ u. r.has_firm s g c u a e) (λ u. b.confirmed.firm s g c a e);
        registered =
            λ y g x q e a c. on_bool (λ t. cond t (table g) (w.authority g) ≡ Some (activation_on y.receiver (count_of x))) (up (m.hash g))
            (λ u. r.has_registered y g x u q e a c) (λ u. b.confirmed.registered y g x q e a c);
        refused = λ y g x q e c i. b.confirmed.refused y g x q e c (within_risen g (activation_on y.receiver (count_of x)) i);
      }

  level_risen : (h : ℕ) → w.level h ≤ where_true up (λ h. v) w.level h
  level_risen h = on_bool (λ t. w.level h ≤ cond t v (w.level h)) (up h) (λ u.
      let l : w.level h < v = r.raised h u in
      omega arith) (λ u. omega arith)

  pub reported_risen : Reported m w.held w.reports (where_true up (λ h. v) w.level) (where_true (λ g. up (m.hash g)) table w.authority)
  reported_risen =
      record {
        right = λ x g c q.
            on_bool (λ t. cond t v (w.level (m.hash g)) < x.version → x.firm g ≡ Some c
            → cond t (table g) (w.authority g) ≡ Some (activation_on x.sender c)) (up (m.hash g))
            (λ u. r.has_reported x g c u q)
            (λ u. b.reported.right x g c q);
        all_firm =
            λ x g c q l e. b.reported.all_firm x g c q
            (let i : w.level (m.hash g) ≤ where_true up (λ h. v) w.level (m.hash g) = level_risen (m.hash g) in
            omega arith) e;
        shrinking =
            λ x y g c q i d j l e. b.reported.shrinking x y g c q i d j
            (let n : w.level (m.hash g) ≤ where_true up (λ h. v) w.level (m.hash g) = level_risen (m.hash g) in
            omega arith) e;
      }

-- an entry that survives was there, on a silo that isn't dead; and it survives there
pub surviving_was : (m : Setting) (v : ℕ) (o : Option ActivationId) (a : ActivationId) → surviving m v o ≡ Some a → o ≡ Some a
surviving_was m v None a e = absurd cc
surviving_was m v (Some d) a e =
    on_bool (λ t. cond t (Some d) None ≡ Some a → Some d ≡ Some a) (m.alive v d.silo) (λ u e. e) (λ u e. absurd cc) e

pub surviving_lives :
    (m : Setting) (v : ℕ) (o : Option ActivationId) (a : ActivationId) → surviving m v o ≡ Some a → m.alive v a.silo ≡ true
surviving_lives m v None a e = absurd cc
surviving_lives m v (Some d) a e =
    on_bool (λ t. m.alive v d.silo ≡ t → cond t (Some d) None ≡ Some a → m.alive v a.silo ≡ true) (m.alive v d.silo)
    (λ u i e. let same : d ≡ a = cc in subst (λ a. m.alive v a.silo ≡ true) same u)
    (λ u i e. absurd cc)
    refl e

pub surviving_stays :
    (m : Setting) (v : ℕ) (o : Option ActivationId) (a : ActivationId) → o ≡ Some a → m.alive v a.silo ≡ true
    → surviving m v o ≡ Some a
surviving_stays m v o a e l = subst (λ o. surviving m v o ≡ Some a) (sym e) (ap (λ t. cond t (Some a) None) l)

-- the authority less what is dead at the version is such a table
pub backed_by_surviving :
    (m : Setting) (w : World) (p : Placed m w) (b : Backed m w) (up : ℕ → Bool) (table : Grain → Option ActivationId) (v : ℕ)
    → v ≤ w.now → ((h : ℕ) → up h ≡ true → w.level h < v)
    → ((g : Grain) → up (m.hash g) ≡ true → table g ≡ surviving m v (w.authority g)) → IsBacked m w up table v
backed_by_surviving m w p b up table v known raised is =
    record {
      raised = raised;
      within = λ g a u e. surviving_was m v (w.authority g) a (sym (is g u) ∙ e);
      on_member = λ g a u e.
          let l : w.level (m.hash g) < v = raised (m.hash g) u in
          let old : m.member (w.level (m.hash g)) a.silo ≡ true = b.entries.on_member g a (surviving_was m v (w.authority g) a (sym (is g u) ∙ e)) in
          m.member_until_death (w.level (m.hash g)) v a.silo (omega arith) old (surviving_lives m v (w.authority g) a (sym (is g u) ∙ e));
      has_firm =
          λ s g c u a e. is g u ∙ surviving_stays m v (w.authority g) (activation_on s c) (b.confirmed.firm s g c a e)
          (m.dead_stays_dead v w.now s known a);
      has_registered = λ y g x u q e a c.
          is g u ∙ surviving_stays m v (w.authority g) (activation_on y.receiver (count_of x)) (b.confirmed.registered y g x q e a c)
          (m.dead_stays_dead v w.now y.receiver known a);
      has_reported = λ x g c u q l e.
          let below : w.level (m.hash g) < v = raised (m.hash g) u in
          let member : m.member x.version x.sender ≡ true = p.levels.told_member x q (omega arith) in
          is g u
          ∙ surviving_stays m v (w.authority g) (activation_on x.sender c) (b.reported.right x g c q (omega arith) e)
          (m.dead_stays_dead v x.version x.sender (omega arith) (m.member_is_alive x.version x.sender member));
    }
