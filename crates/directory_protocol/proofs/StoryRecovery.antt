-- Recoveries of the small cluster: at the third version the third silo settles all, from the reports of the three silos.
use Rattle.std.proofs.Common.{◌≡◌, ℕ, true, false, cond, Option, Some, None, inl, inr, sym, refl, ap, ◌∙◌, subst}
use Rattle.silo_address.specs.Silo.{Silo, silo_eq}
use Rattle.silo_address.specs.Grain.{Grain, grain_eq}
use Rattle.silo_address.proofs.Same.{Decides-grain}
use Rattle.silo_address.specs.declared.activation.ActivationId.{ActivationId}
use Rattle.directory_protocol.specs.Change.{put_grain}
use Rattle.directory_protocol.specs.Letters.{Report, Sent}
use Rattle.directory_protocol.specs.World.{World, Held, firm_count}
use Rattle.directory_protocol.specs.Actions.{Settling, MayRecover}
use Rattle.directory_protocol.proofs.Changes.{on_bool}
use Rattle.directory_protocol.proofs.Story.{first, second, third, ann, cluster, members, all}

abbrev pub settles_all : (Grain → Option ActivationId) → Settling
settles_all entries = record { silo = third; part = all; entries = entries }

-- no entry, and one entry, of ann
abbrev pub no_entry : Grain → Option ActivationId
no_entry g = None

abbrev pub only : ActivationId → Grain → Option ActivationId
only a = put_grain ann (Some a) (λ g. None)

-- the reports of the three silos, each of all grains
abbrev pub of_three : Report → Report → Report → Silo → Grain → Report
of_three a b c r g = cond (silo_eq r first) a (cond (silo_eq r second) b c)

-- what holds of the three silos holds of each member of the third view
pub of_members : (P : Silo → Type 0) → P first → P second → P third → (r : Silo) → cluster.member 3 r ≡ true → P r
of_members P a b c r e =
    elim (members 3 r e) [ inl i ↦ subst P (sym i.0) a | inr i ↦ elim i [ inl j ↦ subst P (sym j.0) b | inr j ↦ subst P (sym j.0) c ] ]

-- it was sent by that silo at the third version, and what it names is among the entries
pub record IsToldBy (w : World) (entries : Grain → Option ActivationId) (s : Silo) (x : Report) : Type 0 where
  pub sent : Sent x w.reports
  pub version : x.version ≡ 3
  pub sender : x.sender ≡ s
  pub entered : (g : Grain) (c : ℕ) → x.firm g ≡ Some c → (a : ActivationId) × (entries g ≡ Some a)

-- each entry is of a member, and in its report
abbrev pub AreTold : (Grain → Option ActivationId) → (Silo → Grain → Report) → Type 0
AreTold entries told =
    (g : Grain) (a : ActivationId) → entries g ≡ Some a → (cluster.member 3 a.silo ≡ true) × ((told a.silo g).firm g ≡ Some a.count)

pub may_recover :
    (w : World) (entries : Grain → Option ActivationId) (a b c : Report) → cluster.alive w.now third ≡ true → w.seen third ≡ 3
    → ((h : ℕ) → w.settled third h ≡ false) → IsToldBy w entries first a → IsToldBy w entries second b
    → IsToldBy w entries third c → AreTold entries (of_three a b c) → MayRecover cluster w (settles_all entries) (of_three a b c)
may_recover w entries a b c alive seen unsettled ta tb tc told =
    record {
      settles = record { alive = alive; owned = λ h e. ap (λ k. cluster.owner k h) seen; unsettled = λ h e. unsettled h };
      sent = λ r g i. of_members (λ r. Sent (of_three a b c r g) w.reports) ta.sent tb.sent tc.sent r (at_three r i);
      same_version =
          λ r g i. of_members (λ r. (of_three a b c r g).version ≡ 3) ta.version tb.version tc.version r (at_three r i) ∙ sym seen;
      own_report = λ r g i. of_members (λ r. (of_three a b c r g).sender ≡ r) ta.sender tb.sender tc.sender r (at_three r i);
      from_member = λ g x u e. subst (λ k. cluster.member k x.silo ≡ true) (sym seen) (told g x e).0;
      from_report = λ g x u e. (told g x e).1;
      complete =
          λ g r n u i e. of_members (λ r. (of_three a b c r g).firm g ≡ Some n → (x : ActivationId) × (entries g ≡ Some x)) (ta.entered g n)
          (tb.entered g n) (tc.entered g n) r (at_three r i) e;
    }
  where
    at_three : (r : Silo) → cluster.member (w.seen third) r ≡ true → cluster.member 3 r ≡ true
    at_three r i = subst (λ k. cluster.member k r ≡ true) seen i

pub none_told : (told : Silo → Grain → Report) → AreTold no_entry told
none_told told g a e = absurd cc

pub only_told :
    (told : Silo → Grain → Report) (a : ActivationId) → cluster.member 3 a.silo ≡ true → (told a.silo ann).firm ann ≡ Some a.count
    → AreTold (only a) told
unfolding put_grain
only_told told a member firm g x =
    on_bool (λ b. grain_eq g ann ≡ b → cond b (Some a) None ≡ Some x
    → (cluster.member 3 x.silo ≡ true) × ((told x.silo g).firm g ≡ Some x.count)) (grain_eq g ann)
    (λ t i e.
    let same : a ≡ x = cc in
    subst (λ (x : ActivationId). (cluster.member 3 x.silo ≡ true) × ((told x.silo g).firm g ≡ Some x.count)) same
    (member, subst (λ g. (told a.silo g).firm g ≡ Some a.count) (sym ((Decides-grain g ann).0 t)) firm))
    (λ t i e. absurd cc)
    refl

-- a silo that held ann alone, first as o and then as p, has nothing else to report
pub ann_alone :
    (a : ActivationId) (o p : Option Held) (g : Grain) (c : ℕ)
    → firm_count (cond (grain_eq g ann) p (cond (grain_eq g ann) o None)) ≡ Some c → (x : ActivationId) × (only a g ≡ Some x)
unfolding put_grain
ann_alone a o p g c =
    on_bool (λ b. firm_count (cond b p (cond b o None)) ≡ Some c → (x : ActivationId) × (cond b (Some a) None ≡ Some x)) (grain_eq g ann)
    (λ t e. (a, refl)) (λ t e. absurd cc)
