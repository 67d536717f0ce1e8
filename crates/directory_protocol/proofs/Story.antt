-- A small cluster, and its first actions. It has three silos, that join in views 1, 2 and 3, and one hash. The first silo
-- owns it in views 1, 2, 4 and 5, the third in view 3. The second silo is dead from view 5 on.
use Rattle.std.proofs.Common.{◌≡◌, ◌≢◌, ◌⊎◌, ◌<◌, ◌≤◌, ◌&&◌, ℕ, zero, suc, Bool, true, false, cond, nat_le, nat_lt, Option, Some, None, List, [], ◌∷◌, inl, inr, sym, refl, ap, ◌∙◌, subst, arith, leb-true, ltb-true, le-leb, lt-ltb}
use Rattle.std.proofs.lemmas.Bool.{and_parts, and_from}
use Rattle.silo_address.specs.Silo.{Silo, silo_eq}
use Rattle.silo_address.specs.Grain.{Grain}
use Rattle.silo_address.proofs.Same.{Decides-silo}
use Rattle.silo_address.specs.declared.activation.ActivationId.{ActivationId}
use Rattle.directory_protocol.specs.Change.{put, put_grain, put_at}
use Rattle.directory_protocol.specs.Setting.{Setting}
use Rattle.directory_protocol.specs.Letters.{Register, Deregister, Answer, Request, Reply}
use Rattle.directory_protocol.specs.World.{World, start}
use Rattle.directory_protocol.specs.Actions.{Action, Allowed, New_view, See, Serve, Tell, Recover}
use Rattle.directory_protocol.specs.Effects.{reported, run, AllAllowed}
use Rattle.directory_protocol.proofs.Changes.{bool_cases}

abbrev pub silo_number : ℕ → Silo
silo_number n = record { ip = 10 ∷ 0 ∷ 0 ∷ n ∷ []; port = 1000; generation = 1 }

abbrev pub first : Silo
first = silo_number 1

abbrev pub second : Silo
second = silo_number 2

abbrev pub third : Silo
third = silo_number 3

abbrev pub ann : Grain
ann = record { kind = 117 ∷ []; key = 97 ∷ [] }

-- the view in which a silo joins, and the one in which it is dead
abbrev pub joins : Silo → ℕ
joins s = cond (silo_eq s first) 1 (cond (silo_eq s second) 2 (cond (silo_eq s third) 3 100))

abbrev pub dies : Silo → ℕ
dies s = cond (silo_eq s second) 5 100

abbrev pub owns : ℕ → ℕ → Option Silo
owns zero h = None
owns (suc zero) h = Some first
owns (suc (suc zero)) h = Some first
owns (suc (suc (suc zero))) h = Some third
owns (suc (suc (suc (suc zero)))) h = Some first
owns (suc (suc (suc (suc (suc zero))))) h = Some first
owns (suc (suc (suc (suc (suc (suc k)))))) h = None

abbrev pub is_member : ℕ → Silo → Bool
is_member k s = nat_le (joins s) k && nat_lt k (dies s)

pub owner_joined : (k h : ℕ) (s : Silo) → owns k h ≡ Some s → is_member k s ≡ true
owner_joined zero h s e = absurd cc
owner_joined (suc zero) h s e = let same : first ≡ s = cc in subst (λ s. is_member 1 s ≡ true) same refl
owner_joined (suc (suc zero)) h s e = let same : first ≡ s = cc in subst (λ s. is_member 2 s ≡ true) same refl
owner_joined (suc (suc (suc zero))) h s e = let same : third ≡ s = cc in subst (λ s. is_member 3 s ≡ true) same refl
owner_joined (suc (suc (suc (suc zero)))) h s e = let same : first ≡ s = cc in subst (λ s. is_member 4 s ≡ true) same refl
owner_joined (suc (suc (suc (suc (suc zero))))) h s e = let same : first ≡ s = cc in subst (λ s. is_member 5 s ≡ true) same refl
owner_joined (suc (suc (suc (suc (suc (suc k)))))) h s e = absurd cc

pub none_at_first : (h : ℕ) (s : Silo) → owns 0 h ≢ Some s
none_at_first h s e = cc

abbrev pub cluster : Setting
cluster =
    record {
      hash = λ g. 0;
      owner = owns;
      member = is_member;
      alive = λ k s. nat_lt k (dies s);
      no_owner_at_first = none_at_first;
      owner_is_member = owner_joined;
      member_is_alive = λ k s e. (and_parts (nat_le (joins s) k) (nat_lt k (dies s)) e).1;
      dead_stays_dead = λ j k s l e. let a : k < dies s = ltb-true k (dies s) e in lt-ltb j (dies s) (omega arith);
      member_until_death = λ j k s l e a.
          let b : joins s ≤ j = leb-true (joins s) j (and_parts (nat_le (joins s) j) (nat_lt j (dies s)) e).0 in
          and_from (nat_le (joins s) k) (nat_lt k (dies s)) (le-leb (joins s) k (omega arith)) a;
    }

-- who is a member of a view: a silo that joined up to then
pub members :
    (k : ℕ) (s : Silo) → cluster.member k s ≡ true
    → ((s ≡ first) × (1 ≤ k)) ⊎ (((s ≡ second) × (2 ≤ k)) ⊎ ((s ≡ third) × (3 ≤ k)))
members k s e = by_name (bool_cases (silo_eq s first)) (bool_cases (silo_eq s second)) (bool_cases (silo_eq s third))
  where
    joined : joins s ≤ k
    joined = leb-true (joins s) k (and_parts (nat_le (joins s) k) (nat_lt k (dies s)) e).0

    soon : k < dies s
    soon = ltb-true k (dies s) (and_parts (nat_le (joins s) k) (nat_lt k (dies s)) e).1

    by_name :
        (silo_eq s first ≡ true) ⊎ (silo_eq s first ≡ false) → (silo_eq s second ≡ true) ⊎ (silo_eq s second ≡ false)
        → (silo_eq s third ≡ true) ⊎ (silo_eq s third ≡ false)
        → ((s ≡ first) × (1 ≤ k)) ⊎ (((s ≡ second) × (2 ≤ k)) ⊎ ((s ≡ third) × (3 ≤ k)))
    by_name (inl a) b c =
        let at : joins s ≡ 1 = ap (λ t. cond t 1 (cond (silo_eq s second) 2 (cond (silo_eq s third) 3 100))) a in
        inl ((Decides-silo s first).0 a, omega (arith, joined))
    by_name (inr a) (inl b) c =
        let at : joins s ≡ 2 = ap (λ t. cond t 1 (cond (silo_eq s second) 2 (cond (silo_eq s third) 3 100))) a ∙ ap (λ t. cond t 2 (cond (silo_eq s third) 3 100)) b in
        inr (inl ((Decides-silo s second).0 b, omega (arith, joined)))
    by_name (inr a) (inr b) (inl c) =
        let at : joins s ≡ 3 = ap (λ t. cond t 1 (cond (silo_eq s second) 2 (cond (silo_eq s third) 3 100))) a ∙ ap (λ t. cond t 2 (cond (silo_eq s third) 3 100)) b ∙ ap (λ t. cond t 3 100) c in
        inr (inr ((Decides-silo s third).0 c, omega (arith, joined)))
    by_name (inr a) (inr b) (inr c) =
        let at : joins s ≡ 100 = ap (λ t. cond t 1 (cond (silo_eq s second) 2 (cond (silo_eq s third) 3 100))) a ∙ ap (λ t. cond t 2 (cond (silo_eq s third) 3 100)) b ∙ ap (λ t. cond t 3 100) c in
        let until : dies s ≡ 100 = ap (λ t. cond t 5 100) b in
        absurd (omega (arith, joined, soon))

pub only_first : (s : Silo) → cluster.member 1 s ≡ true → s ≡ first
only_first s e =
    elim (members 1 s e) [ inl a ↦ a.0 | inr a ↦ elim a [ inl b ↦ absurd (omega (arith, b.1)) | inr b ↦ absurd (omega (arith, b.1)) ] ]

abbrev pub all : ℕ → Bool
all h = true

abbrev pub no_hash : ℕ → Bool
no_hash h = false

-- the first view comes, the first silo sees it, and recovers what it owns
abbrev pub seen_first : World
seen_first = run cluster (New_view ∷ See (record { silo = first; version = 1; kept = no_hash; sealed = no_hash }) ∷ []) start

abbrev pub opening : List Action
opening =
    New_view ∷ See (record { silo = first; version = 1; kept = no_hash; sealed = no_hash })
    ∷ Tell first
    ∷ Recover (record { silo = first; part = all; entries = λ g. None }) (λ r g. reported seen_first first)
    ∷ []

pub opening_allowed : AllAllowed cluster opening start
unfolding put put_at put_grain
opening_allowed = (
  tt,
  (
    record {
      alive = refl;
      newer = omega arith;
      known = omega arith;
      member = refl;
      kept_settled = λ h e. absurd cc;
      kept_owned = λ h e. absurd cc;
      sealed_settled = λ h e. absurd cc;
      sealed_next = λ h e. absurd cc;
    },
    (
      refl,
      (
        record {
          settles = record { alive = refl; owned = λ h e. refl; unsettled = λ h e. refl };
          sent = λ r g e. inl refl;
          same_version = λ r g e. refl;
          own_report = λ r g e. sym (only_first r e);
          from_member = λ g a e f. absurd cc;
          from_report = λ g a e f. absurd cc;
          complete = λ g r c e f i. absurd cc;
        },
        tt,
      ),
    ),
  ),
)

-- ---- actions

-- the silo sees the version, and neither keeps nor seals anything
abbrev pub sees : Silo → ℕ → Action
sees s k = See (record { silo = s; version = k; kept = no_hash; sealed = no_hash })

pub may_see :
    (w : World) (s : Silo) (k : ℕ) → cluster.alive w.now s ≡ true → w.seen s < k → k ≤ w.now → cluster.member k s ≡ true
    → Allowed cluster w (sees s k)
may_see w s k alive newer known member =
    record {
      alive = alive;
      newer = newer;
      known = known;
      member = member;
      kept_settled = λ h e. absurd cc;
      kept_owned = λ h e. absurd cc;
      sealed_settled = λ h e. absurd cc;
      sealed_next = λ h e. absurd cc;
    }

abbrev pub registration : (version number : ℕ) → Silo → (count : ℕ) → Option ActivationId → Request
registration version number s count previous =
    record {
      purpose = Register;
      version = version;
      number = number;
      sender = s;
      grain = ann;
      count = count;
      previous = previous;
    }

-- the first silo's activation is to be taken out
abbrev pub removal : (version number : ℕ) → Request
removal version number =
    record {
      purpose = Deregister;
      version = version;
      number = number;
      sender = first;
      grain = ann;
      count = 1;
      previous = None;
    }

abbrev pub reply : Answer → (version number : ℕ) → Silo → Reply
reply answer version number s = record { answer = answer; version = version; number = number; receiver = s }

-- the first silo, which owns all, answers
abbrev pub answers : Request → Answer → Option ActivationId → Action
answers r answer entry = Serve (record { server = first; request = r; answer = answer; entry = entry })
