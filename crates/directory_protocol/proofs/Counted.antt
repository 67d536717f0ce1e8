-- Which replies count: an action makes none count that didn't count before.
use Rattle.std.proofs.Common.{◌≡◌, ◌≢◌, ◌⊎◌, ◌<◌, ◌≤◌, ℕ, Option, Some, None, inl, inr, refl, ap, ◌∙◌, arith}
use Rattle.std.proofs.lemmas.Bool.{cases_order}
use Rattle.silo_address.specs.Silo.{Silo}
use Rattle.silo_address.specs.Grain.{Grain}
use Rattle.directory_protocol.specs.Change.{put, put_at}
use Rattle.directory_protocol.specs.Setting.{Setting}
use Rattle.directory_protocol.specs.Letters.{Purpose, purpose_of, Reply, Sent}
use Rattle.directory_protocol.specs.World.{World, Held, count_of, outstanding}
use Rattle.directory_protocol.specs.Actions.{Sight, MaySee, Counts}
use Rattle.directory_protocol.specs.Requests.{NumbersOf}
use Rattle.directory_protocol.proofs.Changes.{put_same, put_other, put_at_all, silo_cases}

-- at a silo that sees a newer version none counts any more
pub counts_seen :
    (m : Setting) (w : World) (x : Sight) → MaySee m w x → NumbersOf m w → (y : Reply) (g : Grain) (z : Held) → Sent y w.replies
    → Counts (put x.silo x.version w.seen) w.held y g z → Counts w.seen w.held y g z
counts_seen m w x may n y g z q c =
    elim (silo_cases y.receiver x.silo) [
      | inl e ↦
          (let saw : put x.silo x.version w.seen y.receiver ≡ x.version = ap (put x.silo x.version w.seen) e ∙ put_same x.silo x.version w.seen in
          let old : y.version ≤ w.seen y.receiver = n.reply_seen y q in
          let same : w.seen y.receiver ≡ w.seen x.silo = ap w.seen e in
          absurd (omega (arith, c.same_version, may.newer)))
      | inr e ↦ record {
        held_there = c.held_there;
        same_number = c.same_number;
        same_version = c.same_version
            ∙ put_other x.silo x.version w.seen y.receiver e;
      }
    ]

-- where what is held of a grain changes, none counts for it: its number, if it has one, is new
pub counts_turn :
    (m : Setting) (w : World) → NumbersOf m w → (s : Silo) (g : Grain) (o : Option Held)
    → ((x : Held) (purpose : Purpose) (i : ℕ) → o ≡ Some x → outstanding purpose x ≡ Some i → i ≡ w.next_number s) → (y : Reply)
    (h : Grain) (x : Held) → Sent y w.replies → Counts w.seen (put_at s g o w.held) y h x → Counts w.seen w.held y h x
counts_turn m w n s g o fresh y h x t c =
    record {
      held_there =
          put_at_all (λ q h o. q ≡ y.receiver → o ≡ Some x → w.held q h ≡ Some x) s g o w.held
          (λ d e.
          let i : y.number ≡ w.next_number s = fresh x (purpose_of y.answer) y.number e c.same_number in
          let j : y.number < w.next_number y.receiver = n.reply_used y t in
          let l : w.next_number s ≡ w.next_number y.receiver = ap w.next_number d in
          absurd (omega arith))
          (λ q h d i e. e)
          y.receiver h refl c.held_there;
      same_number = c.same_number;
      same_version = c.same_version;
    }

-- a silo holds the activation of that count for that grain, or it doesn't
pub held_or_not :
    (held : Silo → Grain → Option Held) (s : Silo) (h : Grain) (c : ℕ)
    → ((z : Held) × (held s h ≡ Some z) × (count_of z ≡ c)) ⊎ ((z : Held) → held s h ≡ Some z → count_of z ≢ c)
held_or_not held s h c = by_held (held s h) refl
  where
    by_count :
        (z : Held) → held s h ≡ Some z → (count_of z ≡ c) ⊎ ((count_of z < c) ⊎ (c < count_of z))
        → ((z : Held) × (held s h ≡ Some z) × (count_of z ≡ c)) ⊎ ((z : Held) → held s h ≡ Some z → count_of z ≢ c)
    by_count z e (inl i) = inl (z, e, i)
    by_count z e (inr i) =
        inr
        (λ z' e' j.
        let same : z ≡ z' = cc in
        let l : count_of z ≡ c = ap count_of same ∙ j in
        elim i [ inl a ↦ omega arith | inr a ↦ omega arith ])

    by_held :
        (o : Option Held) → held s h ≡ o
        → ((z : Held) × (held s h ≡ Some z) × (count_of z ≡ c)) ⊎ ((z : Held) → held s h ≡ Some z → count_of z ≢ c)
    by_held None e = inr (λ z e' i. cc)
    by_held (Some z) e = by_count z e (cases_order (count_of z) c)
