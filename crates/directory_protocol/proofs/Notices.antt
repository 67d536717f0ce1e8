-- Closing notices: kept by every action.
use Rattle.std.proofs.Common.{◌≡◌, ◌<◌, ◌≤◌, ℕ, suc, true, Option, Some, None, List, ◌∷◌, sym, refl, ap, ◌∙◌, subst, arith}
use Rattle.silo_address.specs.Silo.{Silo}
use Rattle.silo_address.specs.Grain.{Grain}
use Rattle.silo_address.specs.declared.activation.ActivationId.{ActivationId}
use Rattle.directory_protocol.specs.Change.{put, put_at}
use Rattle.directory_protocol.specs.Setting.{Setting}
use Rattle.directory_protocol.specs.Letters.{activation_on, purpose_of, Purpose, Register, Deregister, Request, named, Report, Offer}
use Rattle.directory_protocol.specs.World.{World, start, Held, Asking, Firm, Closing, count_of, outstanding, renumbered, previous_of, is_closing, firm_count}
use Rattle.directory_protocol.specs.Actions.{Action, New_view, See, Start, Close, Offer_away, Renew, Find, Serve, Confirm, Leave, Tell, Install, Recover, Allowed, MayStart, MayClose}
use Rattle.directory_protocol.specs.Effects.{after, asked, reported}
use Rattle.directory_protocol.specs.Notices.{Notices, NoticesOf, IsGivenUp}
use Rattle.directory_protocol.specs.Invariant.{Placed}
use Rattle.directory_protocol.proofs.Changes.{put_all, put_same, put_at_all, put_at_same, sent_all}
use Rattle.directory_protocol.proofs.Left.{IsLater}
use Rattle.directory_protocol.proofs.Sights.{later_sight}
use Rattle.directory_protocol.proofs.Numbers.{renumbered_count}

pub notices_start : NoticesOf start
notices_start =
    record {
      counted = λ s g x e. absurd cc;
      deregistered = λ r q. absurd q;
      replaced = λ r p q. absurd q;
      offered = λ o q. absurd q;
      replacing = λ s g c n p e. absurd cc;
    }

-- what is reported firm is firm
pub firm_count_inv : (o : Option Held) (c : ℕ) → firm_count o ≡ Some c → o ≡ Some (Firm c)
firm_count_inv None c e = absurd cc
firm_count_inv (Some (Asking d n p)) c e = absurd cc
firm_count_inv (Some (Firm d)) c e = let same : d ≡ c = cc in ap (λ d. Some (Firm d)) same
firm_count_inv (Some (Closing d n)) c e = absurd cc

renumbered_closing : (n : ℕ) (x : Held) → is_closing (renumbered n x) ≡ is_closing x
renumbered_closing n (Asking c i p) = refl
renumbered_closing n (Firm c) = refl
renumbered_closing n (Closing c i) = refl

given_up_later :
    (held : Silo → Grain → Option Held) (next_count : Silo → ℕ) (reports : List Report) (p : ActivationId) (g : Grain) (j k : ℕ)
    → j ≤ k → IsGivenUp held next_count reports p g j → IsGivenUp held next_count reports p g k
given_up_later held next_count reports p g j k l u =
    record {
      started = u.started;
      closing = u.closing;
      unreported = λ x q e d. let a : x.version ≤ j = u.unreported x q e d in omega arith;
    }

-- what a silo holds of one grain changes: what has a closing notice there stays closing or goes
module _ (seen : Silo → ℕ) (held : Silo → Grain → Option Held) (count count' : Silo → ℕ) (reports : List Report)
    (rises : (q : Silo) → count q ≤ count' q) (s : Silo) (g : Grain) (o : Option Held)
    (closes : (c : ℕ) → c < count s → ((x : Held) → held s g ≡ Some x → count_of x ≡ c → is_closing x ≡ true) → (x : Held) → o ≡ Some x
    → count_of x ≡ c → is_closing x ≡ true) where
  given_up_turn :
      (p : ActivationId) (h : Grain) (k : ℕ) → IsGivenUp held count reports p h k
      → IsGivenUp (put_at s g o held) count' reports p h k
  given_up_turn p h k u =
      record {
        started = (let a : p.count < count p.silo = u.started in let b : count p.silo ≤ count' p.silo = rises p.silo in omega arith);
        closing = put_at_all (λ q r o. q ≡ p.silo → r ≡ h → (x : Held) → o ≡ Some x → count_of x ≡ p.count → is_closing x ≡ true) s g o held
            (λ d i. closes p.count (let a : p.count < count p.silo = u.started in let b : count s ≡ count p.silo = ap count d in
            omega arith)
            (λ x e. u.closing x (sym (ap (λ q. held q h) d) ∙ sym (ap (λ r. held s r) i) ∙ e)))
            (λ q r n d i x e. u.closing x (sym (ap (λ q. held q h) d) ∙ sym (ap (λ r. held q r) i) ∙ e))
            p.silo h refl refl;
        unreported = u.unreported;
      }

  pub notices_turn :
      (requests : List Request) (offers : List Offer) → ((x : Held) → o ≡ Some x → count_of x < count' s)
      → ((c n : ℕ) (p : ActivationId) → o ≡ Some (Asking c n (Some p)) → IsGivenUp held count reports p g (seen s))
      → Notices seen held count requests offers reports → Notices seen (put_at s g o held) count' requests offers reports
  notices_turn requests offers counted replacing k =
      record {
        counted = put_at_all (λ q r o. (x : Held) → o ≡ Some x → count_of x < count' q) s g o held counted
            (λ q r n x e. let a : count_of x < count q = k.counted q r x e in let b : count q ≤ count' q = rises q in omega arith);
        deregistered = λ r q e. given_up_turn (named r) r.grain r.version (k.deregistered r q e);
        replaced = λ r p q e. given_up_turn p r.grain r.version (k.replaced r p q e);
        offered = λ f q. given_up_turn f.activation f.grain f.version (k.offered f q);
        replacing = λ q r c n p e.
            given_up_turn p r (seen q)
            (put_at_all (λ q r o. o ≡ Some (Asking c n (Some p)) → IsGivenUp held count reports p r (seen q)) s g o held (replacing c n p)
            (λ q r d e. k.replacing q r c n p e) q r e);
      }

notices_request :
    (seen : Silo → ℕ) (held : Silo → Grain → Option Held) (count : Silo → ℕ) (requests : List Request) (offers : List Offer)
    (reports : List Report) (r : Request) → (r.purpose ≡ Deregister → IsGivenUp held count reports (named r) r.grain r.version)
    → ((p : ActivationId) → r.previous ≡ Some p → IsGivenUp held count reports p r.grain r.version)
    → Notices seen held count requests offers reports → Notices seen held count (r ∷ requests) offers reports
notices_request seen held count requests offers reports r deregistered replaced k =
    record {
      counted = k.counted;
      deregistered =
          sent_all (λ r. r.purpose ≡ Deregister → IsGivenUp held count reports (named r) r.grain r.version) r requests deregistered
          k.deregistered;
      replaced = λ r' p q.
          sent_all (λ r. r.previous ≡ Some p → IsGivenUp held count reports p r.grain r.version) r requests (replaced p)
          (λ r' q. k.replaced r' p q) r' q;
      offered = k.offered;
      replacing = k.replacing;
    }

-- what a silo holds closing may be named in a closing notice of the version that it has seen
own_notice :
    (m : Setting) (w : World) → Placed m w → (held' : Silo → Grain → Option Held) (s : Silo) (g : Grain) (c : ℕ)
    → c < w.next_count s → ((x : Held) → held' s g ≡ Some x → is_closing x ≡ true)
    → IsGivenUp held' w.next_count w.reports (activation_on s c) g (w.seen s)
own_notice m w p held' s g c started closing =
    record {
      started = started;
      closing = λ x e d. closing x e;
      unreported = λ x q e d.
          let a : x.version ≤ w.seen x.sender = p.levels.told_seen x q in
          let b : w.seen x.sender ≡ w.seen s = ap w.seen e in
          omega arith;
    }

module _ (m : Setting) (w : World) (p : Placed m w) (k : NoticesOf w) where
  notices_of_start :
      (s : Silo) (g : Grain) (previous : Option ActivationId) → MayStart m w s g previous
      → NoticesOf (after m w (Start s g previous))
  notices_of_start s g previous may =
      notices_request w.seen (put_at s g (Some new) w.held) count' w.requests w.offers w.reports
      (asked w Register s g (w.next_count s) previous)
      (λ e. absurd cc)
      (λ a e. given_up_turn w.seen w.held w.next_count count' w.reports rises s g (Some new) closes a g (w.seen s) (offered a e))
      (notices_turn w.seen w.held w.next_count count' w.reports rises s g (Some new) closes w.requests w.offers
      (λ x e. let same : new ≡ x = cc in
      let c : w.next_count s ≡ count_of x = ap count_of same in
      rw (put_same s (suc (w.next_count s)) w.next_count) (omega arith))
      (λ c n a e. offered a cc)
      k)
    where
      new : Held
      new = Asking (w.next_count s) (w.next_number s) previous

      count' : Silo → ℕ
      count' = put s (suc (w.next_count s)) w.next_count

      rises : (q : Silo) → w.next_count q ≤ count' q
      rises = put_all (λ q n. w.next_count q ≤ n) s (suc (w.next_count s)) w.next_count (omega arith) (λ q n. omega arith)

      closes :
          (c : ℕ) → c < w.next_count s → ((x : Held) → w.held s g ≡ Some x → count_of x ≡ c → is_closing x ≡ true) → (x : Held)
          → Some new ≡ Some x → count_of x ≡ c → is_closing x ≡ true
      closes c l old x e d = let same : new ≡ x = cc in let i : w.next_count s ≡ count_of x = ap count_of same in absurd (omega arith)

      offered : (a : ActivationId) → previous ≡ Some a → IsGivenUp w.held w.next_count w.reports a g (w.seen s)
      offered a e =
          let o = may.offered a e in
          given_up_later w.held w.next_count w.reports a g (o.0).version (w.seen s) o.4
          (subst (λ g. IsGivenUp w.held w.next_count w.reports a g (o.0).version) o.2
          (subst (λ a. IsGivenUp w.held w.next_count w.reports a (o.0).grain (o.0).version) o.3 (k.offered o.0 o.1)))

  -- the activation is held closing from now on
  notices_of_closing :
      (s : Silo) (g : Grain) (x : Held) (n : ℕ) → MayClose m w s g x
      → Notices w.seen (put_at s g (Some (Closing (count_of x) n)) w.held) w.next_count w.requests w.offers w.reports
  notices_of_closing s g x n may =
      notices_turn w.seen w.held w.next_count w.next_count w.reports (λ q. omega arith) s g (Some (Closing (count_of x) n))
      (λ d l old y e i. let same : Closing (count_of x) n ≡ y = cc in sym (ap is_closing same))
      w.requests w.offers
      (λ y e. let same : Closing (count_of x) n ≡ y = cc in
      let i : count_of x ≡ count_of y = ap count_of same in
      let l : count_of x < w.next_count s = k.counted s g x may.held in
      omega arith)
      (λ d i a e. absurd cc)
      k

  closing_notice :
      (s : Silo) (g : Grain) (x : Held) (n : ℕ) → MayClose m w s g x
      → IsGivenUp (put_at s g (Some (Closing (count_of x) n)) w.held) w.next_count w.reports (activation_on s (count_of x)) g (w.seen s)
  closing_notice s g x n may =
      own_notice m w p (put_at s g (Some (Closing (count_of x) n)) w.held) s g (count_of x) (k.counted s g x may.held)
      (λ y e.
      let a : put_at s g (Some (Closing (count_of x) n)) w.held s g ≡ Some (Closing (count_of x) n) = put_at_same s g (Some (Closing (count_of x) n)) w.held in
      let same : Closing (count_of x) n ≡ y = cc in
      sym (ap is_closing same))

  notices_of_renewal :
      (s : Silo) (g : Grain) (x : Held) (purpose : Purpose) → w.held s g ≡ Some x → (i : ℕ) → outstanding purpose x ≡ Some i
      → NoticesOf (after m w (Renew s g x purpose))
  notices_of_renewal s g x purpose there i number =
      notices_request w.seen (put_at s g (Some new) w.held) w.next_count w.requests w.offers w.reports
      (asked w purpose s g (count_of x) (previous_of x))
      (closing x purpose there number)
      (λ a e. given_up_turn w.seen w.held w.next_count w.next_count w.reports (λ q. omega arith) s g (Some new) closes a g (w.seen s)
      (previous x there a e))
      (notices_turn w.seen w.held w.next_count w.next_count w.reports (λ q. omega arith) s g (Some new) closes w.requests w.offers
      (λ y e. let same : new ≡ y = cc in
      let c : count_of x ≡ count_of y = sym (renumbered_count (w.next_number s) x) ∙ ap count_of same in
      let l : count_of x < w.next_count s = k.counted s g x there in
      omega arith)
      (λ c n a e. previous x there a (asks_for x c n a cc))
      k)
    where
      new : Held
      new = renumbered (w.next_number s) x

      closes :
          (c : ℕ) → c < w.next_count s → ((y : Held) → w.held s g ≡ Some y → count_of y ≡ c → is_closing y ≡ true) → (y : Held)
          → Some new ≡ Some y → count_of y ≡ c → is_closing y ≡ true
      closes c l old y e d =
          let same : new ≡ y = cc in
          sym (ap is_closing same) ∙ renumbered_closing (w.next_number s) x
          ∙ old x there (sym (renumbered_count (w.next_number s) x) ∙ ap count_of same ∙ d)

      previous :
          (x : Held) → w.held s g ≡ Some x → (a : ActivationId) → previous_of x ≡ Some a
          → IsGivenUp w.held w.next_count w.reports a g (w.seen s)
      previous (Asking c n (Some b)) there a e = k.replacing s g c n a (there ∙ ap (λ b. Some (Asking c n b)) e)
      previous (Asking c n None) there a e = absurd cc
      previous (Firm c) there a e = absurd cc
      previous (Closing c n) there a e = absurd cc

      asks_for : (x : Held) (c n : ℕ) (a : ActivationId) → renumbered (w.next_number s) x ≡ Asking c n (Some a) → previous_of x ≡ Some a
      asks_for (Asking d j b) c n a e = cc
      asks_for (Firm d) c n a e = absurd cc
      asks_for (Closing d j) c n a e = absurd cc

      closing :
          (x : Held) (purpose : Purpose) → w.held s g ≡ Some x → outstanding purpose x ≡ Some i → purpose ≡ Deregister
          → IsGivenUp (put_at s g (Some (renumbered (w.next_number s) x)) w.held) w.next_count w.reports (activation_on s (count_of x)) g
          (w.seen s)
      closing x Register there number e = absurd cc
      closing (Asking c n b) Deregister there number e = absurd cc
      closing (Firm c) Deregister there number e = absurd cc
      closing (Closing c n) Deregister there number e =
          own_notice m w p (put_at s g (Some (Closing c (w.next_number s))) w.held) s g c (k.counted s g (Closing c n) there)
          (λ x e.
          let a : put_at s g (Some (Closing c (w.next_number s))) w.held s g ≡ Some (Closing c (w.next_number s)) = put_at_same s g (Some (Closing c (w.next_number s))) w.held in
          let same : Closing c (w.next_number s) ≡ x = cc in
          sym (ap is_closing same))

  -- an asking activation has no closing notice, so it may become firm
  notices_of_confirming :
      (s : Silo) (g : Grain) (x : Held) (i : ℕ) → w.held s g ≡ Some x → outstanding Register x ≡ Some i
      → Notices w.seen (put_at s g (Some (Firm (count_of x))) w.held) w.next_count w.requests w.offers w.reports
  notices_of_confirming s g x i there number =
      notices_turn w.seen w.held w.next_count w.next_count w.reports (λ q. omega arith) s g (Some (Firm (count_of x)))
      (λ d l old y e j. let same : Firm (count_of x) ≡ y = cc in absurd (asking x number (old x there (ap count_of same ∙ j))))
      w.requests w.offers
      (λ y e. let same : Firm (count_of x) ≡ y = cc in
      let c : count_of x ≡ count_of y = ap count_of same in
      let l : count_of x < w.next_count s = k.counted s g x there in
      omega arith)
      (λ c n a e. absurd cc)
      k
    where
      asking : (x : Held) → outstanding Register x ≡ Some i → is_closing x ≡ true → ⊥
      asking (Asking c n b) number e = cc
      asking (Firm c) number e = cc
      asking (Closing c n) number e = cc

  notices_of_leaving : (s : Silo) (g : Grain) → Notices w.seen (put_at s g None w.held) w.next_count w.requests w.offers w.reports
  notices_of_leaving s g =
      notices_turn w.seen w.held w.next_count w.next_count w.reports (λ q. omega arith) s g None (λ d l old y e j. absurd cc) w.requests
      w.offers (λ y e. absurd cc) (λ c n a e. absurd cc) k

  notices_seen : (seen' : Silo → ℕ) → IsLater m w.now w.seen w.now seen' → Notices seen' w.held w.next_count w.requests w.offers w.reports
  notices_seen seen' later =
      record {
        counted = k.counted;
        deregistered = k.deregistered;
        replaced = k.replaced;
        offered = k.offered;
        replacing =
            λ s g c n a e. given_up_later w.held w.next_count w.reports a g (w.seen s) (seen' s) (later.no_less s)
            (k.replacing s g c n a e);
      }

  -- a report names what is firm, so nothing that has a closing notice
  notices_told : (s : Silo) → NoticesOf (after m w (Tell s))
  notices_told s =
      record {
        counted = k.counted;
        deregistered = λ r q e. still (named r) r.grain r.version (k.deregistered r q e);
        replaced = λ r a q e. still a r.grain r.version (k.replaced r a q e);
        offered = λ o q. still o.activation o.grain o.version (k.offered o q);
        replacing = λ q g c n a e. still a g (w.seen q) (k.replacing q g c n a e);
      }
    where
      still :
          (a : ActivationId) (g : Grain) (v : ℕ) → IsGivenUp w.held w.next_count w.reports a g v
          → IsGivenUp w.held w.next_count (reported w s ∷ w.reports) a g v
      still a g v u =
          record {
            started = u.started;
            closing = u.closing;
            unreported = sent_all (λ x. x.sender ≡ a.silo → x.firm g ≡ Some a.count → x.version ≤ v) (reported w s) w.reports
                (λ e d.
                let firm : w.held s g ≡ Some (Firm a.count) = firm_count_inv (w.held s g) a.count d in
                let closing : is_closing (Firm a.count) ≡ true = u.closing (Firm a.count) (sym (ap (λ q. w.held q g) e) ∙ firm) refl in
                absurd cc)
                u.unreported;
          }

pub notices_after : (m : Setting) (w : World) (a : Action) → Allowed m w a → Placed m w → NoticesOf w → NoticesOf (after m w a)
notices_after m w New_view may p k = k
notices_after m w (See x) may p k = notices_seen m w p k (put x.silo x.version w.seen) (later_sight m w x may)
notices_after m w (Start s g previous) may p k = notices_of_start m w p k s g previous may
notices_after m w (Close s g x) may p k =
    notices_request w.seen (put_at s g (Some (Closing (count_of x) (w.next_number s))) w.held) w.next_count w.requests w.offers w.reports
    (asked w Deregister s g (count_of x) None)
    (λ e. closing_notice m w p k s g x (w.next_number s) may)
    (λ a e. absurd cc)
    (notices_of_closing m w p k s g x (w.next_number s) may)
notices_after m w (Offer_away s g c) may p k =
    let closing : Notices w.seen (put_at s g (Some (Closing c (w.next_number s))) w.held) w.next_count w.requests w.offers w.reports = notices_of_closing m w p k s g (Firm c) (w.next_number s) may in
    record {
      counted = closing.counted;
      deregistered = closing.deregistered;
      replaced = closing.replaced;
      offered =
          sent_all (λ o. IsGivenUp (put_at s g (Some (Closing c (w.next_number s))) w.held) w.next_count w.reports o.activation o.grain
          o.version) (record { version = w.seen s; grain = g; activation = activation_on s c }) w.offers
          (closing_notice m w p k s g (Firm c) (w.next_number s) may) closing.offered;
      replacing = closing.replacing;
    }
notices_after m w (Renew s g x purpose) may p k = notices_of_renewal m w p k s g x purpose may.held (may.outstanding).0 (may.outstanding).1
notices_after m w (Find s) may p k = k
notices_after m w (Serve x) may p k = k
notices_after m w (Confirm y g x) may p k =
    notices_of_confirming m w p k y.receiver g x y.number may.accepted.counts.held_there
    (subst (λ a. outstanding (purpose_of a) x ≡ Some y.number) may.answer may.accepted.counts.same_number)
notices_after m w (Leave y g x) may p k = notices_of_leaving m w p k y.receiver g
notices_after m w (Tell s) may p k = notices_told m w p k s
notices_after m w (Install x snapshot) may p k = k
notices_after m w (Recover x told) may p k = k
