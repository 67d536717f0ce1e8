-- Authority is kept by every action.
use Rattle.std.proofs.Common.{◌≡◌, ◌≢◌, ◌<◌, ◌≤◌, ℕ, suc, true, Option, Some, None, ◌∷◌, sym, refl, ap, ◌∙◌, arith}
use Rattle.silo_address.specs.Silo.{Silo}
use Rattle.silo_address.specs.Grain.{Grain}
use Rattle.directory_protocol.specs.Change.{put_at}
use Rattle.directory_protocol.specs.Setting.{Setting}
use Rattle.directory_protocol.specs.Letters.{activation_on, Purpose, Reply, Report, Sent}
use Rattle.directory_protocol.specs.World.{World, start, Held, Asking, Firm, Closing, count_of, outstanding, renumbered, firm_count}
use Rattle.directory_protocol.specs.Actions.{Action, New_view, See, Start, Close, Offer_away, Renew, Find, Serve, Confirm, Leave, Tell, Install, Recover, Allowed, MayConfirm, MayLeave}
use Rattle.directory_protocol.specs.Effects.{after, reported}
use Rattle.directory_protocol.specs.Authority.{Entries, Confirmed, Reported, EntriesOf, ConfirmedOf, ReportedOf}
use Rattle.directory_protocol.specs.Invariant.{Placed, Asked, Backed}
use Rattle.directory_protocol.proofs.Changes.{put_at_all, sent_all}
use Rattle.directory_protocol.proofs.Numbers.{renumbered_count, renumbered_number, asking_number, closing_number, firm_number}
use Rattle.directory_protocol.proofs.Notices.{firm_count_inv}
use Rattle.directory_protocol.proofs.Counted.{counts_turn}
use Rattle.directory_protocol.proofs.BackedSettled.{backed_sight, backed_install, backed_recover}
use Rattle.directory_protocol.proofs.BackedServed.{backed_served}

pub backed_start : (m : Setting) → Backed m start
backed_start m =
    record {
      entries = record {
        right = λ s g a t. absurd cc;
        on_member = λ g a e. absurd cc;
        held_there = λ g a e. absurd cc;
        sealed = λ x g q. absurd q;
      };
      confirmed = record {
        firm = λ s g c a e. absurd cc;
        registered = λ y g x q. absurd q;
        refused = λ y g x q. absurd q;
      };
      reported = record {
        right = λ x g c q. absurd q;
        all_firm = λ x g c q. absurd q;
        shrinking = λ x y g c q. absurd q;
      };
    }

backed_view : (m : Setting) (w : World) → Backed m w → Backed m (after m w New_view)
backed_view m w b =
    record {
      entries = record {
        right = λ s g a t. b.entries.right s g (m.dead_stays_dead w.now (suc w.now) s (omega arith) a) t;
        on_member = b.entries.on_member;
        held_there = b.entries.held_there;
        sealed = b.entries.sealed;
      };
      confirmed = record {
        firm = λ s g c a e. b.confirmed.firm s g c (m.dead_stays_dead w.now (suc w.now) s (omega arith) a) e;
        registered = λ y g x q e a c. b.confirmed.registered y g x q e (m.dead_stays_dead w.now (suc w.now) y.receiver (omega arith) a) c;
        refused = b.confirmed.refused;
      };
      reported = b.reported;
    }

-- what a silo holds of one grain changes: what it owes
record IsTurned (m : Setting) (w : World) (s : Silo) (g : Grain) (o : Option Held) : Type 0 where
  -- the authority's activation stays
  keeps :
      (x : Held) → w.held s g ≡ Some x → w.authority g ≡ Some (activation_on s (count_of x))
      → (x' : Held) × (o ≡ Some x') × (count_of x' ≡ count_of x)
  -- what is firm is the authority, and was reported
  firm : (c : ℕ) → o ≡ Some (Firm c) → w.authority g ≡ Some (activation_on s c)
  told : (y : Report) (c : ℕ) → o ≡ Some (Firm c) → Sent y w.reports → y.sender ≡ s → w.level (m.hash g) < y.version → y.firm g ≡ Some c
  fresh : (x : Held) (purpose : Purpose) (i : ℕ) → o ≡ Some x → outstanding purpose x ≡ Some i → i ≡ w.next_number s

module _ (m : Setting) (w : World) (k : Asked m w) (b : Backed m w) (s : Silo) (g : Grain) (o : Option Held) (r : IsTurned m w s g o) where
  entries_turn : Entries m w.now w.settled w.table (put_at s g o w.held) w.snapshots w.level w.authority
  entries_turn =
      record {
        right = b.entries.right;
        on_member = b.entries.on_member;
        held_there = λ h a e. let x = b.entries.held_there h a e in
            let y = still a.silo h x.0 x.1 (e ∙ ap (λ n. Some (activation_on a.silo n)) (sym x.2)) in
            (y.0, y.1, y.2 ∙ x.2);
        sealed = b.entries.sealed;
      }
    where
      still :
          (q : Silo) (h : Grain) (x : Held) → w.held q h ≡ Some x → w.authority h ≡ Some (activation_on q (count_of x))
          → (x' : Held) × (put_at s g o w.held q h ≡ Some x') × (count_of x' ≡ count_of x)
      still =
          put_at_all (λ q h o. (x : Held) → w.held q h ≡ Some x → w.authority h ≡ Some (activation_on q (count_of x))
          → (x' : Held) × (o ≡ Some x') × (count_of x' ≡ count_of x)) s g o w.held r.keeps (λ q h n x e a. (x, e, refl))

  confirmed_turn : Confirmed m w.now w.seen (put_at s g o w.held) w.replies w.authority
  confirmed_turn =
      record {
        firm =
            put_at_all (λ q h o. (c : ℕ) → m.alive w.now q ≡ true → o ≡ Some (Firm c) → w.authority h ≡ Some (activation_on q c)) s g o
            w.held (λ c a e. r.firm c e) (λ q h n. b.confirmed.firm q h);
        registered = λ y h x q e a c. b.confirmed.registered y h x q e a (counts_turn m w k.numbers s g o r.fresh y h x q c);
        refused = λ y h x q e c. b.confirmed.refused y h x q e (counts_turn m w k.numbers s g o r.fresh y h x q c);
      }

  reported_turn : Reported m (put_at s g o w.held) w.reports w.level w.authority
  reported_turn =
      record {
        right = b.reported.right;
        all_firm = λ y h c q l e. firm_told y q c y.sender h refl l e;
        shrinking = b.reported.shrinking;
      }
    where
      firm_told :
          (y : Report) → Sent y w.reports → (c : ℕ) (q : Silo) (h : Grain) → y.sender ≡ q → w.level (m.hash h) < y.version
          → put_at s g o w.held q h ≡ Some (Firm c) → y.firm h ≡ Some c
      firm_told y t c =
          put_at_all (λ q h o. y.sender ≡ q → w.level (m.hash h) < y.version → o ≡ Some (Firm c) → y.firm h ≡ Some c) s g o w.held
          (λ d l e. r.told y c e t d l)
          (λ q h n d l e. b.reported.all_firm y h c t l (ap (λ q. w.held q h) d ∙ e))

-- what it holds isn't firm from now on, and the authority's activation stays
turned_open :
    (m : Setting) (w : World) (s : Silo) (g : Grain) (x : Held) → ((y : Held) → w.held s g ≡ Some y → count_of x ≡ count_of y)
    → ((c : ℕ) → x ≢ Firm c) → ((purpose : Purpose) (i : ℕ) → outstanding purpose x ≡ Some i → i ≡ w.next_number s)
    → IsTurned m w s g (Some x)
turned_open m w s g x same loose number =
    record {
      keeps = λ y e a. (x, refl, same y e);
      firm = λ c e. absurd (loose c cc);
      told = λ y c e. absurd (loose c cc);
      fresh = λ y purpose i e u. let z : x ≡ y = cc in number purpose i (ap (outstanding purpose) z ∙ u);
    }

-- with a request outstanding it isn't firm, under whatever number
renumbered_open : (n : ℕ) (x : Held) (purpose : Purpose) (i : ℕ) → outstanding purpose x ≡ Some i → (c : ℕ) → renumbered n x ≢ Firm c
renumbered_open n (Asking d j p) purpose i e c f = cc
renumbered_open n (Firm d) purpose i e c f = firm_number d purpose i e
renumbered_open n (Closing d j) purpose i e c f = cc

turned_confirm :
    (m : Setting) (w : World) (y : Reply) (g : Grain) (x : Held) → MayConfirm m w y g x → Placed m w → Asked m w → Backed m w
    → IsTurned m w y.receiver g (Some (Firm (count_of x)))
turned_confirm m w y g x may p k b =
    record {
      keeps = λ z e a. let there : w.held y.receiver g ≡ Some x = may.accepted.counts.held_there in
          let same : x ≡ z = cc in
          (Firm (count_of x), refl, ap count_of same);
      firm = λ c e. let same : count_of x ≡ c = cc in
          b.confirmed.registered y g x may.accepted.sent may.answer may.accepted.alive may.accepted.counts
          ∙ ap (λ n. Some (activation_on y.receiver n)) same;
      told = λ z c e q d l.
          let told_seen : z.version ≤ w.seen z.sender = p.levels.told_seen z q in
          let saw : w.seen z.sender ≡ w.seen y.receiver = ap w.seen d in
          let reached : y.version ≤ w.level (m.hash g) = (k.spent.replied y g x may.accepted.sent may.accepted.counts).reached in
          absurd (omega (arith, may.accepted.counts.same_version));
      fresh = λ z purpose i e u. let same : Firm (count_of x) ≡ z = cc in
          absurd (firm_number (count_of x) purpose i (ap (outstanding purpose) same ∙ u));
    }

turned_leave :
    (m : Setting) (w : World) (y : Reply) (g : Grain) (x : Held) → MayLeave m w y g x → Backed m w
    → IsTurned m w y.receiver g None
turned_leave m w y g x may b =
    record {
      keeps = λ z e a.
          let there : w.held y.receiver g ≡ Some x = may.accepted.counts.held_there in
          let same : z ≡ x = cc in
          absurd (b.confirmed.refused y g x may.accepted.sent may.answer may.accepted.counts
          (a ∙ ap (λ n. Some (activation_on y.receiver n)) (ap count_of same)));
      firm = λ c e. absurd cc;
      told = λ z c e. absurd cc;
      fresh = λ z purpose i e. absurd cc;
    }

-- the world after it, so far as authority reads it
backed_turn :
    (m : Setting) (w : World) → Asked m w → Backed m w → (s : Silo) (g : Grain) (o : Option Held) → IsTurned m w s g o
    → Backed m (record w { held = put_at s g o w.held })
backed_turn m w k b s g o r =
    record {
      entries = entries_turn m w k b s g o r;
      confirmed = confirmed_turn m w k b s g o r;
      reported = reported_turn m w k b s g o r;
    }

-- two worlds that authority reads alike
backed_alike :
    (m : Setting) (w w' : World) → (EntriesOf m w → EntriesOf m w') → (ConfirmedOf m w → ConfirmedOf m w')
    → (ReportedOf m w → ReportedOf m w') → Backed m w → Backed m w'
backed_alike m w w' e c r b = record { entries = e b.entries; confirmed = c b.confirmed; reported = r b.reported }

backed_told : (m : Setting) (w : World) (s : Silo) → m.alive w.now s ≡ true → Placed m w → Backed m w → Backed m (after m w (Tell s))
backed_told m w s a p b =
    record {
      entries = b.entries;
      confirmed = b.confirmed;
      reported = record {
        right = λ x g c q.
            sent_all (λ x. w.level (m.hash g) < x.version → x.firm g ≡ Some c → w.authority g ≡ Some (activation_on x.sender c))
            (reported w s) w.reports
            (λ l e. b.confirmed.firm s g c a (firm_count_inv (w.held s g) c e))
            (λ x q. b.reported.right x g c q)
            x q;
        all_firm = λ x g c q.
            sent_all (λ x. w.level (m.hash g) < x.version → w.held x.sender g ≡ Some (Firm c) → x.firm g ≡ Some c) (reported w s) w.reports
            (λ l e. ap firm_count e)
            (λ x q. b.reported.all_firm x g c q)
            x q;
        shrinking = λ x y g c q t. shrinks g c x q y t;
      };
    }
  where
    shrinks :
        (g : Grain) (c : ℕ) (x : Report) → Sent x (reported w s ∷ w.reports) → (y : Report) → Sent y (reported w s ∷ w.reports)
        → y.sender ≡ x.sender → x.version < y.version → w.level (m.hash g) < x.version → y.firm g ≡ Some c → x.firm g ≡ Some c
    shrinks g c =
        sent_all (λ x. (y : Report) → Sent y (reported w s ∷ w.reports) → y.sender ≡ x.sender → x.version < y.version
        → w.level (m.hash g) < x.version → y.firm g ≡ Some c → x.firm g ≡ Some c) (reported w s) w.reports
        (sent_all (λ y. y.sender ≡ s → w.seen s < y.version → w.level (m.hash g) < w.seen s → y.firm g ≡ Some c
        → firm_count (w.held s g) ≡ Some c) (reported w s) w.reports
        (λ d l. absurd (omega arith))
        (λ y q d l. let told_seen : y.version ≤ w.seen y.sender = p.levels.told_seen y q in
        let saw : w.seen y.sender ≡ w.seen s = ap w.seen d in
        absurd (omega arith)))
        (λ x q. sent_all (λ y. y.sender ≡ x.sender → x.version < y.version → w.level (m.hash g) < x.version → y.firm g ≡ Some c
        → x.firm g ≡ Some c) (reported w s) w.reports
        (λ d l i e. b.reported.all_firm x g c q i (sym (ap (λ q. w.held q g) d) ∙ firm_count_inv (w.held s g) c e))
        (λ y t d l i e. b.reported.shrinking x y g c q t d l i e))

backed_closing :
    (m : Setting) (w : World) → Asked m w → Backed m w → (s : Silo) (g : Grain) (x : Held) → w.held s g ≡ Some x
    → Backed m (record w { held = put_at s g (Some (Closing (count_of x) (w.next_number s))) w.held })
backed_closing m w k b s g x held =
    backed_turn m w k b s g (Some (Closing (count_of x) (w.next_number s)))
    (turned_open m w s g (Closing (count_of x) (w.next_number s)) (λ y e. let same : x ≡ y = cc in
    ap count_of same) (λ d f. cc) (closing_number (count_of x) (w.next_number s)))

pub backed_after : (m : Setting) (w : World) (a : Action) → Allowed m w a → Placed m w → Asked m w → Backed m w → Backed m (after m w a)
backed_after m w New_view may p k b = backed_view m w b
backed_after m w (See x) may p k b = backed_sight m w x may p k b
backed_after m w (Start s g previous) may p k b =
    backed_alike m (record w { held = put_at s g (Some (Asking (w.next_count s) (w.next_number s) previous)) w.held })
    (after m w (Start s g previous)) (λ e. e) (λ c. c) (λ r. r)
    (backed_turn m w k b s g (Some (Asking (w.next_count s) (w.next_number s) previous))
    (turned_open m w s g (Asking (w.next_count s) (w.next_number s) previous) (λ y e.
    let free : w.held s g ≡ None = may.free in
    absurd cc) (λ c f. cc) (asking_number (w.next_count s) (w.next_number s) previous)))
backed_after m w (Close s g x) may p k b =
    backed_alike m (record w { held = put_at s g (Some (Closing (count_of x) (w.next_number s))) w.held }) (after m w (Close s g x))
    (λ e. e) (λ c. c) (λ r. r) (backed_closing m w k b s g x may.held)
backed_after m w (Offer_away s g c) may p k b =
    backed_alike m (record w { held = put_at s g (Some (Closing c (w.next_number s))) w.held }) (after m w (Offer_away s g c)) (λ e. e)
    (λ c. c) (λ r. r) (backed_closing m w k b s g (Firm c) may.held)
backed_after m w (Renew s g x purpose) may p k b =
    backed_alike m (record w { held = put_at s g (Some (renumbered (w.next_number s) x)) w.held }) (after m w (Renew s g x purpose))
    (λ e. e) (λ c. c) (λ r. r)
    (backed_turn m w k b s g (Some (renumbered (w.next_number s) x))
    (turned_open m w s g (renumbered (w.next_number s) x)
    (λ y e. let there : w.held s g ≡ Some x = may.held in let same : x ≡ y = cc in renumbered_count (w.next_number s) x ∙ ap count_of same)
    (renumbered_open (w.next_number s) x purpose (may.outstanding).0 (may.outstanding).1)
    (renumbered_number (w.next_number s) x)))
backed_after m w (Find s) may p k b = record { entries = b.entries; confirmed = b.confirmed; reported = b.reported }
backed_after m w (Serve x) may p k b = backed_served m w x may p k b
backed_after m w (Confirm y g x) may p k b =
    backed_turn m w k b y.receiver g (Some (Firm (count_of x))) (turned_confirm m w y g x may p k b)
backed_after m w (Leave y g x) may p k b = backed_turn m w k b y.receiver g None (turned_leave m w y g x may b)
backed_after m w (Tell s) may p k b = backed_told m w s may p b
backed_after m w (Install x snapshot) may p k b = backed_install m w x snapshot may p b
backed_after m w (Recover x told) may p k b = backed_recover m w x told may p k b
