-- Once a grain's hash was settled at version u or later, whatever is firm of it is so on a silo that has seen no less than u.
use Rattle.std.proofs.Common.{◌≡◌, ◌≢◌, ◌<◌, ◌≤◌, ℕ, suc, true, cond, Option, Some, None, List, sym, refl, ap, ◌∙◌, subst, arith}
use Rattle.silo_address.specs.Silo.{Silo}
use Rattle.silo_address.specs.Grain.{Grain}
use Rattle.directory_protocol.specs.Change.{put, put_at, where_true}
use Rattle.directory_protocol.specs.Setting.{Setting}
use Rattle.directory_protocol.specs.Letters.{Registered, Purpose, named, Reply, Sent}
use Rattle.directory_protocol.specs.World.{World, Held, Asking, Firm, Closing, count_of, outstanding, renumbered}
use Rattle.directory_protocol.specs.Actions.{Action, New_view, See, Start, Close, Offer_away, Renew, Find, Serve, Confirm, Leave, Tell, Install, Recover, Sight, Service, Settling, Counts, Allowed, MaySee, MayServe}
use Rattle.directory_protocol.specs.Effects.{replied, after}
use Rattle.directory_protocol.proofs.All.{Kept}
use Rattle.directory_protocol.proofs.Changes.{on_bool, put_at_all, sent_all}
use Rattle.directory_protocol.proofs.Counted.{counts_seen, counts_turn}
use Rattle.directory_protocol.proofs.Numbers.{renumbered_number, asking_number, closing_number, firm_number}
use Rattle.directory_protocol.proofs.Settlings.{install_level, recover_below}
use Rattle.directory_protocol.proofs.Sights.{later_sight, sight_level}
use Rattle.directory_protocol.proofs.SpentAfter.{answered_purpose}

-- the grain's hash was settled at version u or later, and only replies of such a version make an activation of the grain firm
pub record Late
    (m : Setting) (g : Grain) (u : ℕ) (now : ℕ) (seen : Silo → ℕ) (held : Silo → Grain → Option Held) (replies : List Reply)
    (level : ℕ → ℕ) : Type 0 where
  pub settled : u ≤ level (m.hash g)
  pub confirming :
      (y : Reply) (x : Held) → Sent y replies → y.answer ≡ Registered → m.alive now y.receiver ≡ true → Counts seen held y g x
      → u ≤ y.version
  pub firm : (s : Silo) (c : ℕ) → m.alive now s ≡ true → held s g ≡ Some (Firm c) → u ≤ seen s

module _ (m : Setting) (g : Grain) (u : ℕ) where
  abbrev pub LateOf : World → Type 0
  LateOf w = Late m g u w.now w.seen w.held w.replies w.level

  late_view : (w : World) → LateOf w → LateOf (after m w New_view)
  late_view w l =
      record {
        settled = l.settled;
        confirming = λ y x q e live. l.confirming y x q e (m.dead_stays_dead w.now (suc w.now) y.receiver (omega arith) live);
        firm = λ s c live. l.firm s c (m.dead_stays_dead w.now (suc w.now) s (omega arith) live);
      }

  late_sight : (w : World) (x : Sight) → MaySee m w x → Kept m w → LateOf w → LateOf (after m w (See x))
  late_sight w x may k l =
      record {
        settled = on_bool (λ b. u ≤ cond b x.version (w.level (m.hash g))) (x.kept (m.hash g))
            (λ t. let at : w.level (m.hash g) ≡ w.seen x.silo = sight_level m w x may k.placed (m.hash g) t in
            omega (arith, l.settled, may.newer)) (λ f. l.settled);
        confirming = λ y z q e live c. l.confirming y z q e live (counts_seen m w x may k.asked.numbers y g z q c);
        firm = λ s c live e. let before : u ≤ w.seen s = l.firm s c live e in
            let later : w.seen s ≤ put x.silo x.version w.seen s = (later_sight m w x may).no_less s in
            omega arith;
      }

  -- what a silo holds of a grain changes
  late_turn :
      (w : World) (s : Silo) (h : Grain) (o : Option Held) → Kept m w
      → ((x : Held) (purpose : Purpose) (i : ℕ) → o ≡ Some x → outstanding purpose x ≡ Some i → i ≡ w.next_number s)
      → ((c : ℕ) → h ≡ g → m.alive w.now s ≡ true → o ≡ Some (Firm c) → u ≤ w.seen s)
      → LateOf w → Late m g u w.now w.seen (put_at s h o w.held) w.replies w.level
  late_turn w s h o k fresh confirmed l =
      record {
        settled = l.settled;
        confirming = λ y x q e live c. l.confirming y x q e live (counts_turn m w k.asked.numbers s h o fresh y g x q c);
        firm = λ q c live e.
            put_at_all (λ q r o. r ≡ g → m.alive w.now q ≡ true → o ≡ Some (Firm c) → u ≤ w.seen q) s h o w.held
            (confirmed c)
            (λ q r n is live e. l.firm q c live (ap (w.held q) (sym is) ∙ e))
            q g refl live e;
      }

  -- what it holds from now on isn't firm
  late_open :
      (w : World) (s : Silo) (h : Grain) (x : Held) → Kept m w → ((c : ℕ) → x ≢ Firm c)
      → ((purpose : Purpose) (i : ℕ) → outstanding purpose x ≡ Some i → i ≡ w.next_number s)
      → LateOf w → Late m g u w.now w.seen (put_at s h (Some x) w.held) w.replies w.level
  late_open w s h x k loose number =
      late_turn w s h (Some x) k
      (λ y purpose i e o. let same : x ≡ y = cc in number purpose i (ap (outstanding purpose) same ∙ o))
      (λ c is live e. absurd (loose c cc))

  renumbered_open : (n : ℕ) (x : Held) (purpose : Purpose) (i : ℕ) → outstanding purpose x ≡ Some i → (c : ℕ) → renumbered n x ≢ Firm c
  renumbered_open n (Asking d j p) purpose i e c f = cc
  renumbered_open n (Firm d) purpose i e c f = firm_number d purpose i e
  renumbered_open n (Closing d j) purpose i e c f = cc

  late_served : (w : World) (x : Service) → MayServe m w x → Kept m w → LateOf w → LateOf (after m w (Serve x))
  late_served w x may k l =
      record {
        settled = l.settled;
        confirming = λ y z q.
            sent_all (λ y. y.answer ≡ Registered → m.alive w.now y.receiver ≡ true → Counts w.seen w.held y g z → u ≤ y.version) (replied x)
            w.replies
            (λ e live c.
            let purpose = answered_purpose x.request.purpose (named x.request) x.request.previous (w.table x.server x.request.grain) x.answer x.entry may.answered in
            let number : outstanding x.request.purpose z ≡ Some x.request.number = subst (λ p. outstanding p z ≡ Some x.request.number) purpose c.same_number in
            let same : g ≡ x.request.grain = k.asked.numbers.same_grain x.request g z may.sent c.held_there number in
            let at : w.level (m.hash x.request.grain) ≡ w.seen x.server = k.placed.levels.at_level x.server (m.hash x.request.grain) may.alive may.settled in
            let here : w.level (m.hash g) ≡ w.level (m.hash x.request.grain) = ap (λ g. w.level (m.hash g)) same in
            omega (arith, l.settled, may.same_version))
            (λ y q e live c. l.confirming y z q e live c)
            y q;
        firm = l.firm;
      }

  late_settling : (w : World) (x : Settling) → ((h : ℕ) → x.part h ≡ true → w.level h < w.seen x.silo) → LateOf w
      → Late m g u w.now w.seen w.held w.replies (where_true x.part (λ h. w.seen x.silo) w.level)
  late_settling w x raised l =
      record {
        settled = on_bool (λ b. u ≤ cond b (w.seen x.silo) (w.level (m.hash g))) (x.part (m.hash g))
            (λ t. let below : w.level (m.hash g) < w.seen x.silo = raised (m.hash g) t in omega (arith, l.settled)) (λ f. l.settled);
        confirming = l.confirming;
        firm = l.firm;
      }

  pub late_after : (w : World) (action : Action) → Allowed m w action → Kept m w → LateOf w → LateOf (after m w action)
  late_after w New_view may k l = late_view w l
  late_after w (See x) may k l = late_sight w x may k l
  late_after w (Start s h previous) may k l =
      late_open w s h (Asking (w.next_count s) (w.next_number s) previous) k (λ c e. cc)
      (asking_number (w.next_count s) (w.next_number s) previous) l
  late_after w (Close s h x) may k l =
      late_open w s h (Closing (count_of x) (w.next_number s)) k (λ d e. cc) (closing_number (count_of x) (w.next_number s)) l
  late_after w (Offer_away s h c) may k l =
      late_open w s h (Closing c (w.next_number s)) k (λ d e. cc) (closing_number c (w.next_number s)) l
  late_after w (Renew s h x purpose) may k l =
      late_open w s h (renumbered (w.next_number s) x) k
      (renumbered_open (w.next_number s) x purpose (may.outstanding).0 (may.outstanding).1) (renumbered_number (w.next_number s) x) l
  late_after w (Find s) may k l = l
  late_after w (Serve x) may k l = late_served w x may k l
  late_after w (Confirm y h x) may k l =
      late_turn w y.receiver h (Some (Firm (count_of x))) k
      (λ z purpose i e o. let same : Firm (count_of x) ≡ z = cc in
      absurd (firm_number (count_of x) purpose i (ap (outstanding purpose) same ∙ o)))
      (λ c is live e.
      let counts : Counts w.seen w.held y g x = subst (λ h. Counts w.seen w.held y h x) is may.accepted.counts in
      let low : u ≤ y.version = l.confirming y x may.accepted.sent may.answer live counts in
      omega (arith, may.accepted.counts.same_version))
      l
  late_after w (Leave y h x) may k l = late_turn w y.receiver h None k (λ z purpose i e o. absurd cc) (λ c is live e. absurd cc) l
  late_after w (Tell s) may k l = l
  late_after w (Install x snapshot) may k l =
      late_settling w x
      (λ h t. let at : w.level h ≡ snapshot.sealed_at = install_level m w x snapshot may k.placed h t in omega (arith, may.same_version)) l
  late_after w (Recover x told) may k l = late_settling w x (recover_below m w x told may k.placed) l
