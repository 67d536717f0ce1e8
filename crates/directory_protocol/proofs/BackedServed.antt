-- Authority is kept where a silo answers a request.
use Rattle.std.proofs.Common.{◌≡◌, ◌≢◌, ◌<◌, ◌≤◌, ℕ, zero, suc, true, Some, None, inl, inr, sym, refl, ap, ◌∙◌, subst, arith}
use Rattle.silo_address.specs.Silo.{Silo}
use Rattle.silo_address.specs.Grain.{Grain}
use Rattle.silo_address.specs.declared.activation.ActivationId.{ActivationId}
use Rattle.directory_protocol.specs.Change.{put_grain, put_at}
use Rattle.directory_protocol.specs.Setting.{Setting}
use Rattle.directory_protocol.specs.Letters.{activation_on, Registered, Taken, Removed, Purpose, Register, Deregister, purpose_of, named, Reply, Report, Sent}
use Rattle.directory_protocol.specs.World.{World, Held, Asking, Firm, Closing, count_of, outstanding, is_closing, surviving}
use Rattle.directory_protocol.specs.Actions.{Serve, Service, MayServe, IsAnswered, Counts}
use Rattle.directory_protocol.specs.Effects.{after, replied}
use Rattle.directory_protocol.specs.Requests.{IsSpent}
use Rattle.directory_protocol.specs.Notices.{IsGivenUp}
use Rattle.directory_protocol.specs.Authority.{IsHeld}
use Rattle.directory_protocol.specs.Invariant.{Placed, Asked, Backed}
use Rattle.directory_protocol.proofs.Changes.{put_grain_all, put_grain_same, put_grain_other, put_at_same, put_at_other, grain_cases, sent_all}
use Rattle.directory_protocol.proofs.Placed.{one_settles}
use Rattle.directory_protocol.proofs.Counted.{held_or_not}
use Rattle.directory_protocol.proofs.Spent.{spent_lower, not_spent}
use Rattle.directory_protocol.proofs.SpentAfter.{answered_purpose}

module _ (m : Setting) (w : World) (x : Service) (may : MayServe m w x) (p : Placed m w) (k : Asked m w) (b : Backed m w) where
  -- what the entry owes: it has what is confirmed and reported, is held and on a member, and agrees with the answer
  record IsServed : Type 0 where
    has_firm : (s : Silo) (c : ℕ) → m.alive w.now s ≡ true → w.held s x.request.grain ≡ Some (Firm c) → x.entry ≡ Some (activation_on s c)
    has_registered :
        (y : Reply) (z : Held) → Sent y w.replies → y.answer ≡ Registered → m.alive w.now y.receiver ≡ true
        → Counts w.seen w.held y x.request.grain z → x.entry ≡ Some (activation_on y.receiver (count_of z))
    not_refused :
        (y : Reply) (z : Held) → Sent y w.replies → y.answer ≢ Registered → Counts w.seen w.held y x.request.grain z
        → x.entry ≢ Some (activation_on y.receiver (count_of z))
    on_member : (a : ActivationId) → x.entry ≡ Some a → m.member (w.level (m.hash x.request.grain)) a.silo ≡ true
    held_there : (a : ActivationId) → x.entry ≡ Some a → IsHeld w.held x.request.grain a
    has_reported :
        (y : Report) (c : ℕ) → Sent y w.reports → w.level (m.hash x.request.grain) < y.version → y.firm x.request.grain ≡ Some c
        → x.entry ≡ Some (activation_on y.sender c)
    registered : x.answer ≡ Registered → x.entry ≡ Some (named x.request)
    refused : x.answer ≢ Registered → x.entry ≢ Some (named x.request)

  at : w.level (m.hash x.request.grain) ≡ x.request.version
  at = p.levels.at_level x.server (m.hash x.request.grain) may.alive may.settled ∙ may.same_version

  owner : m.owner x.request.version (m.hash x.request.grain) ≡ Some x.server
  owner =
      subst (λ j. m.owner j (m.hash x.request.grain) ≡ Some x.server) may.same_version
      (p.structure.owned x.server (m.hash x.request.grain) may.settled)

  before : w.table x.server x.request.grain ≡ w.authority x.request.grain
  before = b.entries.right x.server x.request.grain may.alive may.settled

  -- ---- the table stays

  served_same :
      x.entry ≡ w.table x.server x.request.grain → (x.answer ≡ Registered → x.entry ≡ Some (named x.request))
      → (x.answer ≢ Registered → x.entry ≢ Some (named x.request)) → IsServed
  served_same e registered refused =
      record {
        has_firm = λ s c a f. e ∙ before ∙ b.confirmed.firm s x.request.grain c a f;
        has_registered = λ y z q r a c. e ∙ before ∙ b.confirmed.registered y x.request.grain z q r a c;
        not_refused = λ y z q r c i. b.confirmed.refused y x.request.grain z q r c (sym before ∙ sym e ∙ i);
        on_member = λ a i. b.entries.on_member x.request.grain a (sym before ∙ sym e ∙ i);
        held_there = λ a i. b.entries.held_there x.request.grain a (sym before ∙ sym e ∙ i);
        has_reported = λ y c q l f. e ∙ before ∙ b.reported.right y x.request.grain c q l f;
        registered = registered;
        refused = refused;
      }

  -- ---- the table changes: there was no entry, or one that has a closing notice

  IsVacant : Type 0
  IsVacant =
      (a : ActivationId) → w.authority x.request.grain ≡ Some a
      → IsGivenUp w.held w.next_count w.reports a x.request.grain x.request.version

  none_firm : IsVacant → (s : Silo) (c : ℕ) → m.alive w.now s ≡ true → w.held s x.request.grain ≡ Some (Firm c) → ⊥
  unfolding IsVacant
  none_firm vacant s c a f =
      let closing : is_closing (Firm c) ≡ true = (vacant (activation_on s c) (b.confirmed.firm s x.request.grain c a f)).closing (Firm c) f refl in
      cc

  asking_open : (z : Held) (n : ℕ) → outstanding Register z ≡ Some n → is_closing z ≡ true → ⊥
  asking_open (Asking c i q) n e d = cc
  asking_open (Firm c) n e d = cc
  asking_open (Closing c i) n e d = cc

  none_registered :
      IsVacant → (y : Reply) (z : Held) → Sent y w.replies → y.answer ≡ Registered → m.alive w.now y.receiver ≡ true
      → Counts w.seen w.held y x.request.grain z → ⊥
  unfolding IsVacant
  none_registered vacant y z q r a c =
      asking_open z y.number (subst (λ a. outstanding (purpose_of a) z ≡ Some y.number) r c.same_number)
      ((vacant (activation_on y.receiver (count_of z)) (b.confirmed.registered y x.request.grain z q r a c)).closing z c.held_there refl)

  none_reported :
      IsVacant → (y : Report) (c : ℕ) → Sent y w.reports → w.level (m.hash x.request.grain) < y.version
      → y.firm x.request.grain ≡ Some c → ⊥
  unfolding IsVacant
  none_reported vacant y c q l f =
      let late : y.version ≤ x.request.version = (vacant (activation_on y.sender c) (b.reported.right y x.request.grain c q l f)).unreported y q refl f in
      omega (arith, at)

  -- the named activation is held, else its registration would be spent
  named_held : x.request.purpose ≡ Register → IsHeld w.held x.request.grain (named x.request)
  named_held register =
      elim (held_or_not w.held x.request.sender x.request.grain x.request.count) [
        | inl i ↦ i
        | inr n ↦ absurd (not_spent m w x p may (k.spent.let_go x.request may.sent register n))
      ]

  named_member : m.member (w.level (m.hash x.request.grain)) x.request.sender ≡ true
  named_member =
      subst (λ v. m.member v x.request.sender ≡ true) (sym at)
      (k.numbers.request_member x.request may.sent (positive x.request.version owner))
    where
      positive : (v : ℕ) → m.owner v (m.hash x.request.grain) ≡ Some x.server → 1 ≤ v
      positive zero o = absurd (m.no_owner_at_first (m.hash x.request.grain) x.server o)
      positive (suc v) o = omega arith

  -- no refusal counts about it, else its registration would be spent
  named_not_refused :
      x.request.purpose ≡ Register → (y : Reply) (z : Held) → Sent y w.replies → Counts w.seen w.held y x.request.grain z
      → named x.request ≢ activation_on y.receiver (count_of z)
  named_not_refused register y z q c e =
      let sender : x.request.sender ≡ y.receiver = ap (λ (a : ActivationId). a.silo) e in
      let count : x.request.count ≡ count_of z = ap (λ (a : ActivationId). a.count) e in
      let there : w.held x.request.sender x.request.grain ≡ Some z = ap (λ s. w.held s x.request.grain) sender ∙ c.held_there in
      let number : x.request.number ≤ y.number = k.numbers.newest x.request z (purpose_of y.answer) y.number may.sent register there (sym count) c.same_number in
      let saw : w.seen x.request.sender ≡ w.seen y.receiver = ap w.seen sender in
      let version : x.request.version ≤ y.version = omega (arith, k.numbers.request_seen x.request may.sent, c.same_version) in
      let spent : IsSpent m w.now w.seen w.served w.level x.request.sender (m.hash x.request.grain) y.version y.number = subst (λ s. IsSpent m w.now w.seen w.served w.level s (m.hash x.request.grain) y.version y.number) (sym sender) (k.spent.replied y x.request.grain z q c) in
      not_spent m w x p may (spent_lower m w.now w.seen w.served w.level x.request.sender (m.hash x.request.grain) y.version y.number
      x.request.version x.request.number version number spent)

  served_entered : x.request.purpose ≡ Register → x.answer ≡ Registered → x.entry ≡ Some (named x.request) → IsVacant → IsServed
  served_entered register answer e vacant =
      record {
        has_firm = λ s c a f. absurd (none_firm vacant s c a f);
        has_registered = λ y z q r a c. absurd (none_registered vacant y z q r a c);
        not_refused = λ y z q r c i. named_not_refused register y z q c cc;
        on_member = λ a i. let same : named x.request ≡ a = cc in
            subst (λ (a : ActivationId). m.member (w.level (m.hash x.request.grain)) a.silo ≡ true) same named_member;
        held_there = λ a i. let same : named x.request ≡ a = cc in subst (λ a. IsHeld w.held x.request.grain a) same (named_held register);
        has_reported = λ y c q l f. absurd (none_reported vacant y c q l f);
        registered = λ i. e;
        refused = λ n. absurd (n answer);
      }

  served_removed : x.answer ≢ Registered → x.entry ≡ None → IsVacant → IsServed
  served_removed answer e vacant =
      record {
        has_firm = λ s c a f. absurd (none_firm vacant s c a f);
        has_registered = λ y z q r a c. absurd (none_registered vacant y z q r a c);
        not_refused = λ y z q r c i. cc;
        on_member = λ a i. absurd cc;
        held_there = λ a i. absurd cc;
        has_reported = λ y c q l f. absurd (none_reported vacant y c q l f);
        registered = λ i. absurd (answer i);
        refused = λ n i. cc;
      }

  served : IsServed
  unfolding IsVacant
  served = by_purpose x.request.purpose refl may.answered
    where
      by_purpose :
          (purpose : Purpose) → x.request.purpose ≡ purpose
          → IsAnswered purpose (named x.request) x.request.previous (w.table x.server x.request.grain) x.answer x.entry → IsServed
      by_purpose Register q (inl i) =
          elim i.2 [
            | inl none ↦ served_entered q i.0 i.1 (λ a e. let n : w.authority x.request.grain ≡ None = sym before ∙ none in absurd cc)
            | inr (inl same) ↦ served_same (i.1 ∙ sym same) (λ e. i.1) (λ n. absurd (n i.0))
            | inr (inr previous) ↦
                served_entered q i.0 i.1
                (λ a e. k.notices.replaced x.request a may.sent (sym previous ∙ before ∙ e))
          ]
      by_purpose Register q (inr i) = served_same i.1 (λ e. let a : x.answer ≡ Taken = i.0 in absurd cc) (λ n e. i.3 (sym i.1 ∙ e))
      by_purpose Deregister q i =
          elim i.1 [
            | inl j ↦
                served_removed (λ e. let a : x.answer ≡ Removed = i.0 in cc) j.1
                (λ a e.
                let same : named x.request ≡ a = (let t : w.authority x.request.grain ≡ Some (named x.request) = sym before ∙ j.0 in
                cc) in
                subst (λ a. IsGivenUp w.held w.next_count w.reports a x.request.grain x.request.version) same
                (k.notices.deregistered x.request may.sent q))
            | inr j ↦ served_same j.1 (λ e. let a : x.answer ≡ Removed = i.0 in absurd cc) (λ n e. j.0 (sym j.1 ∙ e))
          ]

  -- ---- all is kept

  -- the reply is about the activation that the request names
  about : (g : Grain) (z : Held) → Counts w.seen w.held (replied x) g z → (g ≡ x.request.grain) × (count_of z ≡ x.request.count)
  about g z c =
      let purpose : purpose_of x.answer ≡ x.request.purpose = answered_purpose x.request.purpose (named x.request) x.request.previous (w.table x.server x.request.grain) x.answer x.entry may.answered in
      let number : outstanding x.request.purpose z ≡ Some x.request.number = subst (λ p. outstanding p z ≡ Some x.request.number) purpose c.same_number in
      (k.numbers.same_grain x.request g z may.sent c.held_there number, k.numbers.same_count x.request g z may.sent c.held_there number)

  entry_now : (g : Grain) → g ≡ x.request.grain → put_grain x.request.grain x.entry w.authority g ≡ x.entry
  entry_now g e = ap (put_grain x.request.grain x.entry w.authority) e ∙ put_grain_same x.request.grain x.entry w.authority

  served_right :
      (s : Silo) (g : Grain) → m.alive w.now s ≡ true → w.settled s (m.hash g) ≡ true
      → put_at x.server x.request.grain x.entry w.table s g ≡ put_grain x.request.grain x.entry w.authority g
  served_right s g a t =
      elim (grain_cases g x.request.grain) [
        | inl e ↦
            (let same : s ≡ x.server = one_settles m w p (m.hash g) s x.server (record { alive = a; settled = t }) (record { alive = may.alive; settled = ap (λ g. w.settled x.server (m.hash g)) e ∙ may.settled }) in
            ap (λ s. put_at x.server x.request.grain x.entry w.table s g) same
            ∙ ap (put_at x.server x.request.grain x.entry w.table x.server) e ∙ put_at_same x.server x.request.grain x.entry w.table
            ∙ sym (entry_now g e))
        | inr n ↦ put_at_other x.server x.request.grain x.entry w.table s g (λ e. n) ∙ b.entries.right s g a t
            ∙ sym (put_grain_other x.request.grain x.entry w.authority g n)
      ]

  pub backed_served : Backed m (after m w (Serve x))
  backed_served =
      record {
        entries = record {
          right = served_right;
          on_member =
              put_grain_all (λ g o. (a : ActivationId) → o ≡ Some a → m.member (w.level (m.hash g)) a.silo ≡ true) x.request.grain x.entry
              w.authority served.on_member (λ g n. b.entries.on_member g);
          held_there =
              put_grain_all (λ g o. (a : ActivationId) → o ≡ Some a → IsHeld w.held g a) x.request.grain x.entry w.authority
              served.held_there (λ g n. b.entries.held_there g);
          sealed = λ y g q c e.
              put_grain_all (λ g o. y.covers (m.hash g) ≡ true → w.level (m.hash g) ≡ y.sealed_at
              → y.entries g ≡ surviving m (suc y.sealed_at) o) x.request.grain x.entry w.authority
              (λ c e.
              let same : y.sealed_at ≡ x.request.version = sym e ∙ at in
              let gone : y.sealed_at < w.seen x.server = p.levels.sealed_left y (m.hash x.request.grain) q c x.server (subst (λ v. m.owner v (m.hash x.request.grain) ≡ Some x.server) (sym same) owner) may.alive in
              absurd (omega (arith, may.same_version)))
              (λ g n. b.entries.sealed y g q)
              g c e;
        };
        confirmed = record {
          firm =
              λ s g. put_grain_all (λ g o. (c : ℕ) → m.alive w.now s ≡ true → w.held s g ≡ Some (Firm c) → o ≡ Some (activation_on s c))
              x.request.grain x.entry w.authority (served.has_firm s) (λ g n. b.confirmed.firm s g) g;
          registered = λ y g z q.
              sent_all (λ y. y.answer ≡ Registered → m.alive w.now y.receiver ≡ true → Counts w.seen w.held y g z
              → put_grain x.request.grain x.entry w.authority g ≡ Some (activation_on y.receiver (count_of z))) (replied x) w.replies
              (λ e a c. entry_now g (about g z c).0 ∙ served.registered e
              ∙ ap (λ n. Some (activation_on x.request.sender n)) (sym (about g z c).1))
              (λ y q e a. put_grain_all (λ g o. Counts w.seen w.held y g z → o ≡ Some (activation_on y.receiver (count_of z)))
              x.request.grain x.entry w.authority (served.has_registered y z q e a) (λ g n. b.confirmed.registered y g z q e a) g)
              y q;
          refused = λ y g z q.
              sent_all (λ y. y.answer ≢ Registered → Counts w.seen w.held y g z
              → put_grain x.request.grain x.entry w.authority g ≢ Some (activation_on y.receiver (count_of z))) (replied x) w.replies
              (λ e c i. served.refused e (sym (entry_now g (about g z c).0) ∙ i
              ∙ ap (λ n. Some (activation_on x.request.sender n)) (about g z c).1))
              (λ y q e. put_grain_all (λ g o. Counts w.seen w.held y g z → o ≢ Some (activation_on y.receiver (count_of z))) x.request.grain
              x.entry w.authority (served.not_refused y z q e) (λ g n. b.confirmed.refused y g z q e) g)
              y q;
        };
        reported = record {
          right =
              λ y g. put_grain_all (λ g o. (c : ℕ) → Sent y w.reports → w.level (m.hash g) < y.version → y.firm g ≡ Some c
              → o ≡ Some (activation_on y.sender c)) x.request.grain x.entry w.authority (served.has_reported y)
              (λ g n. b.reported.right y g) g;
          all_firm = b.reported.all_firm;
          shrinking = b.reported.shrinking;
        };
      }
