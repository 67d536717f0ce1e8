-- A silo's outstanding requests are sent again under new numbers, one number after the other: an activation's request by a
-- renewal, a find by taking its number. All of them are, at a nudge and at a sight, or those about one grain.
use Rattle.std.proofs.Common.{arith, ◌≡◌, ◌≢◌, ℕ, zero, suc, ◌+◌, ◌<◌, List, [], ◌∷◌, inl, inr, refl, sym, ap, subst, ◌∙◌}
use Rattle.std.specs.Prelude.{⊤, Bool, true, false, cond, ◌==◌, ◌&&◌, All, Option, Some, None, find}
use Rattle.std.specs.Option.{option_map}
use Rattle.std.specs.Map.{lookup}
use Rattle.std.specs.BTreeMap.{is_at}
use Rattle.std.proofs.lemmas.Bool.{eq-eqb}
use Rattle.std.proofs.lemmas.List.Elements.{All-map}
use Rattle.silo_address.specs.Silo.{Silo}
use Rattle.silo_address.specs.Grain.{Grain, grain_cmp}
use Rattle.silo_address.specs.declared.ActivationId.{ActivationId}
use Rattle.silo_address.proofs.Order.{grain_cmp_total, grain_cmp_exact}
use Rattle.directory_protocol.specs.Setting.{Setting}
use Rattle.directory_protocol.specs.Change.{put_at}
use Rattle.directory_protocol.specs.Letters as letters
use Rattle.directory_protocol.specs.Letters.{Sent}
use Rattle.directory_protocol.specs.World as protocol
use Rattle.directory_protocol.specs.Actions.{Action, Allowed, Renew, Find}
use Rattle.directory_protocol.specs.Effects.{after, run, asked, AllAllowed}
use Rattle.directory_protocol.proofs.Changes.{grain_cases, put_same, put_at_same, put_at_other}
use Rattle.directory_rules.specs.declared.held.Held.{Held}
use Rattle.directory_rules.specs.declared.held.Phase.{Phase}
use Rattle.directory_rules.specs.declared.held.Phase.TheVariants.{Asking, Firm, Closing}
use Rattle.directory_rules.specs.State.{Host}
use Rattle.directory_rules.specs.Host.{held_of}
use Rattle.directory_rules.proofs.Cases.{on_bool}
use Rattle.directory_facts.specs.Own.{HoldsOnce}
use Rattle.directory_headline.specs.SiloState.{state_of}
use Rattle.directory_headline.specs.Shown.{held_in, held_as, IsShownHost}
use Rattle.directory_headline.proofs.Actors.{IsBy, AllBy}
use Rattle.directory_facts.proofs.Lookups.{find_looked}
use Rattle.directory_headline.proofs.Hosts.{LeavesHolding, same_request}
use Rattle.directory_headline.proofs.NewNumbers.{phase_anew, gets, IsRenewal, request_by, IsSent, all_found, found_made, its_number, none_taken, number_after, number_before, number_by, number_here, number_past, past}

-- ---- how far the renewal has come: the new numbers below this one were taken
abbrev phase_by : Bool → (ℕ → ℕ) → (low : ℕ) → Phase → Phase
phase_by passes new low (Asking k) = Asking (number_by passes new low k)
phase_by passes new low Firm = Firm
phase_by passes new low (Closing k) = Closing (number_by passes new low k)

abbrev held_by : Bool → (ℕ → ℕ) → (low : ℕ) → Held → protocol.Held
held_by passes new low held = held_in (phase_by passes new low held.phase) held.count held.previous

-- the phase's request was sent under its new number, if that is below this one
abbrev IsSentBy : Bool → (ℕ → ℕ) → Phase → (low version : ℕ) → Silo → Grain → Held → List letters.Request → Type 0
IsSentBy passes new (Asking k) low version silo grain held sent =
    passes ≡ true → new k < low → IsSent (Asking (new k)) version silo grain held sent
IsSentBy passes new Firm low version silo grain held sent = ⊤
IsSentBy passes new (Closing k) low version silo grain held sent =
    passes ≡ true → new k < low → IsSent (Closing (new k)) version silo grain held sent

module _ (passes : Bool) (new : ℕ → ℕ) (low : ℕ) where
  phase_past : (phase : Phase) → gets passes new low phase ≡ false → phase_by passes new (low + 1) phase ≡ phase_by passes new low phase
  phase_past (Asking k) other = ap Asking (number_past passes (new k) low k other)
  phase_past Firm other = refl
  phase_past (Closing k) other = ap Closing (number_past passes (new k) low k other)

  held_past : (o : Option Held) → ((h : Held) → o ≡ Some h → gets passes new low h.phase ≡ false)
      → option_map (held_by passes new low) o ≡ option_map (held_by passes new (low + 1)) o
  held_past None other = refl
  held_past (Some h) other = ap (λ p. Some (held_in p h.count h.previous)) (sym (phase_past h.phase (other h refl)))

  -- more was sent, and it is still so
  sent_past :
      (phase : Phase) (version : ℕ) (silo : Silo) (grain : Grain) (held : Held) (sent more : List letters.Request)
      → ((x : letters.Request) → Sent x sent → Sent x more)
      → gets passes new low phase ≡ false → IsSentBy passes new phase low version silo grain held sent
      → IsSentBy passes new phase (low + 1) version silo grain held more
  sent_past (Asking k) version silo grain held sent more grows other was =
      λ mine below. grows _ (was mine (past passes (new k) low other mine below))
  sent_past Firm version silo grain held sent more grows other was = tt
  sent_past (Closing k) version silo grain held sent more grows other was =
      λ mine below. grows _ (was mine (past passes (new k) low other mine below))

-- the renewal of a host's requests has come so far
record IsRenewed (host : Host) (passes : Grain → Bool) (new : ℕ → ℕ) (silo : Silo) (before w : protocol.World) (low : ℕ) : Type 0 where
  now : w.now ≡ before.now
  leaves : LeavesHolding silo before w
  next_count : w.next_count silo ≡ before.next_count silo
  next_number : w.next_number silo ≡ low
  held : (grain : Grain) → w.held silo grain ≡ option_map (held_by (passes grain) new low) (held_of host grain)
  sent : (grain : Grain) (held : Held) → held_of host grain ≡ Some held
      → IsSentBy (passes grain) new held.phase low (before.seen silo) silo grain held w.requests

-- one number was taken
record TakesOne (m : Setting) (host : Host) (passes : Grain → Bool) (new : ℕ → ℕ) (silo : Silo) (before w : protocol.World) (low : ℕ) : Type
    0 where
  a : Action
  allowed : Allowed m w a
  by : IsBy silo a
  then : IsRenewed host passes new silo before (after m w a) (low + 1)

-- so many numbers were taken
record TakesMany (m : Setting) (host : Host) (passes : Grain → Bool) (new : ℕ → ℕ) (silo : Silo) (before w : protocol.World) (low : ℕ) :
    Type 0 where
  actions : List Action
  allowed : AllAllowed m actions w
  by : AllBy silo actions
  then : IsRenewed host passes new silo before (run m actions w) low

-- all these requests were sent anew
pub record SendsAnew (m : Setting) (passes : Grain → Bool) (made : Host) (silo : Silo) (w : protocol.World) : Type 0 where
  pub actions : List Action
  pub allowed : AllAllowed m actions w
  pub by : AllBy silo actions
  pub leaves : LeavesHolding silo w (run m actions w)
  pub shown : IsShownHost made (state_of (run m actions w) silo)
  pub sent : All (λ e. passes e.0 ≡ true → IsSent e.1.phase (w.seen silo) silo e.0 e.1 (run m actions w).requests) made.held

module _ (m : Setting) (host made : Host) (passes : Grain → Bool) (new : ℕ → ℕ) (count : ℕ) (renewal : IsRenewal host passes new count made)
    (once : HoldsOnce host) (silo : Silo) (before : protocol.World) (alive : m.alive before.now silo ≡ true) where
  -- ---- one number more
  module _ (w : protocol.World) (low : ℕ) (is : IsRenewed host passes new silo before w low) where
    living : m.alive w.now silo ≡ true
    living = ap (λ now. m.alive now silo) is.now ∙ alive

    -- no other activation's request has the new number
    other_grain : (g r : Grain) (its held : Held) → held_of host g ≡ Some its → gets (passes g) new low its.phase ≡ true → r ≢ g
        → held_of host r ≡ Some held → gets (passes r) new low held.phase ≡ false
    other_grain g r its held found got apart there =
        on_bool (λ b. gets (passes r) new low held.phase ≡ b → b ≡ false) (gets (passes r) new low held.phase)
        (λ t so. absurd (apart (renewal.apart low g r its held found there got so))) (λ f so. refl) refl

    put_held :
        (g : Grain) (its : Held) (x : protocol.Held) → held_of host g ≡ Some its → gets (passes g) new low its.phase ≡ true
        → x ≡ held_by (passes g) new (low + 1) its → (r : Grain)
        → put_at silo g (Some x) w.held silo r ≡ option_map (held_by (passes r) new (low + 1)) (held_of host r)
    put_held g its x found got x_is r =
        elim (grain_cases r g) [
          | inl same ↦
              ap (λ q. put_at silo g (Some x) w.held silo q) same ∙ put_at_same silo g (Some x) w.held ∙ ap Some x_is
              ∙ ap (option_map (held_by (passes g) new (low + 1))) (sym found)
              ∙ ap (λ q. option_map (held_by (passes q) new (low + 1)) (held_of host q)) (sym same)
          | inr apart ↦
              put_at_other silo g (Some x) w.held silo r (λ s. apart) ∙ is.held r
              ∙ held_past (passes r) new low (held_of host r) (λ h there. other_grain g r its h found got apart there)
        ]

    sent_one :
        (g : Grain) (its : Held) (x : letters.Request) → held_of host g ≡ Some its → gets (passes g) new low its.phase ≡ true
        → IsSentBy (passes g) new its.phase (low + 1) (before.seen silo) silo g its (x ∷ w.requests) → (r : Grain) (held : Held)
        → held_of host r ≡ Some held
        → IsSentBy (passes r) new held.phase (low + 1) (before.seen silo) silo r held (x ∷ w.requests)
    sent_one g its x found got now r held there =
        elim (grain_cases r g) [
          | inl same ↦
              let one : Some its ≡ Some held = sym found ∙ ap (held_of host) (sym same) ∙ there in
              let here : its ≡ held = cc (one) in
              subst (λ q. IsSentBy (passes q) new held.phase (low + 1) (before.seen silo) silo q held (x ∷ w.requests)) (sym same)
              (subst (λ y. IsSentBy (passes g) new y.phase (low + 1) (before.seen silo) silo g y (x ∷ w.requests)) here now)
          | inr apart ↦
              sent_past (passes r) new low held.phase (before.seen silo) silo r held w.requests (x ∷ w.requests) (λ y s. inr s)
              (other_grain g r its held found got apart there) (is.sent r held there)
        ]

    -- an activation's request is sent under the number
    renews :
        (g : Grain) (its : Held) (x : protocol.Held) (purpose : letters.Purpose) → w.held silo g ≡ Some x
        → (n : ℕ) × (protocol.outstanding purpose x ≡ Some n)
        → held_of host g ≡ Some its → gets (passes g) new low its.phase ≡ true
        → protocol.renumbered (w.next_number silo) x ≡ held_by (passes g) new (low + 1) its
        → IsSentBy (passes g) new its.phase (low + 1) (before.seen silo) silo g its
        (asked w purpose silo g (protocol.count_of x) (protocol.previous_of x) ∷ w.requests)
        → TakesOne m host passes new silo before w low
    renews g its x purpose there number found got renumbered sent =
        let n = is.next_number in
        record {
          a = Renew silo g x purpose;
          allowed = record { alive = living; held = there; outstanding = number };
          by = refl;
          then = record {
            now = is.now;
            leaves = record { seen = is.leaves.seen; settled = is.leaves.settled; table = is.leaves.table; served = is.leaves.served };
            next_count = is.next_count;
            next_number = put_same silo (suc (w.next_number silo)) w.next_number ∙ omega arith;
            held = put_held g its (protocol.renumbered (w.next_number silo) x) found got renumbered;
            sent = sent_one g its (asked w purpose silo g (protocol.count_of x) (protocol.previous_of x)) found got sent;
          };
        }

    request_is :
        (n : ℕ) (purpose : letters.Purpose) (g : Grain) (count : ℕ) (previous : Option ActivationId) → n ≡ low
        → request_by purpose (before.seen silo) n silo g count previous ≡ asked w purpose silo g count previous
    request_is n purpose g count previous at =
        same_request purpose g previous (before.seen silo) (w.seen silo) n (w.next_number silo) silo silo count count (sym is.leaves.seen)
        (at ∙ sym is.next_number) refl refl

    renews_one : (phase : Phase) (g : Grain) (its : Held) → held_of host g ≡ Some (record its { phase = phase })
        → gets (passes g) new low phase ≡ true → TakesOne m host passes new silo before w low
    renews_one (Asking k) g its found got =
        let at = its_number (passes g) (new k) low got in
        let low_is : new k ≡ low = at.1 in
        renews g (record its { phase = Asking k }) (protocol.Asking its.count k its.previous) letters.Register
        (is.held g ∙ ap (option_map (held_by (passes g) new low)) found
        ∙ ap (λ n. Some (protocol.Asking its.count n its.previous)) (number_before (passes g) (new k) low k (omega (low_is, arith))))
        (k, refl) found got
        (ap (λ n. protocol.Asking its.count n its.previous) (is.next_number ∙ sym (number_here (passes g) (new k) low k got)))
        (λ mine below. inl (request_is (new k) letters.Register g its.count its.previous low_is))
    renews_one Firm g its found got = absurd (cc (got))
    renews_one (Closing k) g its found got =
        let at = its_number (passes g) (new k) low got in
        let low_is : new k ≡ low = at.1 in
        renews g (record its { phase = Closing k }) (protocol.Closing its.count k) letters.Deregister
        (is.held g ∙ ap (option_map (held_by (passes g) new low)) found
        ∙ ap (λ n. Some (protocol.Closing its.count n)) (number_before (passes g) (new k) low k (omega (low_is, arith))))
        (k, refl) found got
        (ap (λ n. protocol.Closing its.count n) (is.next_number ∙ sym (number_here (passes g) (new k) low k got)))
        (λ mine below. inl (request_is (new k) letters.Deregister g its.count None low_is))

    -- a find takes it, where no activation's request does
    finds_one : ((grain : Grain) (held : Held) → held_of host grain ≡ Some held → gets (passes grain) new low held.phase ≡ false)
        → TakesOne m host passes new silo before w low
    finds_one none =
        let n = is.next_number in
        record {
          a = Find silo;
          allowed = living;
          by = refl;
          then = record {
            now = is.now;
            leaves = record { seen = is.leaves.seen; settled = is.leaves.settled; table = is.leaves.table; served = is.leaves.served };
            next_count = is.next_count;
            next_number = put_same silo (suc (w.next_number silo)) w.next_number ∙ omega arith;
            held = λ r. is.held r ∙ held_past (passes r) new low (held_of host r) (none r);
            sent =
                λ r held there. sent_past (passes r) new low held.phase (before.seen silo) silo r held w.requests w.requests (λ x s. s)
                (none r held there) (is.sent r held there);
          };
        }

    abbrev takes : Grain × Held → Bool
    takes e = gets (passes e.0) new low e.1.phase

    takes_one : TakesOne m host passes new silo before w low
    takes_one = by (find takes host.held) refl
      where
        by : (found : Option (Grain × Held)) → find takes host.held ≡ found → TakesOne m host passes new silo before w low
        by None none = finds_one (λ grain held there. none_taken takes grain held host.held none there)
        by (Some e) found =
            let there = find_looked grain_cmp grain_cmp_total grain_cmp_exact takes host.held e once found in
            renews_one e.1.phase e.0 e.1 there.1 there.0

  takes_many : (n : ℕ) (w : protocol.World) (low : ℕ) → IsRenewed host passes new silo before w low
      → TakesMany m host passes new silo before w (low + n)
  takes_many zero w low is = record {
    actions = [];
    allowed = tt;
    by = tt;
    then = let same : low ≡ low + 0 = omega arith in subst (IsRenewed host passes new silo before w) same is;
  }
  takes_many (suc n) w low is =
      let first = takes_one w low is in
      let rest = takes_many n (after m w first.a) (low + 1) first.then in
      record {
        actions = first.a ∷ rest.actions;
        allowed = (first.allowed, rest.allowed);
        by = (first.by, rest.by);
        then =
            let same : low + 1 + n ≡ low + suc n = omega arith in
            subst (IsRenewed host passes new silo before (run m rest.actions (after m w first.a))) same rest.then;
      }

  -- ---- the first number
  phase_first : (its : Bool) (phase : Phase) → phase_by its new host.next_number phase ≡ phase
  phase_first its (Asking k) = ap Asking (number_before its (new k) host.next_number k (renewal.from k))
  phase_first its Firm = refl
  phase_first its (Closing k) = ap Closing (number_before its (new k) host.next_number k (renewal.from k))

  held_first : (its : Bool) (o : Option Held) → option_map held_as o ≡ option_map (held_by its new host.next_number) o
  held_first its None = refl
  held_first its (Some h) = ap (λ p. Some (held_in p h.count h.previous)) (sym (phase_first its h.phase))

  sent_first : (its : Bool) (phase : Phase) (version : ℕ) (grain : Grain) (held : Held) (sent : List letters.Request)
      → IsSentBy its new phase host.next_number version silo grain held sent
  sent_first its (Asking k) version grain held sent = λ mine below. let from = renewal.from k in absurd (omega (below, from, arith))
  sent_first its Firm version grain held sent = tt
  sent_first its (Closing k) version grain held sent = λ mine below. let from = renewal.from k in absurd (omega (below, from, arith))

  renewed_first : IsShownHost host (state_of before silo) → IsRenewed host passes new silo before before host.next_number
  renewed_first shown = record {
    now = refl;
    leaves = record { seen = refl; settled = refl; table = refl; served = refl };
    next_count = refl;
    next_number = shown.next_number;
    held = λ grain. shown.held grain ∙ held_first (passes grain) (held_of host grain);
    sent = λ grain held there. sent_first (passes grain) held.phase (before.seen silo) grain held before.requests;
  }

  -- ---- the last one
  abbrev end : ℕ
  end = host.next_number + count

  abbrev anew : Grain → Held → Held
  anew grain held = record held { phase = phase_anew (passes grain) new held.phase }

  phase_last : (phase : Phase) (grain : Grain) (held : Held) → held_of host grain ≡ Some (record held { phase = phase })
      → phase_by (passes grain) new end phase ≡ phase_anew (passes grain) new phase
  phase_last (Asking k) grain held found =
      ap Asking (number_after (passes grain) (new k) end k (renewal.below (new k) grain (record held { phase = Asking k }) found))
  phase_last Firm grain held found = refl
  phase_last (Closing k) grain held found =
      ap Closing (number_after (passes grain) (new k) end k (renewal.below (new k) grain (record held { phase = Closing k }) found))

  held_last : (grain : Grain) (o : Option Held) → held_of host grain ≡ o
      → option_map (held_by (passes grain) new end) o ≡ option_map held_as (option_map (anew grain) o)
  held_last grain None found = refl
  held_last grain (Some h) found = ap (λ p. Some (held_in p h.count h.previous)) (phase_last h.phase grain h found)

  got_last : (b : Bool) (k : ℕ) → b ≡ true → b && (new k == new k) ≡ true
  got_last true k mine = eq-eqb (new k) (new k) refl
  got_last false k mine = absurd (cc (mine))

  number_last : (b : Bool) (k : ℕ) → b ≡ true → new k ≡ cond b (new k) k
  number_last true k mine = refl
  number_last false k mine = absurd (cc (mine))

  sent_last :
      (phase : Phase) (version : ℕ) (grain : Grain) (held : Held) (sent : List letters.Request)
      → held_of host grain ≡ Some (record held { phase = phase }) → passes grain ≡ true
      → IsSentBy (passes grain) new phase end version silo grain held sent
      → IsSent (phase_anew (passes grain) new phase) version silo grain (record held { phase = phase_anew (passes grain) new phase }) sent
  sent_last (Asking k) version grain held sent found mine is =
      subst (λ n. Sent (request_by letters.Register version n silo grain held.count held.previous) sent) (number_last (passes grain) k mine)
      (is mine (renewal.below (new k) grain (record held { phase = Asking k }) found (got_last (passes grain) k mine)))
  sent_last Firm version grain held sent found mine is = tt
  sent_last (Closing k) version grain held sent found mine is =
      subst (λ n. Sent (request_by letters.Deregister version n silo grain held.count None) sent) (number_last (passes grain) k mine)
      (is mine (renewal.below (new k) grain (record held { phase = Closing k }) found (got_last (passes grain) k mine)))

  pub sends_anew : IsShownHost host (state_of before silo) → SendsAnew m passes made silo before
  sends_anew shown =
      let takes = takes_many count before host.next_number (renewed_first shown) in
      let is = takes.then in
      let P = λ (e : Grain × Held). passes e.0 ≡ true → IsSent e.1.phase (before.seen silo) silo e.0 e.1 (run m takes.actions before).requests in
      record {
        actions = takes.actions;
        allowed = takes.allowed;
        by = takes.by;
        leaves = is.leaves;
        shown = record {
          held = λ grain.
              is.held grain ∙ held_last grain (held_of host grain) refl
              ∙ ap (option_map held_as) (sym (ap (lookup (is_at (grain_cmp grain))) renewal.held ∙ found_made anew grain host.held));
          next_number = is.next_number ∙ sym renewal.next_number;
          next_count = is.next_count ∙ shown.next_count ∙ sym renewal.next_count;
        };
        sent =
            subst (All P) (sym renewal.held) (All-map P (λ e. (e.0, anew e.0 e.1)) host.held
            (all_found (λ e. P (e.0, anew e.0 e.1)) host.held once (λ grain held there mine.
            sent_last held.phase (before.seen silo) grain held (run m takes.actions before).requests there mine
            (is.sent grain held there))));
      }
