-- As long as the directory names an activation of a grain, whatever may end that is of version u at least.
use Rattle.std.proofs.Common.{◌≡◌, ◌⊎◌, ◌<◌, ◌≤◌, ℕ, suc, true, Option, Some, None, List, ◌∷◌, inl, inr, sym, refl, ap, ◌∙◌, subst, arith}
use Rattle.silo_address.specs.Silo.{Silo}
use Rattle.silo_address.specs.Grain.{Grain}
use Rattle.silo_address.specs.declared.activation.ActivationId.{ActivationId}
use Rattle.directory_protocol.specs.Change.{put_at}
use Rattle.directory_protocol.specs.Setting.{Setting}
use Rattle.directory_protocol.specs.Letters.{activation_on, Purpose, Register, Deregister, Request, named, Report, Offer, Sent}
use Rattle.directory_protocol.specs.World.{World, Held, Asking, Firm, Closing, count_of, renumbered, previous_of, is_closing}
use Rattle.directory_protocol.specs.Actions.{New_view, Start, Close, Offer_away, Renew, Tell, MayStart, MayClose, MayRenew}
use Rattle.directory_protocol.specs.Effects.{asked, reported, after}
use Rattle.directory_protocol.specs.Notices.{IsGivenUp}
use Rattle.directory_protocol.proofs.All.{Kept}
use Rattle.directory_protocol.proofs.Changes.{put_at_all, sent_all}

-- the directory still names the activation a, and whatever may end that is of version u at least
pub record Early
    (m : Setting) (g : Grain) (a : ActivationId) (u : ℕ) (now : ℕ) (seen : Silo → ℕ) (held : Silo → Grain → Option Held)
    (requests : List Request)
    (offers : List Offer) (reports : List Report) (level : ℕ → ℕ) (authority : Grain → Option ActivationId) : Type 0 where
  pub entered : authority g ≡ Some a
  pub saw : m.alive now a.silo ≡ true → u ≤ seen a.silo
  pub deregistered : (r : Request) → Sent r requests → r.purpose ≡ Deregister → r.grain ≡ g → named r ≡ a → u ≤ r.version
  pub replaced : (r : Request) → Sent r requests → r.grain ≡ g → r.previous ≡ Some a → u ≤ r.version
  pub offered : (o : Offer) → Sent o offers → o.grain ≡ g → o.activation ≡ a → u ≤ o.version
  pub replacing : (s : Silo) (c n : ℕ) → held s g ≡ Some (Asking c n (Some a)) → u ≤ seen s
  pub told : (x : Report) → Sent x reports → x.sender ≡ a.silo → level (m.hash g) < x.version → (x.firm g ≡ Some a.count) ⊎ (u ≤ x.version)

module _ (m : Setting) (g : Grain) (a : ActivationId) (u : ℕ) where
  abbrev pub EarlyOf : World → Type 0
  EarlyOf w = Early m g a u w.now w.seen w.held w.requests w.offers w.reports w.level w.authority

  early_request :
      (w : World) (r : Request) → (r.purpose ≡ Deregister → r.grain ≡ g → named r ≡ a → u ≤ r.version)
      → (r.grain ≡ g → r.previous ≡ Some a → u ≤ r.version)
      → (held : Silo → Grain → Option Held) → Early m g a u w.now w.seen held w.requests w.offers w.reports w.level w.authority
      → Early m g a u w.now w.seen held (r ∷ w.requests) w.offers w.reports w.level w.authority
  early_request w r deregistered replaced held e =
      record {
        entered = e.entered;
        saw = e.saw;
        deregistered =
            sent_all (λ r. r.purpose ≡ Deregister → r.grain ≡ g → named r ≡ a → u ≤ r.version) r w.requests deregistered e.deregistered;
        replaced = sent_all (λ r. r.grain ≡ g → r.previous ≡ Some a → u ≤ r.version) r w.requests replaced e.replaced;
        offered = e.offered;
        replacing = e.replacing;
        told = e.told;
      }

  pub early_turn :
      (w : World) (s : Silo) (h : Grain) (o : Option Held) → ((c n : ℕ) → h ≡ g → o ≡ Some (Asking c n (Some a)) → u ≤ w.seen s) → EarlyOf w
      → Early m g a u w.now w.seen (put_at s h o w.held) w.requests w.offers w.reports w.level w.authority
  early_turn w s h o asks e =
      record {
        entered = e.entered;
        saw = e.saw;
        deregistered = e.deregistered;
        replaced = e.replaced;
        offered = e.offered;
        replacing = λ q c n is.
            put_at_all (λ q r o. r ≡ g → o ≡ Some (Asking c n (Some a)) → u ≤ w.seen q) s h o w.held (asks c n)
            (λ q r n' same is. e.replacing q c n (ap (w.held q) (sym same) ∙ is))
            q g refl is;
        told = e.told;
      }

  -- the activation a is no other than the one named
  pub its_silo : (w : World) (s : Silo) (c : ℕ) → m.alive w.now s ≡ true → activation_on s c ≡ a → EarlyOf w → u ≤ w.seen s
  its_silo w s c live is e =
      let same : s ≡ a.silo = ap (λ (b : ActivationId). b.silo) is in
      subst (λ s. u ≤ w.seen s) (sym same) (e.saw (subst (λ s. m.alive w.now s ≡ true) same live))

  asks_for : (x : Held) → previous_of x ≡ Some a → (c : ℕ) × (n : ℕ) × (x ≡ Asking c n (Some a))
  asks_for (Asking c n previous) is = (c, n, ap (Asking c n) is)
  asks_for (Firm c) is = absurd cc
  asks_for (Closing c n) is = absurd cc

  previous_same : (n : ℕ) (x : Held) → previous_of (renumbered n x) ≡ previous_of x
  previous_same n (Asking c i previous) = refl
  previous_same n (Firm c) = refl
  previous_same n (Closing c i) = refl

  pub early_view : (w : World) → EarlyOf w → EarlyOf (after m w New_view)
  early_view w e =
      record {
        entered = e.entered;
        saw = λ live. e.saw (m.dead_stays_dead w.now (suc w.now) a.silo (omega arith) live);
        deregistered = e.deregistered;
        replaced = e.replaced;
        offered = e.offered;
        replacing = e.replacing;
        told = e.told;
      }

  pub early_start : (w : World) (s : Silo) (h : Grain) (previous : Option ActivationId) → MayStart m w s h previous → EarlyOf w
      → EarlyOf (after m w (Start s h previous))
  early_start w s h previous may e =
      early_request w (asked w Register s h (w.next_count s) previous) (λ p. absurd cc) from_offer
      (put_at s h (Some (Asking (w.next_count s) (w.next_number s) previous)) w.held)
      (early_turn w s h (Some (Asking (w.next_count s) (w.next_number s) previous)) (λ c n same is. from_offer same cc) e)
    where
      from_offer : h ≡ g → previous ≡ Some a → u ≤ w.seen s
      from_offer same is =
          let o = may.offered a is in
          let low : u ≤ (o.0).version = e.offered o.0 o.1 (o.2 ∙ same) o.3 in
          omega (arith, o.4)

  pub early_close : (w : World) (s : Silo) (h : Grain) (x : Held) → MayClose m w s h x → EarlyOf w → EarlyOf (after m w (Close s h x))
  early_close w s h x may e =
      early_request w (asked w Deregister s h (count_of x) None) (λ p same is. its_silo w s (count_of x) may.alive is e)
      (λ same is. absurd cc)
      (put_at s h (Some (Closing (count_of x) (w.next_number s))) w.held)
      (early_turn w s h (Some (Closing (count_of x) (w.next_number s))) (λ d n same is. absurd cc) e)

  pub early_offer : (w : World) (s : Silo) (h : Grain) (c : ℕ) → MayClose m w s h (Firm c) → EarlyOf w
      → EarlyOf (after m w (Offer_away s h c))
  early_offer w s h c may e =
      let t = early_turn w s h (Some (Closing c (w.next_number s))) (λ d n same is. absurd cc) e in
      record {
        entered = e.entered;
        saw = e.saw;
        deregistered = e.deregistered;
        replaced = e.replaced;
        offered =
            sent_all (λ o. o.grain ≡ g → o.activation ≡ a → u ≤ o.version)
            (record { version = w.seen s; grain = h; activation = activation_on s c }) w.offers
            (λ same is. its_silo w s c may.alive is e) e.offered;
        replacing = t.replacing;
        told = e.told;
      }

  pub early_renew : (w : World) (s : Silo) (h : Grain) (x : Held) (purpose : Purpose) → MayRenew m w s h x purpose → EarlyOf w
      → EarlyOf (after m w (Renew s h x purpose))
  early_renew w s h x purpose may e =
      early_request w (asked w purpose s h (count_of x) (previous_of x)) (λ p same is. its_silo w s (count_of x) may.alive is e) again
      (put_at s h (Some (renumbered (w.next_number s) x)) w.held)
      (early_turn w s h (Some (renumbered (w.next_number s) x))
      (λ c n same is.
      let it : renumbered (w.next_number s) x ≡ Asking c n (Some a) = cc in
      again same (sym (previous_same (w.next_number s) x) ∙ ap previous_of it)) e)
    where
      again : h ≡ g → previous_of x ≡ Some a → u ≤ w.seen s
      again same is =
          let its = asks_for x is in
          e.replacing s its.0 its.1 (ap (w.held s) (sym same) ∙ may.held ∙ ap (λ x. Some x) its.2)

  pub early_tell : (w : World) (s : Silo) → m.alive w.now s ≡ true → EarlyOf w → EarlyOf (after m w (Tell s))
  early_tell w s live e =
      record {
        entered = e.entered;
        saw = e.saw;
        deregistered = e.deregistered;
        replaced = e.replaced;
        offered = e.offered;
        replacing = e.replacing;
        told =
            sent_all (λ x. x.sender ≡ a.silo → w.level (m.hash g) < x.version → (x.firm g ≡ Some a.count) ⊎ (u ≤ x.version)) (reported w s)
            w.reports
            (λ same above. inr (subst (λ s. u ≤ w.seen s) (sym same) (e.saw (subst (λ s. m.alive w.now s ≡ true) same live))))
            e.told;
      }

  -- silos see no less, and levels only rise
  pub early_rise :
      (w : World) (seen : Silo → ℕ) (level : ℕ → ℕ) (authority : Grain → Option ActivationId) → ((s : Silo) → w.seen s ≤ seen s)
      → w.level (m.hash g) ≤ level (m.hash g)
      → authority g ≡ Some a → EarlyOf w → Early m g a u w.now seen w.held w.requests w.offers w.reports level authority
  early_rise w seen level authority rises higher is e =
      record {
        entered = is;
        saw = λ live. let saw : u ≤ w.seen a.silo = e.saw live in let later : w.seen a.silo ≤ seen a.silo = rises a.silo in omega arith;
        deregistered = e.deregistered;
        replaced = e.replaced;
        offered = e.offered;
        replacing =
            λ s c n there. let saw : u ≤ w.seen s = e.replacing s c n there in let later : w.seen s ≤ seen s = rises s in omega arith;
        told = λ x q same above. e.told x q same (omega (arith, above, higher));
      }

-- where an activation is firm, nothing may end that yet
pub early_firm :
    (m : Setting) (w : World) (s : Silo) (g : Grain) (c u : ℕ) → Kept m w → w.authority g ≡ Some (activation_on s c)
    → w.held s g ≡ Some (Firm c)
    → (m.alive w.now s ≡ true → u ≤ w.seen s) → EarlyOf m g (activation_on s c) u w
early_firm m w s g c u k entered firm saw =
    record {
      entered = entered;
      saw = saw;
      deregistered = λ r q p same is. absurd (no_notice (named r) r.grain r.version is same (k.asked.notices.deregistered r q p));
      replaced =
          λ r q same is. absurd (no_notice (activation_on s c) r.grain r.version refl same
          (k.asked.notices.replaced r (activation_on s c) q is));
      offered = λ o q same is. absurd (no_notice o.activation o.grain o.version is same (k.asked.notices.offered o q));
      replacing =
          λ t d n is. absurd (no_notice (activation_on s c) g (w.seen t) refl refl
          (k.asked.notices.replacing t g d n (activation_on s c) is));
      told = λ x q same above. inl (k.backed.reported.all_firm x g c q above (ap (λ s. w.held s g) same ∙ firm));
    }
  where
    no_notice : (b : ActivationId) (h : Grain) (v : ℕ) → b ≡ activation_on s c → h ≡ g → IsGivenUp w.held w.next_count w.reports b h v → ⊥
    no_notice b h v is same given =
        let its : IsGivenUp w.held w.next_count w.reports (activation_on s c) g v =
        subst (λ h. IsGivenUp w.held w.next_count w.reports (activation_on s c) h v) same
        (subst (λ b. IsGivenUp w.held w.next_count w.reports b h v) is given) in
        let closing : is_closing (Firm c) ≡ true = its.closing (Firm c) firm refl in
        cc
