-- A firm activation stays firm, until its silo dies or closes it.
use Rattle.std.proofs.Common.{◌≡◌, ◌≢◌, ◌⊎◌, ℕ, suc, Option, Some, None, inl, inr, refl, ap, ◌∙◌}
use Rattle.silo_address.specs.Silo.{Silo}
use Rattle.silo_address.specs.Grain.{Grain}
use Rattle.directory_protocol.specs.Change.{put_at}
use Rattle.directory_protocol.specs.Setting.{Setting}
use Rattle.directory_protocol.specs.Letters.{Purpose, purpose_of}
use Rattle.directory_protocol.specs.World.{World, Held, Asking, Firm, Closing, count_of, outstanding, renumbered}
use Rattle.directory_protocol.specs.Actions.{New_view, See, Start, Close, Offer_away, Renew, Find, Serve, Confirm, Leave, Tell, Install, Recover}
use Rattle.directory_protocol.specs.PlainMachine.{FirmUntilClosed}
use Rattle.directory_protocol.proofs.Changes.{bool_cases, put_at_all}
use Rattle.directory_protocol.proofs.Numbers.{firm_number}

-- a change of what isn't firm leaves what is
still_firm :
    (held : Silo → Grain → Option Held) (s : Silo) (g : Grain) (o : Option Held) → ((c : ℕ) → held s g ≢ Some (Firm c))
    → (q : Silo) (r : Grain) (c : ℕ) → held q r ≡ Some (Firm c) → put_at s g o held q r ≡ Some (Firm c)
still_firm held s g o loose =
    put_at_all (λ q r o. (c : ℕ) → held q r ≡ Some (Firm c) → o ≡ Some (Firm c)) s g o held (λ c e. absurd (loose c e)) (λ q r n c e. e)

with_number :
    (held : Silo → Grain → Option Held) (s : Silo) (g : Grain) (x : Held) (purpose : Purpose) (n : ℕ) → held s g ≡ Some x
    → outstanding purpose x ≡ Some n → (c : ℕ) → held s g ≢ Some (Firm c)
with_number held s g x purpose n there number c e = let same : Firm c ≡ x = cc in
    firm_number c purpose n (ap (outstanding purpose) same ∙ number)

-- it is the one that closes, or another
closed_or_not :
    (held : Silo → Grain → Option Held) (s : Silo) (g : Grain) (x : Held) (o : Option Held) → held s g ≡ Some x → (q : Silo)
    (r : Grain) (d : ℕ) → held q r ≡ Some (Firm d) → (put_at s g o held q r ≡ Some (Firm d)) ⊎ ((s ≡ q) × (g ≡ r) × (x ≡ Firm d))
closed_or_not held s g x o there =
    put_at_all (λ q r y. (d : ℕ) → held q r ≡ Some (Firm d) → (y ≡ Some (Firm d)) ⊎ ((s ≡ q) × (g ≡ r) × (x ≡ Firm d))) s g o held
    (λ d e. inr (refl, refl, cc)) (λ q r n d e. inl e)

pub firm_until_closed : (m : Setting) (w : World) → FirmUntilClosed m w
firm_until_closed m w New_view may g s c f =
    elim (bool_cases (m.alive (suc w.now) s)) [ inl a ↦ inl (record { alive = a; firm = f.firm }) | inr d ↦ inr (inl d) ]
firm_until_closed m w (See x) may g s c f = inl (record { alive = f.alive; firm = f.firm })
firm_until_closed m w (Start q r previous) may g s c f =
    inl (record {
      alive = f.alive;
      firm = still_firm w.held q r (Some (Asking (w.next_count q) (w.next_number q) previous)) (λ c e.
          let free : w.held q r ≡ None = may.free in
          cc) s g c f.firm;
    })
firm_until_closed m w (Close q r x) may g s c f =
    elim (closed_or_not w.held q r x (Some (Closing (count_of x) (w.next_number q))) may.held s g c f.firm) [
      | inl e ↦ inl (record { alive = f.alive; firm = e })
      | inr e ↦ inr (inr (inl (ap (λ q. Close q r x) e.0 ∙ ap (λ r. Close s r x) e.1 ∙ ap (λ x. Close s g x) e.2)))
    ]
firm_until_closed m w (Offer_away q r d) may g s c f =
    elim (closed_or_not w.held q r (Firm d) (Some (Closing d (w.next_number q))) may.held s g c f.firm) [
      | inl e ↦ inl (record { alive = f.alive; firm = e })
      | inr e ↦ inr (inr (inr (ap (λ q. Offer_away q r d) e.0 ∙ ap (λ r. Offer_away s r d) e.1
          ∙ ap (λ x. Offer_away s g (count_of x)) e.2)))
    ]
firm_until_closed m w (Renew q r x purpose) may g s c f =
    inl (record {
      alive = f.alive;
      firm = still_firm w.held q r (Some (renumbered (w.next_number q) x))
          (with_number w.held q r x purpose (may.outstanding).0 may.held (may.outstanding).1) s g c f.firm;
    })
firm_until_closed m w (Find q) may g s c f = inl (record { alive = f.alive; firm = f.firm })
firm_until_closed m w (Serve x) may g s c f = inl (record { alive = f.alive; firm = f.firm })
firm_until_closed m w (Confirm y r x) may g s c f =
    inl (record {
      alive = f.alive;
      firm = still_firm w.held y.receiver r (Some (Firm (count_of x)))
          (with_number w.held y.receiver r x (purpose_of y.answer) y.number may.accepted.counts.held_there may.accepted.counts.same_number) s
          g c f.firm;
    })
firm_until_closed m w (Leave y r x) may g s c f =
    inl (record {
      alive = f.alive;
      firm = still_firm w.held y.receiver r None
          (with_number w.held y.receiver r x (purpose_of y.answer) y.number may.accepted.counts.held_there may.accepted.counts.same_number) s
          g c f.firm;
    })
firm_until_closed m w (Tell q) may g s c f = inl (record { alive = f.alive; firm = f.firm })
firm_until_closed m w (Install x snapshot) may g s c f = inl (record { alive = f.alive; firm = f.firm })
firm_until_closed m w (Recover x told) may g s c f = inl (record { alive = f.alive; firm = f.firm })
