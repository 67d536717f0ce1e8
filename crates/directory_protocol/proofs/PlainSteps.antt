-- Each action is a step of the plain machine.
use Rattle.std.proofs.Common.{◌≡◌, ◌≢◌, ℕ, suc, Bool, true, false, cond, Option, Some, None, option_map, sym, refl, ap, ◌∙◌, subst, arith}
use Rattle.silo_address.specs.Silo.{Silo}
use Rattle.silo_address.specs.Grain.{Grain}
use Rattle.silo_address.specs.declared.activation.ActivationId.{ActivationId}
use Rattle.directory_protocol.specs.Change.{put_at}
use Rattle.directory_protocol.specs.Setting.{Setting}
use Rattle.directory_protocol.specs.Letters.{activation_on, Register, purpose_of, Reply}
use Rattle.directory_protocol.specs.World.{World, start, Held, Asking, Firm, Closing, count_of, outstanding, renumbered}
use Rattle.directory_protocol.specs.Actions.{New_view, See, Start, Close, Offer_away, Renew, Find, Serve, Confirm, Leave, Tell, Install, Recover, MayClose, MayConfirm, MayLeave}
use Rattle.directory_protocol.specs.Effects.{after, run}
use Rattle.directory_protocol.specs.Safety.{AfterAnyRun}
use Rattle.directory_protocol.specs.PlainMachine.{Is_asking, Is_firm, Is_closing, IsChanged, IsPlainStep, life_of, plain_of, plain_step_of, StepsPlainly}
use Rattle.directory_protocol.proofs.Changes.{on_bool, put_at_all, put_at_same, put_at_other}
use Rattle.directory_protocol.proofs.Numbers.{firm_number}
use Rattle.directory_protocol.proofs.All.{Kept, kept_reached}

-- what is seen of a silo's holding, where it is live
seen_live : (b : Bool) (o : Option Held) → b ≡ true → cond b (option_map life_of o) None ≡ option_map life_of o
seen_live b o e = ap (λ b. cond b (option_map life_of o) None) e

-- what is seen firm is firm, on a live silo
seen_firm : (b : Bool) (o : Option Held) (d : ℕ) → cond b (option_map life_of o) None ≡ Some (Is_firm d) → (b ≡ true) × (o ≡ Some (Firm d))
seen_firm false o d e = absurd cc
seen_firm true None d e = absurd cc
seen_firm true (Some (Asking c n p)) d e = absurd cc
seen_firm true (Some (Firm c)) d e = let same : c ≡ d = cc in (refl, ap (λ c. Some (Firm c)) same)
seen_firm true (Some (Closing c n)) d e = absurd cc

-- with a request outstanding, in which phase it is
asks : (x : Held) (n : ℕ) → outstanding Register x ≡ Some n → life_of x ≡ Is_asking (count_of x)
asks (Asking c i p) n e = refl
asks (Firm c) n e = absurd cc
asks (Closing c i) n e = absurd cc

renumbered_life : (n : ℕ) (x : Held) → life_of (renumbered n x) ≡ life_of x
renumbered_life n (Asking c i p) = refl
renumbered_life n (Firm c) = refl
renumbered_life n (Closing c i) = refl

module _ (m : Setting) (w : World) (s : Silo) (g : Grain) (o : Option Held) (alive : m.alive w.now s ≡ true) where
  lives_changed :
      (t : Silo) (r : Grain)
      → cond (m.alive w.now t) (option_map life_of (put_at s g o w.held t r)) None ≡ put_at s g (option_map life_of o)
      (λ t r. cond (m.alive w.now t) (option_map life_of (w.held t r)) None) t r
  lives_changed =
      put_at_all (λ t r y. cond (m.alive w.now t) (option_map life_of (put_at s g o w.held t r)) None ≡ y) s g (option_map life_of o)
      (λ t r. cond (m.alive w.now t) (option_map life_of (w.held t r)) None)
      (seen_live (m.alive w.now s) (put_at s g o w.held s g) alive ∙ ap (option_map life_of) (put_at_same s g o w.held))
      (λ t r n. ap (λ o. cond (m.alive w.now t) (option_map life_of o) None) (put_at_other s g o w.held t r n))

  lives_same :
      (x : Held) → w.held s g ≡ Some x → option_map life_of o ≡ Some (life_of x) → (t : Silo) (r : Grain)
      → cond (m.alive w.now t) (option_map life_of (put_at s g o w.held t r)) None ≡ cond (m.alive w.now t)
      (option_map life_of (w.held t r)) None
  lives_same x there same =
      put_at_all (λ t r o. cond (m.alive w.now t) (option_map life_of o) None ≡ cond (m.alive w.now t) (option_map life_of (w.held t r))
      None) s g o w.held
      (ap (λ o. cond (m.alive w.now s) o None) (same ∙ sym (ap (option_map life_of) there)))
      (λ t r n. refl)

lives_viewed :
    (m : Setting) (w : World) (t : Silo) (r : Grain)
    → cond (m.alive (suc w.now) t) (option_map life_of (w.held t r)) None ≡ cond (m.alive (suc w.now) t)
    (cond (m.alive w.now t) (option_map life_of (w.held t r)) None) None
lives_viewed m w t r =
    on_bool (λ b. cond b (option_map life_of (w.held t r)) None ≡ cond b (cond (m.alive w.now t) (option_map life_of (w.held t r)) None)
    None) (m.alive (suc w.now) t)
    (λ a. sym (seen_live (m.alive w.now t) (w.held t r) (m.dead_stays_dead w.now (suc w.now) t (omega arith) a)))
    (λ a. refl)

-- where an asking activation is confirmed no other of its grain is firm
none_firm :
    (m : Setting) (w : World) (y : Reply) (g : Grain) (x : Held) → MayConfirm m w y g x → Kept m w → (t : Silo) (d : ℕ)
    → cond (m.alive w.now t) (option_map life_of (w.held t g)) None ≢ Some (Is_firm d)
none_firm m w y g x may k t d e =
    let firm = seen_firm (m.alive w.now t) (w.held t g) d e in
    let there : w.authority g ≡ Some (activation_on t d) = k.backed.confirmed.firm t g d firm.0 firm.1 in
    let here : w.authority g ≡ Some (activation_on y.receiver (count_of x)) = k.backed.confirmed.registered y g x may.accepted.sent may.answer may.accepted.alive may.accepted.counts in
    let one : activation_on t d ≡ activation_on y.receiver (count_of x) = cc in
    let silo : t ≡ y.receiver = ap (λ (a : ActivationId). a.silo) one in
    let held_firm : w.held y.receiver g ≡ Some (Firm d) = sym (ap (λ s. w.held s g) silo) ∙ firm.1 in
    let held_x : w.held y.receiver g ≡ Some x = may.accepted.counts.held_there in
    let same : x ≡ Firm d = cc in
    firm_number d (purpose_of y.answer) y.number (ap (outstanding (purpose_of y.answer)) (sym same) ∙ may.accepted.counts.same_number)

left_plainly :
    (m : Setting) (w : World) (y : Reply) (g : Grain) (x : Held) → MayLeave m w y g x
    → IsPlainStep m (plain_of m w) (plain_step_of (Leave y g x)) (plain_of m (after m w (Leave y g x)))
left_plainly m w y g (Asking c n previous) may = (
  seen_live (m.alive w.now y.receiver) (w.held y.receiver g) may.accepted.alive ∙ ap (option_map life_of) may.accepted.counts.held_there,
  record { version = refl; unused = λ t. refl; lives = lives_changed m w y.receiver g None may.accepted.alive },
)
left_plainly m w y g (Firm c) may = absurd (firm_number c (purpose_of y.answer) y.number may.accepted.counts.same_number)
left_plainly m w y g (Closing c n) may = (
  seen_live (m.alive w.now y.receiver) (w.held y.receiver g) may.accepted.alive ∙ ap (option_map life_of) may.accepted.counts.held_there,
  record { version = refl; unused = λ t. refl; lives = lives_changed m w y.receiver g None may.accepted.alive },
)

-- the activation is seen in its phase, and then closing
closing_plainly :
    (m : Setting) (w : World) (s : Silo) (g : Grain) (x : Held) → MayClose m w s g x
    → ((plain_of m w).lives s g ≡ Some (life_of x)) × IsChanged (plain_of m w) s g (Some (Is_closing (count_of x)))
    (plain_of m (after m w (Close s g x)))
closing_plainly m w s g x may = (
  seen_live (m.alive w.now s) (w.held s g) may.alive ∙ ap (option_map life_of) may.held,
  record { version = refl; unused = λ t. refl; lives = lives_changed m w s g (Some (Closing (count_of x) (w.next_number s))) may.alive },
)

closes_plainly :
    (m : Setting) (w : World) (s : Silo) (g : Grain) (x : Held) → MayClose m w s g x
    → IsPlainStep m (plain_of m w) (plain_step_of (Close s g x)) (plain_of m (after m w (Close s g x)))
closes_plainly m w s g (Asking c n previous) may = closing_plainly m w s g (Asking c n previous) may
closes_plainly m w s g (Firm c) may = closing_plainly m w s g (Firm c) may
closes_plainly m w s g (Closing c n) may = absurd (cc (may.not_yet))

steps_plainly : (m : Setting) (w : World) → Kept m w → StepsPlainly m w
steps_plainly m w k New_view may = record { version = refl; unused = λ t. refl; lives = lives_viewed m w }
steps_plainly m w k (See x) may = record { version = refl; unused = λ t. refl; lives = λ t r. refl }
steps_plainly m w k (Start s g previous) may =
    record {
      alive = may.alive;
      free = seen_live (m.alive w.now s) (w.held s g) may.alive ∙ ap (option_map life_of) may.free;
      version = refl;
      unused = λ t. refl;
      lives = lives_changed m w s g (Some (Asking (w.next_count s) (w.next_number s) previous)) may.alive;
    }
steps_plainly m w k (Close s g x) may = closes_plainly m w s g x may
steps_plainly m w k (Offer_away s g c) may = closing_plainly m w s g (Firm c) may
steps_plainly m w k (Renew s g x purpose) may =
    record {
      version = refl;
      unused = λ t. refl;
      lives =
          lives_same m w s g (Some (renumbered (w.next_number s) x)) may.alive x may.held (ap Some (renumbered_life (w.next_number s) x));
    }
steps_plainly m w k (Find s) may = record { version = refl; unused = λ t. refl; lives = λ t r. refl }
steps_plainly m w k (Serve x) may = record { version = refl; unused = λ t. refl; lives = λ t r. refl }
steps_plainly m w k (Confirm y g x) may = (
  seen_live (m.alive w.now y.receiver) (w.held y.receiver g) may.accepted.alive
      ∙ ap (option_map life_of) may.accepted.counts.held_there
      ∙ ap Some (asks x y.number (subst (λ a. outstanding (purpose_of a) x ≡ Some y.number) may.answer may.accepted.counts.same_number)),
  none_firm m w y g x may k,
  record { version = refl; unused = λ t. refl; lives = lives_changed m w y.receiver g (Some (Firm (count_of x))) may.accepted.alive },
)
steps_plainly m w k (Leave y g x) may = left_plainly m w y g x may
steps_plainly m w k (Tell s) may = record { version = refl; unused = λ t. refl; lives = λ t r. refl }
steps_plainly m w k (Install x snapshot) may = record { version = refl; unused = λ t. refl; lives = λ t r. refl }
steps_plainly m w k (Recover x told) may = record { version = refl; unused = λ t. refl; lives = λ t r. refl }

pub every_action_is_plain : AfterAnyRun StepsPlainly
every_action_is_plain m actions may = steps_plainly m (run m actions start) (kept_reached m actions may)
