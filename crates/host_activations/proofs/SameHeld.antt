-- `==` decides equality of what is held, and the same is held exactly where the same is found at each grain.
use Rattle.std.proofs.Common.{◌≡◌, refl, sym, ap, ◌∙◌, ℕ, List, Bool, Option, Some, None}
use Rattle.std.specs.Bool.{Decides}
use Rattle.std.specs.Option.{option_eq}
use Rattle.std.specs.Map.{lookup}
use Rattle.std.proofs.lemmas.Bool.Decides.{Decides-like, Decides-and, Decides-eqb}
use Rattle.std.proofs.lemmas.Option.{same_Some}
use Rattle.silo_address.specs.Grain.{Grain, grain_eq}
use Rattle.silo_address.specs.declared.ActivationId.{ActivationId}
use Rattle.silo_address.proofs.Same.{Decides-activation}
use Rattle.directory_rules.specs.declared.Held.{Held}
use Rattle.directory_rules.specs.declared.Phase.{Phase}
use Rattle.directory_rules.specs.declared.Phase.TheVariants as phase
use Rattle.host_activations.specs.declared.kept.Stage.{Stage}
use Rattle.host_activations.specs.declared.kept.Stage.TheVariants as stage
use Rattle.host_activations.specs.declared.kept.State.{State}
use Rattle.host_activations.specs.declared.kept.State.TheVariants.{Alone, After}
use Rattle.host_activations.specs.contracts.kept.KeptPartialEq as kept_eq
use Rattle.host_activations.specs.contracts.kept.StagePartialEq as stage_eq
use Rattle.host_activations.specs.contracts.kept.StatePartialEq as state_eq
use Rattle.host_activations.specs.Kept.{number_of, phase_of, previous_in, stage_in, stage_of, state_of}
use Rattle.host_activations.specs.KeptFields.{held_in, kept_as}
use Rattle.host_activations.specs.Activations.{ActivationsValue}
use Rattle.host_activations.specs.Begun.{AreBegun}
use Rattle.host_activations.proofs.Changes.{at, value}
use Rattle.host_activations.proofs.Grains.{tests_alike}
use Rattle.host_activations.proofs.Ordered.{lookup_in_order, same_order}

-- ---- Tests of equality.
Decides-stage : (a b : Stage) → Decides (stage_eq.TheImpl.ghosts.eq a b) (a ≡ b)
Decides-stage stage.Asking stage.Asking = (λ h. refl, λ h. refl)
Decides-stage stage.Asking stage.Firm = (λ h. cc, λ h. cc)
Decides-stage stage.Asking stage.Closing = (λ h. cc, λ h. cc)
Decides-stage stage.Firm stage.Asking = (λ h. cc, λ h. cc)
Decides-stage stage.Firm stage.Firm = (λ h. refl, λ h. refl)
Decides-stage stage.Firm stage.Closing = (λ h. cc, λ h. cc)
Decides-stage stage.Closing stage.Asking = (λ h. cc, λ h. cc)
Decides-stage stage.Closing stage.Firm = (λ h. cc, λ h. cc)
Decides-stage stage.Closing stage.Closing = (λ h. refl, λ h. refl)

Decides-state : (a b : State) → Decides (state_eq.TheImpl.ghosts.eq a b) (a ≡ b)
Decides-state (Alone a) (Alone b) = Decides-like _ (λ e. ap (λ (s : Stage). Alone s) e) (λ e. cc) (Decides-stage a b)
Decides-state (Alone a) (After b q) = (λ h. cc, λ h. cc)
Decides-state (After a p) (Alone b) = (λ h. cc, λ h. cc)
Decides-state (After a p) (After b q) =
    Decides-like _ (λ e i. After (e.0 i) (e.1 i)) (λ e. (ap stage_in e, same_Some p q (ap previous_in e)))
    (Decides-and _ _ (Decides-stage a b) (Decides-activation p q))

pub Decides-option : {A : Type 0} (test : A → A → Bool) → ((a b : A) → Decides (test a b) (a ≡ b)) → (a b : Option A)
    → Decides (option_eq test a b) (a ≡ b)
Decides-option test decides None None = (λ h. refl, λ h. refl)
Decides-option test decides None (Some b) = (λ h. cc, λ h. cc)
Decides-option test decides (Some a) None = (λ h. cc, λ h. cc)
Decides-option {A} test decides (Some a) (Some b) = Decides-like _ (λ e. ap (λ (x : A). Some x) e) (λ e. same_Some a b e) (decides a b)

-- a phase is the one that its stage and its number make, and a state has the parts that it was made of
phase_again : (p : Phase) → phase_of (stage_of p) (number_of p) ≡ p
phase_again (phase.Asking number) = refl
phase_again phase.Firm = refl
phase_again (phase.Closing number) = refl

stage_alike : (stage : Stage) (previous : Option ActivationId) → stage_in (state_of stage previous) ≡ stage
stage_alike stage None = refl
stage_alike stage (Some previous) = refl

previous_alike : (stage : Stage) (previous : Option ActivationId) → previous_in (state_of stage previous) ≡ previous
previous_alike stage None = refl
previous_alike stage (Some previous) = refl

-- what is kept of an activation is read as that activation
held_again : (h : Held) → held_in (kept_as h) ≡ h
held_again h i = record {
  count = h.count;
  phase = (ap (λ stage. phase_of stage (number_of h.phase)) (stage_alike (stage_of h.phase) h.previous) ∙ phase_again h.phase) i;
  previous = previous_alike (stage_of h.phase) h.previous i;
}

pub Decides-kept : (a b : Held) → Decides (kept_eq.TheImpl.ghosts.eq a b) (a ≡ b)
Decides-kept a b =
    Decides-like _ (λ e. sym (held_again a) ∙ (λ i. held_in (record { count = e.0 i; number = e.1.0 i; state = e.1.1 i })) ∙ held_again b)
    (λ e. (
      ap (λ (h : Held). h.count) e,
      (
        ap (λ (h : Held). number_of h.phase) e,
        ap (λ (h : Held). state_of (stage_of h.phase) h.previous)
            e,
      ),
    ))
    (Decides-and _ _ (Decides-eqb a.count b.count)
    (Decides-and _ _ (Decides-eqb (number_of a.phase) (number_of b.phase))
    (Decides-state (state_of (stage_of a.phase) a.previous) (state_of (stage_of b.phase) b.previous))))

-- ---- What a host holds.
pub same_value : (next then : ℕ) (es fs : List (Grain × Held)) → AreBegun next es → AreBegun then fs → next ≡ then
    → (a b : ActivationsValue) → value next es ≡ a → value then fs ≡ b
    → (r : Bool) → Decides r ((q : Grain) → lookup (grain_eq q) es ≡ lookup (grain_eq q) fs) → Decides r (a ≡ b)
same_value next then es fs are also alike a b is_a is_b r tells =
    Decides-like r
    (λ found. sym is_a
    ∙ (λ i. record {
      next_count = alike i;
      entries = same_order es fs are.apart also.apart
          (λ q. ap (λ test. lookup test es) (sym (tests_alike q)) ∙ found q ∙ ap (λ test. lookup test fs) (tests_alike q)) i;
    })
    ∙ is_b)
    (λ same q.
    ap (λ test. lookup test es) (tests_alike q)
    ∙ sym (lookup_in_order q es are.apart)
    ∙ ap (λ (v : ActivationsValue). at q v.entries) (is_a ∙ same ∙ sym is_b)
    ∙ lookup_in_order q fs also.apart
    ∙ ap (λ test. lookup test fs) (sym (tests_alike q)))
    tells
