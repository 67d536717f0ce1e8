-- Fencing tokens. The version that a silo has seen when an activation becomes firm on it is the activation's token: what a store
-- compares, so that a process which missed the death of its silo does no harm there.
use Rattle.std.specs.Prelude.{◌≡◌, ◌⊎◌, ℕ, ◌<◌, ◌≤◌, List, [], ◌∷◌, ◌++◌, All, Some, None}
use Rattle.silo_address.specs.Grain.{Grain}
use Rattle.silo_address.specs.declared.ActivationId.{ActivationId}
use Rattle.directory_rules.specs.Settings.{Settings, AreSettings}
use Rattle.directory_rules.specs.State.{Node, World}
use Rattle.directory_rules.specs.Event.{Event, IsEvent}
use Rattle.directory_rules.specs.Happens.{node_of}
use Rattle.directory_rules.specs.Run.{run_from_start}
use Rattle.directory_rules.specs.PlainMachine.{Life, Is_firm, Is_closing, life_on}
use Rattle.deployment_headline.specs.Steps.{Step, IsStep, deployed}
use Rattle.deployment_headline.specs.Theorems.{world_of}

-- the activation's silo isn't Dead, holds it for the grain in that phase of its life, and has seen the version
pub record IsHeld (world : World) (grain : Grain) (a : ActivationId) (life : Life) (seen : ℕ) : Type 0 where
  pub node : Node
  pub there : node_of world a.silo ≡ Some node
  pub held : life_on grain node ≡ Some life
  pub version : node.view.version ≡ seen

abbrev pub IsFirm : World → Grain → ActivationId → (seen : ℕ) → Type 0
IsFirm world grain a seen = IsHeld world grain a (Is_firm a.count) seen

abbrev pub IsClosing : World → Grain → ActivationId → (seen : ℕ) → Type 0
IsClosing world grain a seen = IsHeld world grain a (Is_closing a.count) seen

-- What follows is said of things that happen one after the other: of which lists of them may happen, and of the world after each.

-- it wasn't firm before the last one and is firm after it, by a silo that has seen its token
pub record BecomesFirm (H : Type 0) (after : List H → World) (before : List H) (last : H) (grain : Grain) (a : ActivationId) (token : ℕ) : Type 0 where
  pub not_before : (seen : ℕ) → ¬ (IsFirm (after before) grain a seen)
  pub firm : IsFirm (after (before ++ last ∷ [])) grain a token

-- at some moment in between its own silo was closing it; where it was firm before, it was closed or offered, and not given up
pub record WasClosing (H : Type 0) (after : List H → World) (before between : List H) (grain : Grain) (a : ActivationId) : Type 0 where
  pub first : List H
  pub rest : List H
  pub is : between ≡ first ++ rest
  pub seen : ℕ
  pub closing : IsClosing (after (before ++ first)) grain a seen

-- a silo that has a grain firm has seen no less than any that had it firm before
abbrev pub NeverFall : (H : Type 0) → (May : List H → Type 0) → (after : List H → World) → Type 0
NeverFall H May after =
    (before more : List H) (grain : Grain) (a b : ActivationId) (u v : ℕ) → May (before ++ more) → IsFirm (after before) grain a u → IsFirm (after (before ++ more)) grain b v → u ≤ v

-- where the silo of one died while that was firm, it has seen the version of this death, and so more than the dead silo ever saw
abbrev pub PassDeaths : (H : Type 0) → (May : List H → Type 0) → (after : List H → World) → Type 0
PassDeaths H May after =
    (before more : List H) (death : H) (grain : Grain) (a b : ActivationId) (u v : ℕ) → May (before ++ death ∷ more) → IsFirm (after before) grain a u
    → node_of (after (before ++ death ∷ [])) a.silo ≡ None → IsFirm (after (before ++ death ∷ more)) grain b v
    → (u < (after (before ++ death ∷ [])).views.version) × ((after (before ++ death ∷ [])).views.version ≤ v)

-- so of two that became firm the later one has the higher token, or the same one after the earlier one was closing
abbrev pub Rise : (H : Type 0) → (May : List H → Type 0) → (after : List H → World) → Type 0
Rise H May after =
    (before between : List H) (one later : H) (grain : Grain) (a b : ActivationId) (u v : ℕ) → May ((before ++ one ∷ between) ++ later ∷ [])
    → BecomesFirm H after before one grain a u → BecomesFirm H after (before ++ one ∷ between) later grain b v
    → (u < v) ⊎ ((u ≡ v) × WasClosing H after (before ++ one ∷ []) between grain a)

pub record TokensFence (H : Type 0) (May : List H → Type 0) (after : List H → World) : Type 0 where
  pub never_fall : NeverFall H May after
  pub pass_deaths : PassDeaths H May after
  pub rise : Rise H May after

-- so it is of the rule, and of silos that are processes of their own
abbrev pub TokensOfEventsFence : Type 0
TokensOfEventsFence = (settings : Settings) → AreSettings settings → TokensFence Event (All IsEvent) (λ events. (run_from_start settings events).world)

abbrev pub TokensOfProcessesFence : Type 0
TokensOfProcessesFence = (settings : Settings) → AreSettings settings → TokensFence Step (All IsStep) (λ steps. world_of (deployed settings steps))
