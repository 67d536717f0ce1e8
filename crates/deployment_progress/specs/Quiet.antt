-- Quiet: each process has seen the last change that was decided, and no further one is decided. All else may happen, again and again.
use Rattle.std.specs.Prelude.{⊤, ◌≡◌, List, All}
use Rattle.directory_rules.specs.Settings.{Settings, AreSettings}
use Rattle.deployment_headline.specs.Deployment.{Deployment}
use Rattle.deployment_headline.specs.Steps.{Step, Decide, Tell, Begin, See, Do, Receive, IsStep, deployed}
use Rattle.deployment_headline.specs.Theorems.{EachProcess}

-- the step decides no change
abbrev pub DecidesNone : Step → Type 0
DecidesNone (Decide change) = ⊥
DecidesNone (Tell silo index) = ⊤
DecidesNone (Begin silo version) = ⊤
DecidesNone (See silo version) = ⊤
DecidesNone (Do silo step) = ⊤
DecidesNone (Receive silo index) = ⊤

-- each process has seen the last change that was decided
abbrev pub HaveAllSeen : Deployment → Type 0
HaveAllSeen d = EachProcess (λ silo s. s.node.view.version ≡ d.membership.views.version) d

-- what holds of each deployment that steps make where all have seen the last change, and of any later steps that decide none
abbrev pub WhileQuiet : (Deployment → List Step → Type 0) → Type 0
WhileQuiet Holds =
    (settings : Settings) (steps later : List Step) → AreSettings settings → All IsStep steps → HaveAllSeen (deployed settings steps) → All IsStep later → All DecidesNone later → Holds (deployed settings steps) later
