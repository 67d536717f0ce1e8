-- Fencing tokens of processes that read lines and write lines: the versions that they tell with `firm`.
use Rattle.std.specs.Prelude.{◌≡◌, ◌⊎◌, ℕ, ◌<◌, List, [], ◌∷◌, ◌++◌, Some}
use Rattle.silo_address.specs.Grain.{Grain}
use Rattle.silo_address.specs.declared.ActivationId.{ActivationId}
use Rattle.directory_rules.specs.Settings.{Settings, AreSettings}
use Rattle.deployment_headline.specs.Tokens.{TokensFence, WasClosing}
use Rattle.process_deployment.specs.Allowed.{MayAll}
use Rattle.process_deployment.specs.Cluster.{JoinTokens, Process, answer_to, Cluster, first_cluster, process_at}
use Rattle.process_deployment.specs.Firm.{BecomesFirm}
use Rattle.process_deployment.specs.Steps.{Step, Read, clustered}
use Rattle.process_deployment.specs.Theorems.{world_of}

-- tokens fence after any steps that may come, whatever the processes were started with
abbrev pub TokensOfLinesFence : Type 0
TokensOfLinesFence =
    (settings : Settings) (tokens : JoinTokens) → AreSettings settings → TokensFence Step (MayAll (first_cluster settings tokens)) (λ steps. world_of (clustered settings tokens steps))

-- by that step the activation becomes firm at the process of its silo, which has seen the version: so it answers the line that tells both
pub record TellsToken (c : Cluster) (step : Step) (grain : Grain) (a : ActivationId) (version : ℕ) : Type 0 where
  pub process : Process
  pub line : List ℕ
  pub is : step ≡ Read a.silo line
  pub there : process_at a.silo c.processes ≡ Some process
  pub becomes : BecomesFirm grain a.count process.silo (answer_to line process).silo
  pub seen : process.silo.node.view.version ≡ version

-- so of two that are told of one grain the later one is higher; or it is the same, and the earlier activation was closing in between
abbrev pub TokensToldRise : Type 0
TokensToldRise =
    (settings : Settings) (tokens : JoinTokens) (before between : List Step) (one later : Step) (grain : Grain) (a b : ActivationId) (u v : ℕ) → AreSettings settings
    → MayAll (first_cluster settings tokens) ((before ++ one ∷ between) ++ later ∷ []) → TellsToken (clustered settings tokens before) one grain a u
    → TellsToken (clustered settings tokens (before ++ one ∷ between)) later grain b v
    → (u < v) ⊎ ((u ≡ v) × WasClosing Step (λ steps. world_of (clustered settings tokens steps)) (before ++ one ∷ []) between grain a)
