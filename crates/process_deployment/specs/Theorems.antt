-- What holds of a cluster after any steps that may come.
use Rattle.std.specs.Prelude.{◌≡◌, ℕ, List, [], All, Contains, false, true, Ok, Some, map}
use Rattle.std.specs.Io.BufRead.{strip_last}
use Rattle.texts.specs.Printed.{text_of_lines}
use Rattle.texts.specs.Words.{carriage_return}
use Rattle.silo_address.specs.Silo.{Silo}
use Rattle.silo_address.specs.Grain.{Grain}
use Rattle.directory_rules.specs.declared.held.Held.{Held}
use Rattle.directory_rules.specs.declared.held.Phase.TheVariants.{Firm}
use Rattle.directory_rules.specs.Headline.{Headline}
use Rattle.directory_rules.specs.Host.{held_of}
use Rattle.directory_rules.specs.State.{Letter, World}
use Rattle.directory_rules.specs.PlainMachine.{PlainStep, IsPlainStep, plain_of}
use Rattle.directory_rules.specs.Settings.{Settings, AreSettings}
use Rattle.deployment_headline.specs.Deployment.{Deployment}
use Rattle.deployment_headline.specs.Steps as deployment
use Rattle.deployment_headline.specs.Theorems as deployment_theorems
use Rattle.silo_rules.specs.SiloValue.{told_of_its_join}
use Rattle.process_rules.specs.ReadLine.{Asked, read_silo_line}
use Rattle.process_rules.specs.OutputLaws.{CarriesItsJoin}
use Rattle.process_rules.specs.Output.{written}
use Rattle.process_deployment.specs.Allowed.{IsWritten, May, MayAll}
use Rattle.process_deployment.specs.Cluster.{JoinTokens, Process, Cluster, first_cluster, process_at, everyone}
use Rattle.process_deployment.specs.Steps.{Step, after, clustered}

-- what holds of the cluster after any steps that may come
abbrev pub AfterAnySteps : (Cluster → Type 0) → Type 0
AfterAnySteps Holds =
    (settings : Settings) (tokens : JoinTokens) (steps : List Step) → AreSettings settings → MayAll (first_cluster settings tokens) steps → Holds (clustered settings tokens steps)

-- the silos of the processes that aren't Dead, as a deployment in which these letters were written
abbrev pub deployment_of : Cluster → List Letter → Deployment
deployment_of c letters = record {
  settings = c.settings;
  changes = c.changes;
  membership = c.membership;
  processes = map (λ e. (e.0, e.1.silo)) c.processes;
  written = letters;
}

-- a deployment's steps make it, and each letter that a line says was written there
pub record IsDeployment (c : Cluster) : Type 0 where
  pub steps : List deployment.Step
  pub named : All deployment.IsStep steps
  pub letters : List Letter
  pub same : deployment.deployed c.settings steps ≡ deployment_of c letters
  pub told : (letter : Letter) → IsWritten c letter → Contains letters letter

abbrev pub ClustersAreDeployments : Type 0
ClustersAreDeployments = AfterAnySteps IsDeployment

-- the cluster as a world in which nothing is on its way
abbrev pub world_of : Cluster → World
world_of c = deployment_theorems.world_of (deployment_of c [])

abbrev pub LinesKeepTheHeadline : Type 0
LinesKeepTheHeadline = AfterAnySteps (λ c. Headline (world_of c))

-- the process of a silo that isn't Dead has an activation of the grain firm
pub record IsFirmAt (c : Cluster) (grain : Grain) (silo : Silo) : Type 0 where
  pub process : Process
  pub there : process_at silo c.processes ≡ Some process
  pub held : Held
  pub found : held_of process.silo.node.host grain ≡ Some held
  pub firm : held.phase ≡ Firm

-- no two have
abbrev pub NoTwoFirm : Cluster → Type 0
NoTwoFirm c = (grain : Grain) (s t : Silo) → IsFirmAt c grain s → IsFirmAt c grain t → s ≡ t

abbrev pub LinesKeepOneFirm : Type 0
LinesKeepOneFirm = AfterAnySteps NoTwoFirm

-- seen from outside, each step that may come is one step of the plain machine
abbrev pub LinesArePlain : Type 0
LinesArePlain = AfterAnySteps (λ c. (step : Step) → May c step → (kind : PlainStep) × IsPlainStep (plain_of (world_of c)) kind (plain_of (world_of (after c step))))

-- the process of a silo that isn't Dead by the changes decided goes on
abbrev pub LivingGoOn : Type 0
LivingGoOn = AfterAnySteps (λ c. (silo : Silo) (p : Process) → process_at silo c.processes ≡ Some p → p.ended ≡ false)

-- among the lines is one that tells the silo's own join, and carries the token
pub record ReadItsJoin (settings : Settings) (silo : Silo) (token : List ℕ) (lines : List (List ℕ)) : Type 0 where
  pub line : List ℕ
  pub there : Contains lines line
  pub asked : Asked
  pub says : read_silo_line settings.hashing (strip_last carriage_return line) ≡ Ok (Some asked)
  pub carries : CarriesItsJoin silo token asked

-- a process that was started with a token has read such a line, if its silo was told of its join
abbrev pub JoinedByItsToken : Settings → Silo × Process → Type 0
JoinedByItsToken settings e = (token : List ℕ) → e.1.token ≡ Some token → told_of_its_join e.1.silo ≡ true → ReadItsJoin settings e.0 token e.1.read

abbrev pub ProcessesJoinByTheirTokens : Type 0
ProcessesJoinByTheirTokens = AfterAnySteps (λ c. All (JoinedByItsToken c.settings) (everyone c))

-- what the process wrote is the output of the bytes that it read
abbrev pub HasItsOutput : Settings → Silo × Process → Type 0
HasItsOutput settings e = text_of_lines e.1.wrote ≡ written settings e.0 e.1.token (text_of_lines e.1.read)

abbrev pub ProcessesWriteTheirOutput : Type 0
ProcessesWriteTheirOutput = AfterAnySteps (λ c. All (HasItsOutput c.settings) (everyone c))
