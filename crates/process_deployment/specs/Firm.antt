-- What an application rests on: its silo's process tells it that an activation is firm exactly where that becomes firm, and firm it
-- stays until the application closes or offers it, or its silo dies. No view ends it, nor does a cancel, which ends what asks.
use Rattle.std.specs.Prelude.{◌≡◌, ℕ, List, ◌∷◌, [], ◌++◌, ◌⊎◌, Contains, Option, Some, Result, Ok, codes}
use Rattle.std.specs.Fmt.{decimal}
use Rattle.texts.specs.Words.{sentence}
use Rattle.silo_address.specs.Silo.{Silo, IsSilo}
use Rattle.silo_address.specs.Grain.{Grain}
use Rattle.directory_rules.specs.declared.own_step.OwnStep.{OwnStep}
use Rattle.directory_rules.specs.declared.own_step.OwnStep.TheVariants.{Close, Offer}
use Rattle.directory_rules.specs.PlainMachine.{Is_firm, life_on}
use Rattle.silo_rules.specs.SiloValue.{SiloValue}
use Rattle.script_rules.specs.Lines.{entry_words}
use Rattle.process_rules.specs.ReadLine.{Asked, Do}
use Rattle.process_rules.specs.Answer.{Answered}
use Rattle.process_rules.specs.Output.{said}
use Rattle.process_deployment.specs.Allowed.{May}
use Rattle.process_deployment.specs.Cluster.{Process, answer_to, Cluster, process_at}
use Rattle.process_deployment.specs.Steps.{Step, Decide, Read, dying, after}
use Rattle.process_deployment.specs.Theorems.{AfterAnySteps}

-- the silo has the grain's activation of that count firm
abbrev pub HasFirm : SiloValue → Grain → (count : ℕ) → Type 0
HasFirm s grain count = life_on grain s.node ≡ Some (Is_firm count)

-- it hadn't, and has
abbrev pub BecomesFirm : Grain → (count : ℕ) → (before after : SiloValue) → Type 0
BecomesFirm grain count before after = (¬ HasFirm before grain count) × HasFirm after grain count

-- `firm`, the activation, its grain, and the version that the silo has seen then
abbrev pub firm_line : Silo → Grain → (count seen : ℕ) → List ℕ
firm_line silo grain count seen =
    sentence (codes "firm" ∷ (entry_words (record { grain = grain; activation = record { silo = silo; count = count } }) ++ codes "at" ∷ decimal seen ∷ []))

-- that line, of a silo
abbrev pub its_firm_line : SiloValue → Grain → (count : ℕ) → List ℕ
its_firm_line s grain count = firm_line s.node.host.silo grain count s.node.view.version

-- the line's first word is `firm`
abbrev pub SaysFirm : List ℕ → Type 0
SaysFirm line = (rest : List ℕ) × (line ≡ codes "firm " ++ rest)

-- by the step the grain's activation is to end
abbrev pub IsToEnd : Grain → OwnStep → Type 0
IsToEnd grain (Close its) = its ≡ grain
IsToEnd grain (Offer its to) = its ≡ grain
IsToEnd grain other = ⊥

-- the application asks that it end
abbrev pub AsksToEnd : Grain → Result (Option Asked) ℕ → Type 0
AsksToEnd grain (Ok (Some (Do step))) = IsToEnd grain step
AsksToEnd grain other = ⊥

-- what a silo answers to a line that says this
pub record TellsFirm (s : SiloValue) (read : Result (Option Asked) ℕ) (it : Answered) : Type 0 where
  -- what becomes firm is told, and nothing else
  pub told : (grain : Grain) (count : ℕ) → BecomesFirm grain count s it.silo → it.lines ≡ its_firm_line s grain count ∷ []
  -- its silo sees no other version by it
  pub seen : (grain : Grain) (count : ℕ) → BecomesFirm grain count s it.silo → it.silo.node.view.version ≡ s.node.view.version
  -- and whatever is told so becomes firm
  pub only : (line : List ℕ) → Contains it.lines line → SaysFirm line → (grain : Grain) × (count : ℕ) × BecomesFirm grain count s it.silo × (line ≡ its_firm_line s grain count)
  -- what is firm stays firm, unless the application asks for its end
  pub stays : (grain : Grain) (count : ℕ) → HasFirm s grain count → HasFirm it.silo grain count ⊎ AsksToEnd grain read

-- so does each process that isn't of a Dead silo, whatever line comes to it
abbrev pub LinesTellFirm : Type 0
LinesTellFirm = AfterAnySteps (λ c. (silo : Silo) (p : Process) (line : List ℕ) → IsSilo silo → process_at silo c.processes ≡ Some p → TellsFirm p.silo (said line p.silo) (answer_to line p))

-- ---- So a firm activation ends by nothing else.
-- a silo's process has it firm
pub record HasItFirm (c : Cluster) (silo : Silo) (grain : Grain) (count : ℕ) : Type 0 where
  pub process : Process
  pub there : process_at silo c.processes ≡ Some process
  pub firm : HasFirm process.silo grain count

-- the step is a line by which the silo's application asks for the end, or the change by which the silo dies
abbrev pub IsItsEnd : Cluster → Step → Silo → SiloValue → Grain → Type 0
IsItsEnd c (Read its line) silo s grain = (its ≡ silo) × AsksToEnd grain (said line s)
IsItsEnd c (Decide change) silo s grain = dying c.membership change ≡ Some silo

-- whatever else happens, it stays firm
abbrev pub FirmStays : Type 0
FirmStays = AfterAnySteps (λ c. (step : Step) (silo : Silo) (grain : Grain) (count : ℕ) → May c step → (has : HasItFirm c silo grain count) → HasItFirm (after c step) silo grain count ⊎ IsItsEnd c step silo has.process.silo grain)
