-- `show` prints something, and so does a step of the silo's own, be it refused.
use Rattle.std.proofs.Common.{◌≡◌, ℕ, List, [], Result, Ok, Err}
use Rattle.std.specs.Result.{OnErr}
use Rattle.directory_rules.specs.declared.effect.Effect.{Effect}
use Rattle.directory_rules.specs.declared.outcome.Happening.TheVariants.{Did}
use Rattle.directory_rules.specs.declared.own_step.OwnStep.{OwnStep}
use Rattle.directory_rules.specs.Input.{Does}
use Rattle.directory_rules.specs.Step.{Stepped}
use Rattle.silo_rules.specs.SiloValue.{SiloValue}
use Rattle.silo_rules.specs.Steps.{does}
use Rattle.script_rules.specs.Lines.{happening_words}
use Rattle.process_rules.specs.ReadLine.{Do, Show}
use Rattle.process_rules.specs.Show.{show_lines}
use Rattle.process_rules.specs.Answer.{answered, stepped}

pub show_prints : {A E : Type 0} (result : Result A E) (s : SiloValue) → OnErr result ((answered Show s).lines ≡ [] → ⊥)
unfolding answered show_lines
show_prints (Ok value) s = tt
show_prints (Err error) s = λ none. cc

stepped_prints : (happened : Effect → List (List ℕ)) (outcome : Result Stepped ℕ) (s : SiloValue) → (stepped happened outcome s).lines ≡ [] → ⊥
stepped_prints happened (Err number) s = λ none. cc
stepped_prints happened (Ok it) s = λ none. cc

pub step_prints : {A E : Type 0} (result : Result A E) (step : OwnStep) (s : SiloValue) → OnErr result ((answered (Do step) s).lines ≡ [] → ⊥)
unfolding answered
step_prints (Ok value) step s = tt
step_prints (Err error) step s = stepped_prints (λ effect. happening_words (Did s.node.host.silo effect)) (does s (Does step)) s
