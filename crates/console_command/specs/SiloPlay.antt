-- Processes of silos, by the rule.
use Rattle.std.specs.Prelude.{ℕ, List, Option, ⊤}
use Rattle.silo_address.specs.Silo.{Silo}
use Rattle.directory_rules.specs.Settings.{Settings}
use Rattle.silo_rules.specs.SiloValue.{SiloValue}
use Rattle.process_rules.specs.Output.{silo_output}
use Rattle.line_loop.specs.Endings.{EndsInTurn}
use Rattle.line_loop.specs.Outputs.{WritesOutput}
use Rattle.line_loop.specs.declared.ended.Ended.{Ended}
use Rattle.process_answers.specs.LineAnswers.{PrintsAnswer, PrintsLines, most_begun, most_read}
use Rattle.process_answers.specs.declared.player.Dead.{Dead}

-- the lines of a process are answered, and its output is written
abbrev pub WritesAnswers : Settings → Silo → (token : Option (List ℕ)) → (input : List ℕ) → (rest begun written : Option (List ℕ)) → Ended Dead → Type 0
WritesAnswers settings silo token input rest begun written ended = WritesOutput (λ dead text. ⊤) 0 most_read (silo_output settings silo token input) input rest begun written ended

-- in turn: more is read only where all is written that is answered to the lines that were read whole, by which the process doesn't end; to
-- one that is begun too, where it is too long
abbrev pub AnswersInTurn : {R W : Type 0} → (reads : R → Option (List ℕ) → R → Type 0) → (writes : W → List ℕ → Option ℕ → W → Type 0) → (token : Option (List ℕ)) → SiloValue → (old new : R × W) → Ended Dead → Type 0
AnswersInTurn reads writes token silo old new ended = EndsInTurn reads writes most_begun most_read (PrintsLines token silo) PrintsAnswer old new ended
