-- The line of each letter that is written is read as that letter, or not at all.
use Rattle.std.proofs.Common.{◌≡◌, ℕ, Option, Some, Result, sym, subst}
use Rattle.std.specs.Prelude.{⊤, IfOk}
use Rattle.std.proofs.lemmas.List.Elements.{All-weaker}
use Rattle.hash_ring.specs.declared.hashing.Hashing.{Hashing}
use Rattle.directory_rules.specs.State.{Letter}
use Rattle.deployment_headline.specs.Steps.{deployed}
use Rattle.process_rules.specs.ReadLine.{Asked, Receive}
use Rattle.process_rules.specs.Told.{IsSayable}
use Rattle.process_rules.proofs.LinesSaid.{line_said}
use Rattle.process_deployment.proofs.Answers.{ReadsAsItself}
use Rattle.process_deployment.proofs.Following.{WrittenReadAsThemselves}
use Rattle.process_deployment.proofs.SayableLetters.{written_is_sayable}

letter_is : {letter other : Letter} → ◌≡◌ {A = Option Asked} (Some (Receive letter)) (Some (Receive other)) → letter ≡ other
letter_is same = cc same

read_so : (hashing : Hashing) (letter : Letter) → IsSayable hashing letter → ReadsAsItself hashing letter
read_so hashing letter is other given =
    sym (letter_is (subst (λ (read : Result (Option Asked) ℕ). IfOk read (λ asked. asked ≡ Some (Receive letter))) given
    (line_said (λ number. ⊤) (λ range. ⊤) hashing letter is)))

pub written_read_as_themselves : WrittenReadAsThemselves
written_read_as_themselves settings steps are named =
    All-weaker (IsSayable settings.hashing) (ReadsAsItself settings.hashing) (read_so settings.hashing) (deployed settings steps).written
    (written_is_sayable settings steps are named)
