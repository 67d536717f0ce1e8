-- What is printed of a world's dump that is checked.
use Rattle.std.proofs.Common.{◌≡◌, ◌++◌, ◌∙◌, ℕ, List, [], ◌∷◌, Option, Result, ap, refl, subst, sym}
use Rattle.directory_rules.specs.State.{World}
use Rattle.texts.specs.Printed.{text_of_lines}
use Rattle.dump_rules.specs.Dump.{DumpValue, dump_of}
use Rattle.dump_rules.specs.Verdict.{DumpFault, verdict, verdict_line}
use Rattle.dump_headline.specs.Told.{IsRightlyTold}
use Rattle.rebuild_checker.specs.Faults.{Answers, IsLineOf}
use Rattle.rebuild_checker.specs.declared.check_fault.CheckFault.{CheckFault}
use Rattle.rebuild_checker.proofs.AnswerLines.{answer_line}
use Rattle.script_rules.specs.Output.{checked}
use Rattle.console_command.specs.Commands.{Performs, in_session}

-- all is right, and the line of the answer says so
pub verdict_told : (world : World) (dump : DumpValue) (answer : Result Unit CheckFault) (line start text : List ℕ) → IsRightlyTold world
    → dump ≡ dump_of world
    → Answers answer (verdict dump) → IsLineOf answer line → text ≡ start ++ line
    → Performs (checked (verdict (dump_of world)) (in_session world)) start world text
verdict_told world dump answer line start text right told answers said written =
    subst (λ fault. Performs (checked fault (in_session world)) start world text) (sym right.no_fault)
    (record {
      session = refl;
      lines =
          written
          ∙ ap (λ l. start ++ l)
          (answer_line answer (verdict dump) line answers said
          ∙ ap (λ (fault : Option DumpFault). text_of_lines (verdict_line fault ∷ [])) (ap verdict told ∙ right.no_fault));
    })
