-- Lines written behind what stood there, and what begins with it.
use Rattle.std.proofs.Common.{◌≡◌, ℕ, ◌++◌, List, [], ◌∷◌, ap, refl, sym, ◌∙◌, append_assoc, append-nil}
use Rattle.script_rules.specs.Output.{Performed, before, printing}
use Rattle.texts.specs.Printed.{text_of_lines}
use Rattle.directory_rules.specs.State.{World}
use Rattle.script_lines.specs.Printed.{printed}
use Rattle.script_lines.proofs.Fronts.{begins_with_the_first}
use Rattle.script_lines.specs.Spaced.{BeginsWith}
use Rattle.console_command.specs.Commands.{Performs, in_session}

-- nothing more is printed
pub nothing_printed : (world : World) (text : List ℕ) → Performs (printing [] (in_session world)) text world text
nothing_printed world text = record { session = refl; lines = sym (append-nil text) }

-- one line is printed
pub one_printed : (world : World) (line start text : List ℕ) → text ≡ start ++ printed line
    → Performs (printing (line ∷ []) (in_session world)) start world text
one_printed world line start text written = record {
  session = refl;
  lines = written ∙ ap (λ t. start ++ t) (sym (append-nil (printed line)));
}

-- a line, and what is printed next
pub then_printed : (performed : Performed) (world : World) (line start middle text : List ℕ) → middle ≡ start ++ printed line
    → Performs performed middle world text → Performs (before line performed) start world text
then_printed performed world line start middle text written next = record {
  session = next.session;
  lines =
      next.lines ∙ (ap (λ t. t ++ text_of_lines performed.lines) written
      ∙ append_assoc start (printed line) (text_of_lines performed.lines));
}

-- what was written begins with what stood there
pub begins : (performed : Performed) (world : World) (start text : List ℕ) → Performs performed start world text → BeginsWith start text
begins performed world start text performs = record { more = text_of_lines performed.lines; joined = performs.lines }

pub begins_with_itself : (text after : List ℕ) → after ≡ text → BeginsWith text after
begins_with_itself text after same = record { more = []; joined = same ∙ sym (append-nil text) }

pub ruleset line_by_line = (nothing_printed, one_printed, then_printed, begins_with_itself, begins_with_the_first)
