-- Lines of a script: what each makes of the script's output.
use Rattle.std.specs.Prelude.{◌≡◌, ℕ, ◌+◌, List, [], ◌∷◌, ◌++◌, map, Option, Some, None}
use Rattle.std.specs.Io.BufRead.{strip_last}
use Rattle.texts.specs.Printed.{Output, text_of_lines}
use Rattle.texts.specs.Words.{carriage_return}
use Rattle.script_rules.specs.Lines.{fault_line}
use Rattle.script_rules.specs.Script.{lines_of}
use Rattle.script_lines.specs.Numbers.{script_fault_number}
use Rattle.line_loop.specs.Endings.{EndsInTurn}
use Rattle.line_loop.specs.Outputs.{WritesOutput}
use Rattle.line_loop.specs.declared.ended.Ended.{Ended}
use Rattle.line_loop.specs.declared.fault.ScriptLineFault.{ScriptLineFault}

-- a rule for lines: their output, by the number of the first
abbrev pub Rule : Type 0
Rule = (number : ℕ) → (lines : List (List ℕ)) → Output

-- nothing is printed, and all is well
abbrev pub no_output : Output
no_output = record { text = []; status = 0 }

-- the line of a fault is printed, and the script ends
abbrev pub faulty_output : (number fault : ℕ) → Output
faulty_output number fault = record { text = text_of_lines (fault_line number fault ∷ []); status = 2 }

-- the text of the line that tells the fault
abbrev pub told_fault : ScriptLineFault → List ℕ
told_fault fault = text_of_lines (fault_line fault.line (script_fault_number fault.fault) ∷ [])

-- a text in front of an output
abbrev pub behind : List ℕ → Output → Output
behind text output = record output { text = text ++ output.text }

-- a line, given without its line feed, has no carriage return at its end
abbrev pub stripped : List ℕ → List ℕ
stripped = strip_last carriage_return

-- one line played, whatever lines come next, by the rule before it and the rule after it. Without a fault, the output of all that come
-- next stands behind what the line prints; a fault is told by the line's number, and ends the script.
abbrev pub PlaysLine : (old new : Rule) → (number : ℕ) → (line text : List ℕ) → Option ScriptLineFault → Type 0
PlaysLine old new number line text None = (lines : List (List ℕ)) → old number (stripped line ∷ lines) ≡ behind text (new (number + 1) lines)
PlaysLine old new number line text (Some fault) =
    (fault.line ≡ number) × (text ≡ told_fault fault) × ((lines : List (List ℕ)) → old number (stripped line ∷ lines) ≡ record { text = text; status = 2 })

-- ---- A script.

-- how many bytes may begin a line that isn't known to be too long: those of the longest, and a carriage return
abbrev pub most_begun : ℕ
most_begun = 8193

-- how many bytes a script may have
abbrev pub most_read : ℕ
most_read = 268435456

-- the text ends with the line that tells the fault
abbrev pub TellsFault : ScriptLineFault → (text : List ℕ) → Type 0
TellsFault fault text = (front : List ℕ) × (text ≡ front ++ told_fault fault)

-- a script whose lines have that output is played
abbrev pub WritesScript : (output : List (List ℕ) → Output) → (script : List ℕ) → (rest begun written : Option (List ℕ)) → Ended ScriptLineFault → Type 0
WritesScript output script rest begun written ended = WritesOutput TellsFault 2 most_read (output (lines_of script)) script rest begun written ended

-- lines of a script print that text, and none has a fault
abbrev pub PrintsLines : (output : List (List ℕ) → Output) → (lines : List (List ℕ)) → (text : List ℕ) → Type 0
PrintsLines output lines text = output (map stripped lines) ≡ record { text = text; status = 0 }

-- a line prints that text by itself
abbrev pub PrintsOne : {W : Type 0} → (output : W → Rule) → (text : List ℕ) → Type 0
PrintsOne {W} output text = (world : W) × (number : ℕ) × (line : List ℕ) × (text ≡ (output world number (line ∷ [])).text)

-- a script is played in turn: more is read only where all is written that the lines print which were read whole, and none of those has a
-- fault, nor is the one that is begun too long
abbrev pub PlaysInTurn : {R W S : Type 0} → (reads : R → Option (List ℕ) → R → Type 0) → (writes : W → List ℕ → Option ℕ → W → Type 0) → (output : S → Rule) → (first : S) → (old new : R × W) → Ended ScriptLineFault → Type 0
PlaysInTurn reads writes output first old new ended = EndsInTurn reads writes most_begun most_read (PrintsLines (output first 1)) (PrintsOne output) old new ended
