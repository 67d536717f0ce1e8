-- What is said of bytes, and how a check ends by it.
use Rattle.std.specs.Prelude.{◌≡◌, ℕ, List, Option, Some, None}
use Rattle.texts.specs.Printed.{Output}
use Rattle.dump_rules.specs.Judgement.{refused_by}
use Rattle.dumps.specs.ReadNumbers.{read_error_number}
use Rattle.dumps.specs.declared.error.DumpError.{DumpError}
use Rattle.console_command.specs.declared.checked.Checked.{Checked}
use Rattle.console_command.specs.declared.checked.Checked.TheVariants.{Right, Faulty}

-- the text is what is said, with the status of the ending: all is right, or not
abbrev pub IsSaid : (said : Output) → (text : List ℕ) → Checked → Type 0
IsSaid said text Right = said ≡ record { text = text; status = 0 }
IsSaid said text Faulty = said ≡ record { text = text; status = 1 }
IsSaid said text other = ⊥

-- a number is said; none where memory ran out
abbrev pub IsSaidOf : Option ℕ → (text : List ℕ) → Checked → Type 0
IsSaidOf None text checked = ⊥
IsSaidOf (Some number) text checked = IsSaid (refused_by number) text checked

-- where no dump was read, the number of the refusal is said
abbrev pub IsRefusal : DumpError → (text : List ℕ) → Checked → Type 0
IsRefusal error = IsSaidOf (read_error_number error)
