-- What a check answers, as the verdict has it, and what is printed of it.
use Rattle.std.specs.Prelude.{◌≡◌, ℕ, List, [], ◌∷◌, ◌++◌, codes, Option, Some, None, Result, Ok, Err, ⊤}
use Rattle.silo_address.specs.SiloText.{silo_text}
use Rattle.silo_address.specs.Grain.{grain_text}
use Rattle.texts.specs.Printed.{text_of_lines}
use Rattle.dump_rules.specs.Verdict as rule
use Rattle.dump_rules.specs.Verdict.{DumpFault, verdict_line}
use Rattle.rebuild_checker.specs.declared.check_fault.CheckFault.{CheckFault}
use Rattle.rebuild_checker.specs.declared.check_fault.CheckFault.TheVariants.{RingDiffers, WrongRange, TwoFirm, MissingFirm, Stranger, OutOfMemory}

-- the fault that the verdict names; none where memory ran out
abbrev pub fault_of : CheckFault → Option DumpFault
fault_of (RingDiffers silo) = Some (rule.RingDiffers silo)
fault_of (WrongRange silo) = Some (rule.WrongRange silo)
fault_of (TwoFirm grain) = Some (rule.TwoFirm grain)
fault_of (MissingFirm grain) = Some (rule.MissingFirm grain)
fault_of (Stranger grain) = Some (rule.Stranger grain)
fault_of OutOfMemory = None

-- its number, and the silo or the grain
abbrev pub fault_text : CheckFault → List ℕ
fault_text (RingDiffers silo) = codes "973 " ++ silo_text silo
fault_text (WrongRange silo) = codes "977 " ++ silo_text silo
fault_text (TwoFirm grain) = codes "976 " ++ grain_text grain
fault_text (MissingFirm grain) = codes "974 " ++ grain_text grain
fault_text (Stranger grain) = codes "975 " ++ grain_text grain
fault_text OutOfMemory = codes "out of memory"

-- a check answers by the verdict, unless memory ran out
abbrev pub Answers : Result Unit CheckFault → Option DumpFault → Type 0
Answers (Ok done) verdict = verdict ≡ None
Answers (Err OutOfMemory) verdict = ⊤
Answers (Err fault) verdict = verdict ≡ fault_of fault

-- the text is the line of that answer, with its line feed; there is none where memory ran out
abbrev pub IsLineOf : Result Unit CheckFault → List ℕ → Type 0
IsLineOf (Ok done) text = text ≡ text_of_lines (verdict_line None ∷ [])
IsLineOf (Err OutOfMemory) text = ⊥
IsLineOf (Err fault) text = text ≡ text_of_lines (verdict_line (fault_of fault) ∷ [])
