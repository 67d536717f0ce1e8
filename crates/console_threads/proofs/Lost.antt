-- A play whose writes are held back breaks by a read, unless something was lost.
use Rattle.std.proofs.Common.{◌≡◌, ℕ, true, false, true≢false, List, length, Option, Some, arith, sym, ◌∙◌, inl, inr}
use Rattle.line_loop.specs.Calls.{ReadsInTurn, WritesKnown, WritesText, WritesTexts, wrote_some, wrote_nothing, write_failed, text_written, text_broken}
use Rattle.line_loop.specs.Endings.{MakesCalls}
use Rattle.line_loop.specs.declared.ended.Ended.{Ended}
use Rattle.line_loop.specs.declared.fault.ScriptLineFault.{ScriptLineFault}
use Rattle.line_loop.specs.declared.ended.Ended.TheVariants as ended
use Rattle.console_threads.specs.Held.{Holds, is_read_well}
use Rattle.console_threads.specs.declared.held.Held.{Held}

-- one write
abbrev pub keeps : Held → List ℕ → Option ℕ → Held → Type 0
keeps old bytes took new = Holds old.lost (length bytes) took new.lost × WritesKnown (Some old.text.items) bytes took (Some new.text.items)

-- a text that wasn't taken whole was lost
text_lost : (text : List ℕ) (old new : Held) → WritesText keeps text old new false → new.lost ≡ true
text_lost text old new (wrote_some whole count some fits once after) = text_lost _ _ new after
text_lost text old new (wrote_nothing some once) = absurd (omega (arith, some, once.0.0))
text_lost text old new (write_failed some once) = once.0

texts_lost : (old new : Held) → WritesTexts keeps old new false → new.lost ≡ true
texts_lost old new (text_written text written after) = texts_lost _ new after
texts_lost old new (text_broken text broken) = text_lost text old new broken

-- so the reads were well, unless the play is broken
pub read_well : {R : Type 0} (reads : R → Option (List ℕ) → R → Type 0) (source rest : R) (old new : Held) (end : Ended ScriptLineFault)
    → new.lost ≡ false
    → MakesCalls reads keeps (source, old) (rest, new) end → ReadsInTurn reads source rest (is_read_well end)
read_well reads source rest old new ended.Broken all (inl calls) = calls.0
read_well reads source rest old new ended.Broken all (inr calls) = absurd (true≢false (sym (texts_lost old new calls.1) ∙ all))
read_well reads source rest old new other all calls = calls.0
