-- What is told, by the program's end.
use Rattle.std.proofs.Common.{◌≡◌, ◌≢◌, ◌<◌, ◌++◌, ℕ, true, List, [], length, codes, decimal, Option, Result, Ok, Err, IfOk, Global, String, string_bytes, refl, sym, subst, ap, ◌∙◌, append_assoc}
use Rattle.std.proofs.KnownBytes.{Appends-nil}
use Rattle.std.specs.declared.io.ErrorKind.{ErrorKind}
use Rattle.std.specs.declared.io.ErrorKind.TheVariants as kinds
use Rattle.line_loop.specs.Calls.{wrote_all}
use Rattle.line_loop.specs.declared.ended.Ended.{Ended}
use Rattle.line_loop.specs.declared.ended.Ended.TheVariants as ends
use Rattle.line_loop.specs.declared.fault.ScriptLineFault.{ScriptLineFault}
use Rattle.console_command.specs.declared.exit.Exit.{Exit}
use Rattle.console_command.specs.declared.exit.Exit.TheVariants.{Played, Refused}
use Rattle.console_command.specs.Exits.{exit_without_words}
use Rattle.threaded_play.specs.Endings.{IsSent}
use Rattle.console_command.specs.Errors.{IsTold, Tells, TellsEnd, TellsFault, fault_text, told_without_words}

-- where there is nothing to tell, nothing is written
pub nothing_told : {E : Type 0} (writes : E → List ℕ → Option ℕ → E → Type 0) (contents : E → Option (List ℕ)) (exit : Exit) (errors : E)
    → Tells exit [] → IsTold writes contents exit errors errors
nothing_told writes contents exit errors tells = ([], tells, (true, Appends-nil (contents errors), wrote_all))

-- of a whole play there is nothing to tell
pub all_played : (ended : Ended ScriptLineFault) → ended ≡ ends.AtEnd → Tells (Played ended) []
all_played ended is = let P : Ended ScriptLineFault → Type 0 = λ e. TellsEnd e [] in subst P (sym is) refl

-- words that can't be had, though there is memory, are refused
pub refused_without : (kind : ErrorKind) → kind ≢ kinds.OutOfMemory → Refused ≡ exit_without_words kind
refused_without kinds.OutOfMemory not = absurd (not refl)
refused_without _ not = refl

-- and it is told that one isn't text
pub told_so : {E : Type 0} (writes : E → List ℕ → Option ℕ → E → Type 0) (contents : E → Option (List ℕ)) (kind : ErrorKind) (old new : E)
    → kind ≢ kinds.OutOfMemory
    → IsSent writes contents (told_without_words kinds.InvalidData) old new → IsSent writes contents (told_without_words kind) old new
told_so writes contents kinds.OutOfMemory old new not told = absurd (not refl)
told_so writes contents _ old new not told = told

-- a fault is told in those words
pub in_words : {E : Type 0} (fault : ScriptLineFault) (words : List ℕ) (told : Result (String Global) E) → 0 < length words
    → IfOk told (λ text. string_bytes text ≡ fault_text fault.line words)
    → IfOk told (λ text. TellsFault fault (string_bytes text))
in_words fault words (Ok text) some is = (words, some, is)
in_words fault words (Err error) some is = tt

-- pieces that were put one behind the other
joined : (a b c d e none one two three four five : List ℕ) → none ≡ [] → one ≡ none ++ a → two ≡ one ++ b → three ≡ two ++ c
    → four ≡ three ++ d → five ≡ four ++ e
    → five ≡ a ++ (b ++ (c ++ (d ++ e)))
joined a b c d e none one two three four five is0 is1 is2 is3 is4 is5 =
    let first : one ≡ a = is1 ∙ ap (λ (l : List ℕ). l ++ a) is0 in
    let second : two ≡ a ++ b = is2 ∙ ap (λ (l : List ℕ). l ++ b) first in
    let third : three ≡ (a ++ b) ++ c = is3 ∙ ap (λ (l : List ℕ). l ++ c) second in
    let fourth : four ≡ ((a ++ b) ++ c) ++ d = is4 ∙ ap (λ (l : List ℕ). l ++ d) third in
    is5 ∙ (ap (λ (l : List ℕ). l ++ e) fourth
    ∙ (append_assoc ((a ++ b) ++ c) d e ∙ (append_assoc (a ++ b) c (d ++ e) ∙ append_assoc a b (c ++ (d ++ e)))))

-- and by its line alone
pub by_line : (fault : ScriptLineFault) (words digits said none one two three four five : List ℕ) → 0 < length words
    → digits ≡ decimal fault.line → said ≡ words → none ≡ []
    → one ≡ none ++ codes "error: line " → two ≡ one ++ digits → three ≡ two ++ codes ": " → four ≡ three ++ said
    → five ≡ four ++ codes "\n" → TellsFault fault five
by_line fault words digits said none one two three four five some digits_are words_are is0 is1 is2 is3 is4 is5 = (
  words,
  some,
  joined (codes "error: line ") (decimal fault.line) (codes ": ") words (codes "\n") none one two three four five is0 is1
      (is2 ∙ ap (λ (l : List ℕ). one ++ l) digits_are) is3 (is4 ∙ ap (λ (l : List ℕ). three ++ l) words_are) is5,
)
