-- A line that is too long is so, whatever comes behind its first bytes.
use Rattle.std.specs.Prelude.{◌≡◌, ℕ, ◌<◌, Bool, true, false, is_some, List, [], ◌∷◌, ◌++◌, length, Option, Some, None, Result, Err}
use Rattle.std.proofs.Common.{◌∙◌, ap, arith, refl, sym, true≢false}
use Rattle.std.proofs.lemmas.Bool.{lt-ltb}
use Rattle.std.proofs.lemmas.List.{length-append}
use Rattle.std.specs.Io.BufRead.{strip_last}
use Rattle.hash_ring.specs.declared.hashing.Hashing.{Hashing}
use Rattle.texts.specs.Printed.{text_of_lines}
use Rattle.texts.specs.Words.{carriage_return}
use Rattle.silo_rules.specs.SiloValue.{SiloValue}
use Rattle.process_rules.specs.ReadLine.{Asked, longest_line, read_silo_line, unended_fault}
use Rattle.process_rules.specs.Output.{after_last, answered_to, said}
use Rattle.line_loop.specs.TooLong.{length-strip_last}
use Rattle.process_answers.specs.LineAnswers.{PlaysLine, PlaysOne, most_begun}

too_long_to_read : (hashing : Hashing) (line : List ℕ) → longest_line < length line → read_silo_line hashing line ≡ Err 924
unfolding read_silo_line
too_long_to_read hashing line long = rw (lt-ltb longest_line (length line) long) refl

-- with its carriage return a line that has two bytes more than may be is still too long
said_too_long : (line : List ℕ) (s : SiloValue) → most_begun < length line → said line s ≡ Err 924
said_too_long line s long =
    let stripped = length-strip_last carriage_return line in too_long_to_read s.node.settings.hashing (strip_last carriage_return line) (omega arith)

unended_too_long : (line : List ℕ) → longest_line < length line → unended_fault line ≡ Some 924
unfolding unended_fault
unended_too_long [] long = absurd (omega arith)
unended_too_long (byte ∷ line) long = rw (lt-ltb longest_line (length (byte ∷ line)) long) refl

none_of : {S : Type 0} (stop : Option S) → is_some stop ≡ false → stop ≡ None
none_of None is = refl
none_of (Some stop) is = absurd (true≢false is)

-- so it plays as its first bytes do
line_plays_as_it_begins : {S : Type 0} (token : Option (List ℕ)) (old new : SiloValue) (line more text : List ℕ) (ended : Bool) (stop : Option S) → most_begun < length line
    → PlaysLine token old line true text stop new → PlaysLine token old (line ++ more) ended text stop new
line_plays_as_it_begins token old new line more text true stop long plays =
    let same : said line old ≡ said (line ++ more) old = said_too_long line old long ∙ sym (said_too_long (line ++ more) old (omega (arith, long, length-append line more))) in
    record {
      silo = plays.silo ∙ ap (λ (read : Result (Option Asked) ℕ). (answered_to token read old).silo) same;
      text = plays.text ∙ ap (λ (read : Result (Option Asked) ℕ). text_of_lines (answered_to token read old).lines) same;
      stops = plays.stops ∙ ap (λ (read : Result (Option Asked) ℕ). (answered_to token read old).ends) same;
    }
line_plays_as_it_begins token old new line more text false stop long plays =
    let is = said_too_long line old long in (
      plays.silo ∙ ap (λ (read : Result (Option Asked) ℕ). (answered_to token read old).silo) is,
      plays.text ∙ (ap (λ (read : Result (Option Asked) ℕ). text_of_lines (answered_to token read old).lines) is
          ∙ ap after_last (sym (unended_too_long (line ++ more) (omega (arith, long, length-append line more))))),
      none_of stop (plays.stops ∙ ap (λ (read : Result (Option Asked) ℕ). (answered_to token read old).ends) is),
    )

pub plays_as_it_begins : {S : Type 0} (token kept : Option (List ℕ)) (old new : SiloValue) (line more text : List ℕ) (ended : Bool) (stop : Option S) → most_begun < length line
    → PlaysOne token old line true text stop kept new → PlaysOne token old (line ++ more) ended text stop kept new
plays_as_it_begins token kept old new line more text ended stop long plays = (line_plays_as_it_begins token old new line more text ended stop long plays.0, plays.1)
