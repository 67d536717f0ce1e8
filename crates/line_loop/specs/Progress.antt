-- How far a session has come, and what steps make of that.
use Rattle.std.specs.Prelude.{◌≡◌, ℕ, suc, ◌+◌, ◌-◌, ◌*◌, ◌<◌, ◌≤◌, Bool, true, false, if◌then◌else◌, List, [], ◌∷◌, ◌++◌, length, take, drop, Option, Some, None, ⊤}
use Rattle.texts.specs.Words.{line_feed, pieces_at}
use Rattle.line_loop.specs.declared.ended.Ended.{Ended}
use Rattle.line_loop.specs.declared.ended.Ended.TheVariants.{AtEnd, Stopped, TooLong, OutOfMemory, Broken}
use Rattle.line_loop.specs.declared.session.Session.{Session}
use Rattle.line_loop.specs.declared.step.Step.{Step}
use Rattle.line_loop.specs.declared.step.Step.TheVariants.{Played, Wants, Ends}
use Rattle.line_loop.specs.Endings.{Concludes, MayWait}
use Rattle.line_loop.specs.Lines.{PlaysOn, Prints, PrintsLine}
use Rattle.line_loop.specs.Pieces.{IsOnePiece}

-- how far a session has come
pub record Progress : Type 0 where
  -- the number of the next line
  pub number : ℕ
  -- what is printed and waits to be written
  pub waiting : List ℕ
  -- what was read and is still to be played, and whether it goes on with a line that was played
  pub held : List ℕ
  pub passes_over : Bool
  -- how many more bytes may be read, and whether there are none
  pub left : ℕ
  pub ended : Bool

abbrev pub progress : Session → Progress
progress session = record {
  number = session.number;
  waiting = session.out.items;
  held = take (session.end - session.start) (drop session.start session.bytes.items);
  passes_over = session.passes_over;
  left = session.left;
  ended = session.ended;
}

-- before the first line
abbrev pub first_progress : (most_read : ℕ) → Progress
first_progress most_read = record { number = 1; waiting = []; held = []; passes_over = false; left = most_read; ended = false }

-- how much may still be done: each byte is read, and played; and once nothing is read
abbrev pub work : Progress → ℕ
work at = 2 * at.left + (length at.held + (if at.ended then 0 else 1))

-- behind a line of so many bytes, and its line feed
abbrev pub behind_line : (count : ℕ) → Progress → Progress
behind_line count at = record at { number = at.number + 1; held = drop (suc count) at.held; passes_over = false }

-- ---- The lines so far.

-- the line that is begun is too long, and was played behind the lines in front of it
pub record HasCut {P S : Type 0} (plays : P → ℕ → List ℕ → Bool → List ℕ → Option S → P → Type 0) (most_kept : ℕ) (first : P) (lines : List (List ℕ)) (begun text : List ℕ) (player : P) : Type 0 where
  pub long : most_kept < length begun
  pub before : List ℕ
  pub between : P
  pub on : PlaysOn plays first lines before between
  pub more : List ℕ
  pub plays_line : plays between (length lines + 1) begun true more None player
  pub printed : text ≡ before ++ more

-- lines were played, and what is begun behind them, or nothing is
abbrev pub ArePlayed : {P S : Type 0} → (plays : P → ℕ → List ℕ → Bool → List ℕ → Option S → P → Type 0) → (most_kept : ℕ) → (first : P) → (lines : List (List ℕ)) → (begun text : List ℕ) → P → (passes_over : Bool) → Type 0
ArePlayed plays most_kept first lines begun text player false = (begun ≡ []) × PlaysOn plays first lines text player
ArePlayed plays most_kept first lines begun text player true = HasCut plays most_kept first lines begun text player

-- these bytes were read and that text was written: what the lines of those that aren't held print is written or waits
pub record PlayedSoFar {P S : Type 0} (plays : P → ℕ → List ℕ → Bool → List ℕ → Option S → P → Type 0) (most_kept most_read : ℕ) (first : P) (bytes sent : List ℕ) (player : P) (at : Progress) : Type 0 where
  pub seen : List ℕ
  pub lines : List (List ℕ)
  pub begun : List ℕ
  pub read : bytes ≡ seen ++ at.held
  pub cut : pieces_at line_feed seen ≡ lines ++ begun ∷ []
  pub played : ArePlayed plays most_kept first lines begun (sent ++ at.waiting) player at.passes_over
  pub numbered : at.number ≡ length lines + 1
  pub counted : length bytes + at.left ≡ most_read
  pub waits : MayWait (PrintsLine plays) at.waiting

-- the run ends so, once the text is written that the bytes print: how, that is so whatever may still be read
abbrev pub EndsWithin : {S : Type 0} → (most_read : ℕ) → (bytes : List ℕ) → (at_end : Bool) → Ended S → Type 0
EndsWithin most_read bytes at_end AtEnd = (at_end ≡ true) × (length bytes ≤ most_read)
EndsWithin most_read bytes at_end TooLong = most_read < length bytes
EndsWithin most_read bytes at_end other = ⊤

pub record HasEnded {P S : Type 0} (plays : P → ℕ → List ℕ → Bool → List ℕ → Option S → P → Type 0) (most_read : ℕ) (first : P) (bytes text : List ℕ) (player : P) (at_end : Bool) (ended : Ended S) : Type 0 where
  pub concludes : (more : List ℕ) → (at_end ≡ true → more ≡ []) → Concludes plays first (bytes ++ more) text player ended
  pub reads : EndsWithin most_read bytes at_end ended

-- ---- Steps.

-- some bytes are played as a line: what that prints waits to be written then, and nothing else has changed
abbrev pub PlaysPart : {P S : Type 0} → (plays : P → ℕ → List ℕ → Bool → List ℕ → Option S → P → Type 0) → (player : P) → Progress → (line : List ℕ) → (ended : Bool) → (next : P) → Progress → Option (Ended S) → Type 0
PlaysPart plays player old line ended next new None =
    Prints (plays player old.number line ended) old.waiting new.waiting None next × (new ≡ record old { waiting = new.waiting })
PlaysPart plays player old line ended next new (Some (Stopped stop)) =
    Prints (plays player old.number line ended) old.waiting new.waiting (Some stop) next × (new ≡ record old { waiting = new.waiting })
PlaysPart plays player old line ended next new (Some OutOfMemory) = new ≡ old
PlaysPart plays player old line ended next new (Some other) = ⊥

-- more has to be read: what is held is a line that is begun and may still be well
pub record IsBegun (most_kept : ℕ) (at : Progress) : Type 0 where
  pub one_piece : IsOnePiece at.held
  pub fits : length at.held ≤ most_kept
  pub passed : at.passes_over ≡ true → at.held ≡ []

-- what a step did
pub record HasStepped {P S : Type 0} (plays : P → ℕ → List ℕ → Bool → List ℕ → Option S → P → Type 0) (most_kept most_read : ℕ) (player : P) (old : Progress) (next : P) (new : Progress) : Type 0 where
  pub same_end : new.ended ≡ old.ended
  pub goes_on : (first : P) (bytes sent : List ℕ) → PlayedSoFar plays most_kept most_read first bytes sent player old → PlayedSoFar plays most_kept most_read first bytes sent next new

-- by a step a run ends at the end of its input, by a line, or since memory runs out
abbrev pub EndsStep : {S : Type 0} → Ended S → Type 0
EndsStep TooLong = ⊥
EndsStep Broken = ⊥
EndsStep other = ⊤

abbrev pub Steps : {P S : Type 0} → (plays : P → ℕ → List ℕ → Bool → List ℕ → Option S → P → Type 0) → (most_kept most_read : ℕ) → P → Progress → P → Progress → Step S → Type 0
Steps plays most_kept most_read player old next new Played = HasStepped plays most_kept most_read player old next new × (work new < work old)
Steps plays most_kept most_read player old next new Wants =
    HasStepped plays most_kept most_read player old next new × (work new ≤ work old) × (new.ended ≡ false) × IsBegun most_kept new
Steps {P} plays most_kept most_read player old next new (Ends ended) = EndsStep ended × ((first : P) (bytes sent : List ℕ) → PlayedSoFar plays most_kept most_read first bytes sent player old
    → MayWait (PrintsLine plays) new.waiting × HasEnded plays most_read first bytes (sent ++ new.waiting) next old.ended ended)
