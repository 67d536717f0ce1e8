-- What reads and writes make of a session's progress.
use Rattle.std.specs.Prelude.{◌≡◌, ℕ, ◌+◌, ◌<◌, ◌≤◌, true, false, List, [], ◌++◌, length, Option, Some, None, ⊤}
use Rattle.line_loop.specs.declared.ended.Ended.{Ended}
use Rattle.line_loop.specs.declared.ended.Ended.TheVariants.{TooLong, OutOfMemory, Broken}
use Rattle.line_loop.specs.Calls.{most_at_once}
use Rattle.line_loop.specs.Progress.{Progress}

-- what waited is written, or the run breaks
abbrev pub Drains : {S : Type 0} → Progress → Progress → Option (Ended S) → Type 0
Drains old new None = new ≡ record old { waiting = [] }
Drains old new (Some Broken) = ⊤
Drains old new (Some other) = ⊥

-- so many bytes were read behind those that are held, none at the end
pub record HasTakenIn (old : Progress) (got : List ℕ) (new : Progress) : Type 0 where
  pub counted : new.left + length got ≡ old.left
  pub same : new ≡ record old { held = old.held ++ got; left = new.left; ended = new.ended }
  pub at_end : new.ended ≡ true → got ≡ []
  pub goes_on : new.ended ≡ false → 0 < length got

abbrev pub TakesIn : {S : Type 0} → Progress → (got : List ℕ) → Progress → Option (Ended S) → Type 0
TakesIn old got new None = HasTakenIn old got new
TakesIn old got new (Some TooLong) = old.left < length got
TakesIn old got new (Some other) = ⊥

-- one read was made, but where memory ran out
abbrev pub Fills : {R S : Type 0} → (reads : R → Option (List ℕ) → R → Type 0) → R → Progress → R → Progress → Option (Ended S) → Type 0
Fills reads before old after new None = (got : List ℕ) × reads before (Some got) after × (length got ≤ most_at_once) × HasTakenIn old got new
Fills reads before old after new (Some TooLong) = (got : List ℕ) × reads before (Some got) after × (length got ≤ most_at_once) × (old.left < length got)
Fills reads before old after new (Some OutOfMemory) = after ≡ before
Fills reads before old after new (Some Broken) = reads before None after
Fills reads before old after new (Some other) = ⊥
