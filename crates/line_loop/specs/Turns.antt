-- Turns: how far a run has come, and what a turn makes of it.
use Rattle.std.specs.Prelude.{ℕ, Bool, List, Option, Some, None}
use Rattle.line_loop.specs.declared.ended.Ended.{Ended}
use Rattle.line_loop.specs.declared.ended.Ended.TheVariants.{Broken}
use Rattle.line_loop.specs.Calls.{BreaksInTurn, InTurn}
use Rattle.line_loop.specs.Endings.{IsDue, MayWait}
use Rattle.line_loop.specs.Lines.{PlaysLines, PrintsLine}
use Rattle.line_loop.specs.Progress.{HasEnded, PlayedSoFar, Progress}

module _ {P S R W : Type 0} (plays : P → ℕ → List ℕ → Bool → List ℕ → Option S → P → Type 0) (most_kept most_read : ℕ) (reads : R → Option (List ℕ) → R → Type 0) (writes : W → List ℕ → Option ℕ → W → Type 0) where
  -- the calls of a run from the first player on, none of which failed, or the last did
  abbrev pub Calls : (first : P) → (start now : R × W) → (bytes text : List ℕ) → (at_end : Bool) → Type 0
  Calls first start now bytes text at_end = InTurn reads writes (IsDue most_kept most_read (PlaysLines plays first)) (MayWait (PrintsLine plays)) start now bytes text at_end

  abbrev pub CallsTo : (first : P) → (start now : R × W) → (bytes text : List ℕ) → (at_end : Bool) → Ended S → Type 0
  CallsTo first start now bytes text at_end Broken = BreaksInTurn reads writes (IsDue most_kept most_read (PlaysLines plays first)) (MayWait (PrintsLine plays)) start now bytes text at_end
  CallsTo first start now bytes text at_end other = Calls first start now bytes text at_end

  -- a run so far
  pub record SoFar (first : P) (start : R × W) (player : P) (at : Progress) (now : R × W) : Type 0 where
    pub bytes : List ℕ
    pub sent : List ℕ
    pub played : PlayedSoFar plays most_kept most_read first bytes sent player at
    pub calls : Calls first start now bytes sent at.ended

  -- a run to its end
  pub record HasRun (first : P) (start : R × W) (last : P) (now : R × W) (ended : Ended S) : Type 0 where
    pub bytes : List ℕ
    pub text : List ℕ
    pub at_end : Bool
    pub ends : HasEnded plays most_read first bytes text last at_end ended
    pub calls : CallsTo first start now bytes text at_end ended

  -- a turn: the run goes on, or ends
  abbrev pub Turns : P → Progress → (before : R × W) → P → Progress → (after : R × W) → Option (Ended S) → Type 0
  Turns player old before next new after None = (first : P) (start : R × W) → SoFar first start player old before → SoFar first start next new after
  Turns player old before next new after (Some ended) = (first : P) (start : R × W) → SoFar first start player old before → HasRun first start next after ended
