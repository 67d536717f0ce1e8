-- What the code tells of an event of a run, as the rule has it.
use Rattle.std.specs.Prelude.{ℕ, Result, Ok, Err}
use Rattle.std.specs.Option.{unwrap_or}
use Rattle.directory_rules.specs.declared.Outcome.{Outcome}
use Rattle.directory_core.specs.declared.refusal.EventRefusal.{EventRefusal}
use Rattle.directory_core.specs.Numbers.{event_refusal_number}

-- the rule's outcome, or the number; out of memory is not told but ends the run
abbrev pub told_as : Result Outcome EventRefusal → Result Outcome ℕ
told_as (Ok outcome) = Ok outcome
told_as (Err refusal) = Err (unwrap_or (event_refusal_number refusal) 0)
