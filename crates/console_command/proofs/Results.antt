-- What a result that is an error leaves, and what one that is none.
use Rattle.std.proofs.Common.{◌≡◌, ℕ, ◌++◌, List, Result, Ok, Err}
use Rattle.std.specs.Result.{IsErr, OnErr, OnOk}
use Rattle.script_lines.specs.Spaced.{BeginsWith}
use Rattle.console_command.proofs.Lines.{begins_with_itself}

-- of an error nothing is asked that would hold of a value
pub not_ok : {A E : Type 0} (P : Type 0) (result : Result A E) → IsErr result → OnOk result P
not_ok P (Ok value) is = absurd (cc)
not_ok P (Err error) is = tt

pub on_err : {A E P : Type 0} (result : Result A E) → P → OnErr result P
on_err (Ok value) fact = tt
on_err (Err error) fact = fact

-- what stood there begins what a writer leaves that leaves it alone at an error
pub begins_at_error : {A E : Type 0} (result : Result A E) (start text : List ℕ) → OnErr result (text ≡ start)
    → OnErr result (BeginsWith start text)
begins_at_error (Ok value) start text same = tt
begins_at_error (Err error) start text same = begins_with_itself start text same

pub begins_anyhow : {A E : Type 0} (result : Result A E) (start more text : List ℕ) → OnOk result (text ≡ start ++ more)
    → OnErr result (text ≡ start) → BeginsWith start text
begins_anyhow (Ok value) start more text written same = record { more = more; joined = written }
begins_anyhow (Err error) start more text written same = begins_with_itself start text same
