-- What is left where a result is a refusal.
use Rattle.std.specs.Prelude.{Result, Ok, Err, OnErr}

pub on_err : {A E P : Type 0} (result : Result A E) → P → OnErr result P
on_err (Ok value) fact = tt
on_err (Err refusal) fact = fact
