-- Which pieces begin to gather.
use Rattle.std.specs.Prelude.{Bool, true, false}
use Rattle.directory_rules.specs.declared.PieceState.{PieceState}
use Rattle.directory_rules.specs.declared.PieceState.TheVariants.{Settled, Awaiting, Recovering}

-- whether the state awaits a snapshot, from whomever
abbrev pub is_awaiting : PieceState → Bool
is_awaiting Settled = false
is_awaiting (Awaiting from) = true
is_awaiting Recovering = false
