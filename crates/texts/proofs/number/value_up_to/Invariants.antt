use Rattle.std.proofs.Common.{◌≡◌, take}
use Rattle.texts.specs.Numeral.{numeral_value}
use Rattle.texts.proofs.number.value_up_to.Given as goal

abbrev pub invariant-loop-digit : goal.invariant-loop-digit
invariant-loop-digit l = l.value ≡ numeral_value (take l.digit-index l.numeral)
