use Rattle.std.proofs.Common.{◌≡◌, ℕ, ◌<◌, ◌^◌, take, get_or}
use Rattle.texts.specs.Numeral.{IsDigit, numeral_value}
use Rattle.texts.proofs.number.value_of.Given as goal

abbrev pub invariant-loop-byte : goal.invariant-loop-byte
invariant-loop-byte l = record {
  value : l.value ≡ numeral_value (take l.byte-index l.word);
  fits : l.value < 2 ^ 64;
  digits : (k : ℕ) → k < l.byte-index → IsDigit (get_or l.word k 0);
}
