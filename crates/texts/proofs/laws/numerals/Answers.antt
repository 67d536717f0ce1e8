use Rattle.std.proofs.Common.{refl}
use Rattle.texts.proofs.NumeralLaws.{Decides-is_numeral, decimal-numeral_value, read_number-decimal}
use Rattle.texts.proofs.laws.numerals.Goals as goal

pub returns : goal.returns
returns c = record {
  round_trip = λ most number small at_most. read_number-decimal most _ number small at_most refl;
  test = Decides-is_numeral;
  spelling = decimal-numeral_value;
}
