-- The bytes that stand between the parts of a text.
use Rattle.std.specs.Prelude.{ℕ}

abbrev pub exclamation_mark : ℕ
exclamation_mark = 33

abbrev pub number_sign : ℕ
number_sign = 35

abbrev pub dot : ℕ
dot = 46

abbrev pub slash : ℕ
slash = 47

abbrev pub digit_zero : ℕ
digit_zero = 48

abbrev pub digit_nine : ℕ
digit_nine = 57

abbrev pub colon : ℕ
colon = 58

abbrev pub at_sign : ℕ
at_sign = 64
