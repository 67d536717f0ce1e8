-- Numerals and the numbers that they write.
use Rattle.std.proofs.Common.{ap, ◌≡◌, refl, zero, suc, ℕ, ◌<◌, ◌≤◌, ◌^◌, ◌==◌, ◌&&◌, not, Bool, true, false, nat_le, nat_lt, List, length, get_or, arith, ◌∙◌, sym, Ok, Err, subst}
use Rattle.std.specs.Prelude.{slice_index}
use Rattle.std.specs.Bool.{Decides}
use Rattle.std.specs.List.{list_all}
use Rattle.std.specs.Fmt.{decimal}
use Rattle.std.specs.Str.Parse.{digits_value}
use Rattle.std.proofs.lemmas.Bool.Decides.{Decides-like, Decides-and, Decides-ltb, Decides-by_and, nat_tests, not_from_Decides}
use Rattle.std.proofs.lemmas.Fmt.{digits_decimal, digits_value-decimal, decimal-digits_value, decimal_nonempty, first_decimal, decimal_digit}
use Rattle.std.proofs.lemmas.List.{get_or_default}
use Rattle.std.proofs.lemmas.Str.Parse.{IsNumeralModel, numerals_by_value, tells_by_index}
use Rattle.std.proofs.lemmas.Bool.{le-leb, lt-leb, leb-true, leb-false}
use Rattle.texts.proofs.Decided.{false_from_not}
use Rattle.texts.specs.Numeral.{IsDigit, IsNumeral, is_digit, is_numeral, numeral_value, read_number}
use Rattle.texts.specs.declared.number.NumberError.TheVariants.{NotANumber, OutOfRange}

-- std's words for digits and their value
by_index : IsNumeralModel (λ word. (k : ℕ) → k < length word → IsDigit (get_or word k 0)) (digits_value 10)
by_index = numerals_by_value _ tells_by_index

-- a numeral below 2^64 is what its number is written as
pub decimal-numeral_value : (word : List ℕ) → IsNumeral word → numeral_value word < 2 ^ 64 → decimal (numeral_value word) ≡ word
decimal-numeral_value word numeral small =
    decimal-digits_value by_index word (λ k below. numeral.digits k 0 below) numeral.some numeral.shortest small

pub numeral_value-decimal : (n : ℕ) → n < 2 ^ 64 → numeral_value (decimal n) ≡ n
numeral_value-decimal n small = digits_value-decimal by_index n small

-- no number but 0 begins with a zero
one_zero : (n : ℕ) → n < 2 ^ 64 → get_or (decimal n) 0 0 ≡ 48 → (n ≡ 0)
one_zero zero small starts = refl
one_zero (suc n) small starts =
    absurd (let above : 48 < get_or (decimal (suc n)) 0 0 = first_decimal (suc n) (omega arith) small in omega arith)

pub decimal_is_numeral : (n : ℕ) → n < 2 ^ 64 → IsNumeral (decimal n)
decimal_is_numeral n small = record {
  some = decimal_nonempty n small;
  digits = λ k d below. rw (get_or_default (decimal n) k d 0 below) (digits_decimal by_index n small k below);
  shortest = λ starts. ap (λ m. length (decimal m)) (one_zero n small starts) ∙ ap length (decimal_digit 0 (omega arith));
}

Decides-is_digit : (byte : ℕ) → Decides (is_digit byte) (IsDigit byte)
Decides-is_digit byte = grind (arith, nat_tests)

Decides-shortest : (first count : ℕ) → Decides (not (first == 48 && nat_lt 1 count)) (0 < count → first ≡ 48 → count ≡ 1)
Decides-shortest first count = grind (arith, nat_tests)

pub Decides-is_numeral : (word : List ℕ) → Decides (is_numeral word) (IsNumeral word)
Decides-is_numeral word =
    Decides-like _ (λ p. record { some = p.0.0; digits = p.0.1; shortest = p.1 p.0.0 }) (λ n. ((n.some, n.digits), λ _. n.shortest))
    (Decides-and _ _ (Decides-and _ _ (Decides-ltb 0 (length word))
    (Decides-by_and is_digit IsDigit (list_all is_digit) Decides-is_digit refl (λ _ _. refl) word))
    (Decides-shortest (slice_index word 0) (length word)))

-- What `read_number` answers, by the three cases.
pub read_number_numeral : (most : ℕ) (word : List ℕ) → IsNumeral word → numeral_value word ≤ most
    → read_number most word ≡ Ok (numeral_value word)
read_number_numeral most word numeral at_most =
    let is : is_numeral word ≡ true = (Decides-is_numeral word).1 numeral in
    let below = le-leb _ _ at_most in
    rw (is, below) refl

pub read_number_large : (most : ℕ) (word : List ℕ) → IsNumeral word → most < numeral_value word → read_number most word ≡ Err OutOfRange
read_number_large most word numeral above =
    let is : is_numeral word ≡ true = (Decides-is_numeral word).1 numeral in
    let above = lt-leb _ _ above in
    rw (is, above) refl

pub read_number_other : (most : ℕ) (word : List ℕ) → ¬ (IsNumeral word) → read_number most word ≡ Err NotANumber
read_number_other most word other = rw (false_from_not _ (Decides-is_numeral word) other) refl

-- So a word is read as the number that it spells, if that is at most `most`.
pub read_number-decimal : (most : ℕ) (word : List ℕ) (number : ℕ) → most < 2 ^ 64 → number ≤ most → word ≡ decimal number
    → read_number most word ≡ Ok number
read_number-decimal most word number small at_most spelled =
    let below : number < 2 ^ 64 = omega arith in
    let value : numeral_value word ≡ number = ap numeral_value spelled ∙ numeral_value-decimal number below in
    let numeral : IsNumeral word = subst IsNumeral (sym spelled) (decimal_is_numeral number below) in
    read_number_numeral most word numeral (omega arith) ∙ ap Ok value

pub ruleset reading = (read_number_numeral, read_number_large, read_number_other, read_number-decimal)

pub decimal_is_numeral_as : (word : List ℕ) (n : ℕ) → word ≡ decimal n → n < 2 ^ 64 → IsNumeral word
decimal_is_numeral_as word n spelled small = subst IsNumeral (sym spelled) (decimal_is_numeral n small)

pub numeral_value-decimal_as : (word : List ℕ) (n : ℕ) → word ≡ decimal n → n < 2 ^ 64 → numeral_value word ≡ n
numeral_value-decimal_as word n spelled small = ap numeral_value spelled ∙ numeral_value-decimal n small

by_number : (most : ℕ) (word : List ℕ) (number : ℕ) → most < 2 ^ 64 → read_number most word ≡ Ok number → (numeral at_most : Bool)
    → is_numeral word ≡ numeral → nat_le (numeral_value word) most ≡ at_most → word ≡ decimal number
by_number most word number small reads true true numeral at_most =
    let is : IsNumeral word = (Decides-is_numeral word).0 numeral in
    let below = leb-true _ _ at_most in
    let value : Ok (numeral_value word) ≡ Ok number = sym (read_number_numeral most word is below) ∙ reads in
    let same : numeral_value word ≡ number = cc in
    sym (decimal-numeral_value word is (omega arith)) ∙ ap decimal same
by_number most word number small reads true false numeral at_most =
    let is : IsNumeral word = (Decides-is_numeral word).0 numeral in
    let above = leb-false _ _ at_most in
    let fault : Err OutOfRange ≡ Ok number = sym (read_number_large most word is above) ∙ reads in cc
by_number most word number small reads false at_most numeral other =
    let fault : Err NotANumber ≡ Ok number = sym (read_number_other most word (not_from_Decides _ (Decides-is_numeral word) numeral)) ∙ reads in cc

pub read_number_found : (most : ℕ) (word : List ℕ) (number : ℕ) → most < 2 ^ 64 → read_number most word ≡ Ok number → word ≡ decimal number
read_number_found most word number small reads =
    by_number most word number small reads (is_numeral word) (nat_le (numeral_value word) most) refl refl
