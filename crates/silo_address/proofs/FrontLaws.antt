-- The number that a text begins with: where its digits end, what they write, and when it is of at most `most`.
use Rattle.std.proofs.Common.{◌≡◌, inl, inr, ap, sym, ◌∙◌, subst, ℕ, ◌<◌, ◌≤◌, ◌+◌, ◌*◌, ◌-◌, ◌^◌, ◌++◌, ◌∷◌, true, false, List, length, take, drop, get_or, refl, below_more, Bool, arith}
use Rattle.std.specs.Prelude.{All}
use Rattle.std.specs.Char.{digit_value}
use Rattle.std.specs.Fmt.{decimal}
use Rattle.std.proofs.Math.Seq.{get_or-append_seam, take-length}
use Rattle.std.proofs.lemmas.Bool.{cases_lt}
use Rattle.std.proofs.lemmas.Bool.Decides.{nat_tests}
use Rattle.std.proofs.lemmas.Int.Digits.{digits_value_more}
use Rattle.std.proofs.lemmas.List.{length-append, length-take-le, take-take, get_or-take}
use Rattle.std.proofs.lemmas.List.Sums.{position_or_len_is, split_at_first, fails_before_first, passes_at_first, prefix_len-le-length}
use Rattle.std.proofs.lemmas.Str.Parse.{digits_value-take-le}
use Rattle.texts.specs.Numeral.{IsDigit, IsNumeral, numeral_value}
use Rattle.texts.proofs.Cuts.{IsCutAt, position-cut, before_first-cut, after_first-cut}
use Rattle.texts.proofs.NumeralLaws.{decimal-numeral_value, numeral_value-decimal, decimal_is_numeral}
use Rattle.silo_address.specs.FrontNumber.{IsDigitAt, IsNumberFirst, front_digits, front_end, front_value, is_other}

true_from_not : (b : Bool) → ¬ (b ≡ false) → b ≡ true
true_from_not true other = refl
true_from_not false other = absurd (other refl)

digit_from_test : (byte : ℕ) → is_other byte ≡ false → IsDigit byte
digit_from_test byte tested = grind (arith, nat_tests)

test_from_digit : (byte : ℕ) → IsDigit byte → is_other byte ≡ false
test_from_digit byte digit = grind (arith, nat_tests)

digit_value-digit : (byte : ℕ) → is_other byte ≡ false → digit_value byte ≡ byte - 48
digit_value-digit byte tested = let digit = digit_from_test byte tested in grind (arith, nat_tests)

-- where the first bytes are digits
abbrev AreDigits : List ℕ → ℕ → Type 0
AreDigits bytes end = (k : ℕ) → k < end → is_other (get_or bytes k 0) ≡ false

-- Digits that a text begins with, and what they write.
pub record BeginsWith (bytes : List ℕ) (end number : ℕ) : Type 0 where
  pub within : end ≤ length bytes
  pub digits : AreDigits bytes end
  pub value : number ≡ numeral_value (take end bytes)

pub no_digits : (bytes : List ℕ) → BeginsWith bytes 0 0
no_digits bytes = record { within = omega arith; digits = λ k below. absurd (omega arith); value = refl }

pub digit_more : (bytes : List ℕ) (end value digit : ℕ) → BeginsWith bytes end value → IsDigitAt bytes end → digit ≡ get_or bytes end 0 - 48
    → BeginsWith bytes (end + 1) (value * 10 + digit)
digit_more bytes end value digit begins at is =
    let inside = at.0 in
    let more = digits_value_more 10 bytes end inside in
    let last = is ∙ sym (digit_value-digit (get_or bytes end 0) at.1) in
    record {
      within = omega arith;
      digits = below_more (λ k. is_other (get_or bytes k 0) ≡ false) end begins.digits at.1;
      value = (λ i. begins.value i * 10 + last i) ∙ sym more;
    }

pub one_digit : (bytes : List ℕ) (digit : ℕ) → IsDigitAt bytes 0 → digit ≡ get_or bytes 0 0 - 48 → BeginsWith bytes 1 digit
one_digit bytes digit at is = subst (BeginsWith bytes 1) (omega arith) (digit_more bytes 0 0 digit (no_digits bytes) at is)

pub digit_above : (bytes : List ℕ) (position : ℕ) → IsDigitAt bytes position → 48 ≤ get_or bytes position 0
digit_above bytes position at = (digit_from_test _ at.1).0

pub digit_within : (bytes : List ℕ) (position : ℕ) → IsDigitAt bytes position → get_or bytes position 0 ≤ 57
digit_within bytes position at = (digit_from_test _ at.1).1

pub front_end_is : (bytes : List ℕ) (end value : ℕ) → BeginsWith bytes end value → ¬ (IsDigitAt bytes end) → front_end bytes ≡ end
front_end_is bytes end value begins stops =
    position_or_len_is is_other bytes end 0 begins.within begins.digits
    (λ inside. true_from_not (is_other (get_or bytes end 0)) (λ digit. stops (inside, digit)))

-- They are all the digits at the front where no other follows.
pub front_found : (bytes : List ℕ) (end value most : ℕ) → BeginsWith bytes end value → ¬ (IsDigitAt bytes end) → value ≤ most
    → (front_value bytes ≤ most) × (◌≡◌ {A = ℕ × ℕ} (value, end) (front_value bytes, front_end bytes))
front_found bytes end value most begins stops at_most =
    let at = front_end_is bytes end value begins stops in
    let same : value ≡ front_value bytes = begins.value ∙ ap (λ n. numeral_value (take n bytes)) (sym at) in
    (subst (λ v. v ≤ most) same at_most, λ i. (same i, sym at i))

stops_in_digits : (bytes : List ℕ) (end : ℕ) → end ≤ length bytes → AreDigits bytes end → ¬ (front_end bytes < end)
stops_in_digits bytes end within digits before =
    let other : is_other (get_or bytes (front_end bytes) 0) ≡ true = passes_at_first is_other bytes 0 (omega arith) in
    let digit : is_other (get_or bytes (front_end bytes) 0) ≡ false = digits (front_end bytes) before in
    cc

pub past_digits : (bytes : List ℕ) (end : ℕ) → end ≤ length bytes → AreDigits bytes end → end ≤ front_end bytes
past_digits bytes end within digits =
    elim (cases_lt (front_end bytes) end) [ inl before ↦ absurd (stops_in_digits bytes end within digits before) | inr behind ↦ behind ]

-- Where some of the digits write more than `most`, all of them do.
pub front_large : (bytes : List ℕ) (end value most : ℕ) → BeginsWith bytes end value → most < value → ¬ (front_value bytes ≤ most)
front_large bytes end value most begins above = λ at_most.
    let part : take end (front_digits bytes) ≡ take end bytes = take-take end (front_end bytes) bytes (past_digits bytes end begins.within begins.digits) in
    let more : numeral_value (take end (front_digits bytes)) ≤ front_value bytes = digits_value-take-le 10 (front_digits bytes) end (omega arith) in
    let is : value ≡ numeral_value (take end (front_digits bytes)) = begins.value ∙ ap numeral_value (sym part) in
    omega arith

pub front_within : (bytes : List ℕ) → front_end bytes ≤ length bytes
front_within bytes = prefix_len-le-length _ bytes

pub length-front_digits : (bytes : List ℕ) → length (front_digits bytes) ≡ front_end bytes
length-front_digits bytes = length-take-le (front_end bytes) bytes (front_within bytes)

-- The digits at the front are a numeral, if there are some, and no zero leads them.
pub front_is_numeral : (bytes : List ℕ) → 0 < front_end bytes → (get_or bytes 0 0 ≡ 48 → front_end bytes ≤ 1)
    → IsNumeral (front_digits bytes)
front_is_numeral bytes some shortest =
    let long = length-front_digits bytes in
    record {
      some = omega arith;
      digits =
          λ k d below. rw (get_or-take (front_end bytes) bytes k d (omega arith))
          (digit_from_test _ (fails_before_first is_other bytes k d (omega arith)));
      shortest = λ zero. let few = shortest (sym (get_or-take (front_end bytes) bytes 0 0 some) ∙ zero) in omega arith;
    }

pub first_found : (bytes : List ℕ) (end value most : ℕ) → BeginsWith bytes end value → ¬ (IsDigitAt bytes end) → value ≤ most → 0 < end
    → (get_or bytes 0 0 ≡ 48 → end ≤ 1)
    → IsNumberFirst most bytes × (◌≡◌ {A = ℕ × ℕ} (value, end) (front_value bytes, front_end bytes))
first_found bytes end value most begins stops at_most some shortest =
    let at = front_end_is bytes end value begins stops in
    let found = front_found bytes end value most begins stops at_most in
    (record { numeral = front_is_numeral bytes (omega arith) (λ zero. let few = shortest zero in omega arith); within = found.0 }, found.1)

-- A text that is cut behind its first number.
pub number_and_rest : (bytes : List ℕ) (mark most : ℕ) → most < 2 ^ 64 → IsNumberFirst most bytes → front_end bytes < length bytes
    → get_or bytes (front_end bytes) 0 ≡ mark
    → bytes ≡ decimal (front_value bytes) ++ mark ∷ drop (front_end bytes + 1) bytes
number_and_rest bytes mark most small first inside at =
    let within = first.within in
    let spelled = decimal-numeral_value (front_digits bytes) first.numeral (omega arith) in
    split_at_first is_other bytes 0 inside ∙ (λ i. sym spelled i ++ at i ∷ drop (front_end bytes + 1) bytes)

pub number_alone : (bytes : List ℕ) (most : ℕ) → most < 2 ^ 64 → IsNumberFirst most bytes → front_end bytes ≡ length bytes
    → bytes ≡ decimal (front_value bytes)
number_alone bytes most small first ends =
    let within = first.within in
    let spelled = decimal-numeral_value (front_digits bytes) first.numeral (omega arith) in
    sym (spelled ∙ ap (λ n. take n bytes) ends ∙ take-length bytes)

-- What a text is that begins with a number of at most `most`, and goes on with a byte that is no digit.
pub record GoesOn (most : ℕ) (bytes : List ℕ) (number mark : ℕ) (rest : List ℕ) : Type 0 where
  pub first : IsNumberFirst most bytes
  pub value : front_value bytes ≡ number
  pub inside : front_end bytes < length bytes
  pub at : get_or bytes (front_end bytes) 0 ≡ mark
  pub after : drop (front_end bytes + 1) bytes ≡ rest

written_digits : (number : ℕ) → number < 2 ^ 64 → All (λ byte. is_other byte ≡ false) (decimal number)
written_digits number small = λ k d below. test_from_digit _ ((decimal_is_numeral number small).digits k d below)

goes_on_at : (most number mark : ℕ) (rest : List ℕ) → most < 2 ^ 64 → is_other mark ≡ true → number ≤ most
    → GoesOn most (decimal number ++ mark ∷ rest) number mark rest
goes_on_at most number mark rest small other at_most =
    let below : number < 2 ^ 64 = omega arith in
    let cut : IsCutAt is_other (decimal number) mark = record { fails = written_digits number below; ends = other } in
    let end = position-cut is_other (decimal number) mark rest cut in
    let front = before_first-cut is_other (decimal number) mark rest cut in
    let long = length-append (decimal number) (mark ∷ rest) in
    let value = ap numeral_value front ∙ numeral_value-decimal number below in
    record {
      first = record { numeral = subst IsNumeral (sym front) (decimal_is_numeral number below); within = omega arith };
      value = value;
      inside = omega arith;
      at = ap (λ n. get_or (decimal number ++ mark ∷ rest) n 0) end ∙ get_or-append_seam (decimal number) mark rest 0;
      after = after_first-cut is_other (decimal number) mark rest cut;
    }

pub goes_on : (most number mark : ℕ) (bytes rest : List ℕ) → most < 2 ^ 64 → is_other mark ≡ true → number ≤ most
    → bytes ≡ decimal number ++ mark ∷ rest → GoesOn most bytes number mark rest
goes_on most number mark bytes rest small other at_most is =
    subst (λ text. GoesOn most text number mark rest) (sym is) (goes_on_at most number mark rest small other at_most)

-- What a text is that is a number of at most `most`.
pub record EndsThere (most : ℕ) (bytes : List ℕ) (number : ℕ) : Type 0 where
  pub first : IsNumberFirst most bytes
  pub value : front_value bytes ≡ number
  pub ends : front_end bytes ≡ length bytes

ends_there_at : (most number : ℕ) → most < 2 ^ 64 → number ≤ most → EndsThere most (decimal number) number
ends_there_at most number small at_most =
    let below : number < 2 ^ 64 = omega arith in
    let word = decimal number in
    let end : front_end word ≡ length word = position_or_len_is is_other word (length word) 0 (omega arith) (λ k before. written_digits number below k 0 before) (λ past. absurd (omega arith)) in
    let front : front_digits word ≡ word = ap (λ n. take n word) end ∙ take-length word in
    let value = ap numeral_value front ∙ numeral_value-decimal number below in
    record {
      first = record { numeral = subst IsNumeral (sym front) (decimal_is_numeral number below); within = omega arith };
      value = value;
      ends = end;
    }

pub ends_there : (most number : ℕ) (bytes : List ℕ) → most < 2 ^ 64 → number ≤ most → bytes ≡ decimal number → EndsThere most bytes number
ends_there most number bytes small at_most is =
    subst (λ text. EndsThere most text number) (sym is) (ends_there_at most number small at_most)
