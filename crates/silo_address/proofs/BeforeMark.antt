-- A number of at most 255 before a mark, digit by digit.
use Rattle.std.proofs.Common.{◌≡◌, inl, inr, ap, sym, ◌∙◌, ℕ, ◌<◌, ◌≤◌, ◌+◌, ◌-◌, ◌++◌, ◌∷◌, true, false, List, Option, Some, length, take, drop, get_or, refl, arith}
use Rattle.std.specs.Fmt.{decimal}
use Rattle.std.proofs.lemmas.Bool.{cases_lt}
use Rattle.std.proofs.lemmas.List.{get_or-take}
use Rattle.std.proofs.lemmas.List.Sums.{fails_before_first}
use Rattle.texts.specs.Numeral.{numeral_value}
use Rattle.texts.proofs.Cuts.{rest_from}
use Rattle.silo_address.specs.FrontNumber.{IsDigitAt, IsMarkAt, front_end, front_value, is_other}
use Rattle.silo_address.proofs.FrontLaws.{BeginsWith, digit_more, first_found, front_end_is, front_large, goes_on, length-front_digits, no_digits, number_and_rest, past_digits}

-- a text that begins with a number and this mark
abbrev pub IsWritten : List ℕ → ℕ → ℕ → List ℕ → Type 0
IsWritten bytes mark number rest = bytes ≡ decimal number ++ mark ∷ rest

no_digit : (bytes : List ℕ) (end mark : ℕ) → is_other mark ≡ true → IsMarkAt bytes end mark → ¬ (IsDigitAt bytes end)
no_digit bytes end mark other at = λ digit.
    let is : is_other (get_or bytes end 0) ≡ true = ap is_other at.1 ∙ other in
    let isnt : is_other (get_or bytes end 0) ≡ false = digit.1 in cc

-- Where a mark stands behind the digits, they are the number before it.
pub marked_found : (bytes : List ℕ) (end value mark : ℕ) → is_other mark ≡ true → BeginsWith bytes end value → value ≤ 255 → 0 < end
    → (get_or bytes 0 0 ≡ 48 → end ≤ 1) → IsMarkAt bytes end mark
    → (value ≤ 255) × IsWritten bytes mark value (take (length bytes - (end + 1)) (drop (end + 1) bytes))
marked_found bytes end value mark other begins at_most some shortest at =
    let found = first_found bytes end value 255 begins (no_digit bytes end mark other at) at_most some shortest in
    let same : value ≡ front_value bytes = ap (λ (p : ℕ × ℕ). p.0) found.1 in
    let ends : end ≡ front_end bytes = ap (λ (p : ℕ × ℕ). p.1) found.1 in
    let inside = at.0 in
    let here : get_or bytes (front_end bytes) 0 ≡ mark = ap (λ n. get_or bytes n 0) (sym ends) ∙ at.1 in
    let cut = number_and_rest bytes mark 255 (omega arith) found.0 (omega arith) here in
    let rest : drop (front_end bytes + 1) bytes ≡ take (length bytes - (end + 1)) (drop (end + 1) bytes) =
    ap (λ n. drop (n + 1) bytes) (sym ends) ∙ sym (rest_from bytes (end + 1)) in
    (at_most, cut ∙ (λ i. decimal (sym same i) ++ mark ∷ rest i))

pub marked_only : (bytes : List ℕ) (end value mark : ℕ) → is_other mark ≡ true → BeginsWith bytes end value → IsMarkAt bytes end mark
    → (number : ℕ) (rest : List ℕ) → number ≤ 255 → IsWritten bytes mark number rest
    → ◌≡◌ {A = Option (ℕ × List ℕ)} (Some (value, take (length bytes - (end + 1)) (drop (end + 1) bytes))) (Some (number, rest))
marked_only bytes end value mark other begins at number rest at_most is =
    let goes = goes_on 255 number mark bytes rest (omega arith) other at_most is in
    let ends = front_end_is bytes end value begins (no_digit bytes end mark other at) in
    let same : value ≡ number = begins.value ∙ ap (λ n. numeral_value (take n bytes)) (sym ends) ∙ goes.value in
    let after = rest_from bytes (end + 1) ∙ ap (λ n. drop (n + 1) bytes) (sym ends) ∙ goes.after in
    λ i. Some (same i, after i)

-- Where no number of at most 255 stands before the mark.
pub no_number : (bytes : List ℕ) (mark : ℕ) → is_other mark ≡ true → ¬ (IsDigitAt bytes 0)
    → (number : ℕ) (rest : List ℕ) → number ≤ 255 → ¬ (IsWritten bytes mark number rest)
no_number bytes mark other stops number rest at_most = λ is.
    let goes = goes_on 255 number mark bytes rest (omega arith) other at_most is in
    let ends = front_end_is bytes 0 0 (no_digits bytes) stops in
    let long = length-front_digits bytes in
    let some = goes.first.numeral.some in
    absurd (omega arith)

pub unmarked : (bytes : List ℕ) (end value mark : ℕ) → is_other mark ≡ true → BeginsWith bytes end value → ¬ (IsDigitAt bytes end)
    → ¬ (IsMarkAt bytes end mark)
    → (number : ℕ) (rest : List ℕ) → number ≤ 255 → ¬ (IsWritten bytes mark number rest)
unmarked bytes end value mark other begins stops none number rest at_most = λ is.
    let goes = goes_on 255 number mark bytes rest (omega arith) other at_most is in
    let ends = front_end_is bytes end value begins stops in
    let inside = goes.inside in
    none (omega arith, ap (λ n. get_or bytes n 0) (sym ends) ∙ goes.at)

pub zero_leads : (bytes : List ℕ) (value mark : ℕ) → is_other mark ≡ true → BeginsWith bytes 2 value → get_or bytes 0 0 ≡ 48
    → (number : ℕ) (rest : List ℕ) → number ≤ 255 → ¬ (IsWritten bytes mark number rest)
zero_leads bytes value mark other begins zero number rest at_most = λ is.
    let goes = goes_on 255 number mark bytes rest (omega arith) other at_most is in
    let past = past_digits bytes 2 begins.within begins.digits in
    let long = length-front_digits bytes in
    let few = goes.first.numeral.shortest (get_or-take (front_end bytes) bytes 0 0 (omega arith) ∙ zero) in
    absurd (omega arith)

pub too_large : (bytes : List ℕ) (end value mark : ℕ) → is_other mark ≡ true → BeginsWith bytes end value → 255 < value
    → (number : ℕ) (rest : List ℕ) → number ≤ 255 → ¬ (IsWritten bytes mark number rest)
too_large bytes end value mark other begins above number rest at_most = λ is.
    front_large bytes end value 255 begins above (goes_on 255 number mark bytes rest (omega arith) other at_most is).first.within

-- a fourth digit makes the number too large
pub three_digits : (bytes : List ℕ) (value mark : ℕ) → is_other mark ≡ true → BeginsWith bytes 3 value → 99 < value
    → ¬ (IsMarkAt bytes 3 mark)
    → (number : ℕ) (rest : List ℕ) → number ≤ 255 → ¬ (IsWritten bytes mark number rest)
three_digits bytes value mark other begins large none number rest at_most = λ is.
    let goes = goes_on 255 number mark bytes rest (omega arith) other at_most is in
    let past = past_digits bytes 3 begins.within begins.digits in
    let inside = goes.inside in
    elim (cases_lt 3 (front_end bytes)) [
      | inl more ↦
          let digit : IsDigitAt bytes 3 = (omega arith, fails_before_first is_other bytes 3 0 more) in
          let longer = digit_more bytes 3 value (get_or bytes 3 0 - 48) begins digit refl in
          front_large bytes 4 _ 255 longer (omega arith) goes.first.within
      | inr few ↦
          let ends : front_end bytes ≡ 3 = omega arith in
          none (omega arith, ap (λ n. get_or bytes n 0) (sym ends) ∙ goes.at)
    ]
