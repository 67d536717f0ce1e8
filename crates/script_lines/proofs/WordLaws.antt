-- The first word of a line.
use Rattle.std.proofs.Common.{◌≡◌, ◌≢◌, ap, ◌∙◌, sym, refl, ℕ, ◌<◌, ◌≤◌, zero, suc, ◌==◌, List, [], ◌∷◌, length, get_or, take, drop, arith, inl, inr, add-zero, ◌⊎◌, ◌-◌, not}
use Rattle.std.specs.Prelude.{filter}
use Rattle.std.proofs.Math.ListN.{drop_of_length-le}
use Rattle.std.proofs.Math.Seq.{drop-cons}
use Rattle.std.proofs.lemmas.Bool.{lt-ltb, eqb-true, eqb-false}
use Rattle.std.proofs.lemmas.List.{append-nil, length-drop, length-take-le, take_all, get_or-drop, take_rest}
use Rattle.std.proofs.lemmas.List.Sums.{fails_before_first, passes_at_first, prefix_len-le-length}
use Rattle.std.proofs.Math.Nat.{eq-or-lt_of_le}
use Rattle.std.specs.List.{position_or_len}
use Rattle.texts.specs.Words.{space, is_some_bytes, pieces_at, words_in}
use Rattle.script_lines.proofs.Pieces.{pieces_at-mark, pieces_at-whole, pieces_at-cut}

-- a piece with a byte is a word
kept_first : (word : List ℕ) (pieces : List (List ℕ)) → 0 < length word
    → filter is_some_bytes (word ∷ pieces) ≡ word ∷ filter is_some_bytes pieces
kept_first word pieces some = rw (lt-ltb 0 (length word) some) refl

-- a space in front adds no word
words_in-space : (byte : ℕ) (line : List ℕ) → byte ≡ space → words_in (byte ∷ line) ≡ words_in line
words_in-space byte line is = ap (filter is_some_bytes) (pieces_at-mark space byte line is)

-- nor do several
words_in-spaces : (n : ℕ) (line : List ℕ) → n ≤ length line → ((k : ℕ) → k < n → get_or line k 0 ≡ space)
    → words_in line ≡ words_in (drop n line)
words_in-spaces zero line within spaces = refl
words_in-spaces (suc n) [] within spaces = refl
words_in-spaces (suc n) (byte ∷ line) within spaces =
    words_in-space byte line (spaces 0 (omega arith)) ∙ words_in-spaces n line (omega arith) (λ k below. spaces (suc k) (omega arith))

-- bytes without a space are one word
words_in-word : (word : List ℕ) → 0 < length word → ((k : ℕ) → k < length word → get_or word k 0 ≢ space) → words_in word ≡ word ∷ []
words_in-word word some others = ap (filter is_some_bytes) (pieces_at-whole space word others) ∙ kept_first word [] some

-- up to the first space stands a word
words_in-front : (n : ℕ) (line : List ℕ) → 0 < n → n < length line → ((k : ℕ) → k < n → get_or line k 0 ≢ space) → get_or line n 0 ≡ space
    → words_in line ≡ take n line ∷ words_in (drop n line)
words_in-front n line some within others is =
    let cut : pieces_at space line ≡ take n line ∷ pieces_at space (drop (suc n) line) =
    ap (pieces_at space) (sym (append-nil line)) ∙ pieces_at-cut space n line [] within others is
    ∙ ap (λ (rest : List ℕ). take n line ∷ pieces_at space rest) (append-nil (drop (suc n) line)) in
    let long : length (take n line) ≡ n = length-take-le n line (omega arith) in
    let behind : words_in (drop n line) ≡ words_in (drop (suc n) line) = ap words_in (drop-cons line n 0 within) ∙ words_in-space (get_or line n 0) (drop (suc n) line) is in
    ap (filter is_some_bytes) cut ∙ kept_first (take n line) (pieces_at space (drop (suc n) line)) (omega arith)
    ∙ ap (λ (words : List (List ℕ)). take n line ∷ words) (sym behind)

-- a first byte that isn't a space stands before the first space
above_zero : (line : List ℕ) (end : ℕ) → get_or line 0 0 ≢ space → get_or line end 0 ≡ space → 0 < end
above_zero line zero first is = absurd (first is)
above_zero line (suc end) first is = omega arith

-- a line that is one word
words_in-alone : (line : List ℕ) (end : ℕ) → 0 < length line → end ≡ length line → ((k : ℕ) → k < end → get_or line k 0 ≢ space)
    → words_in line ≡ take end line ∷ words_in (drop end line)
words_in-alone line end some whole others =
    words_in-word line some (λ k below. others k (omega arith))
    ∙ ap (λ (word : List ℕ). word ∷ []) (sym (take_all end line (omega arith)))
    ∙ ap (λ (rest : List ℕ). take end line ∷ words_in rest) (sym (drop_of_length-le line (omega arith)))

-- a line from its first word on: the word ends at the first space
words_in-first : (line : List ℕ) (end : ℕ) → 0 < length line → get_or line 0 0 ≢ space → end ≡ position_or_len (λ byte. byte == space) line
    → words_in line ≡ take end line ∷ words_in (take (length line - end) (drop end line))
words_in-first line end some first is =
    let within : position_or_len (λ byte. byte == space) line ≤ length line = prefix_len-le-length (λ byte. not (byte == space)) line in
    let others : (k : ℕ) → k < end → get_or line k 0 ≢ space = λ k below. eqb-false _ _ (fails_before_first (λ byte. byte == space) line k 0 (omega arith)) in
    let cases : (end ≡ length line) ⊎ (end < length line) = eq-or-lt_of_le (omega arith) in
    rw (take_rest line end) (elim cases [
      | inl whole ↦ words_in-alone line end some whole others
      | inr inside ↦
          let ends : get_or line end 0 ≡ space = rw is (eqb-true _ _ (passes_at_first (λ byte. byte == space) line 0 (omega arith))) in
          words_in-front end line (above_zero line end first ends) inside others ends
    ])

-- a line of spaces has no word
pub words_in-none : (line : List ℕ) (n : ℕ) → n ≤ length line → ((k : ℕ) → k < n → get_or line k 0 ≡ space) → length line ≤ n
    → words_in line ≡ []
words_in-none line n within spaces past = words_in-spaces n line within spaces ∙ ap words_in (drop_of_length-le line past)

-- behind n spaces stands the first word
pub words_in-from : (line : List ℕ) (n end : ℕ) → n < length line → ((k : ℕ) → k < n → get_or line k 0 ≡ space) → get_or line n 0 ≢ space
    → let from = take (length line - n) (drop n line) in
    end ≡ position_or_len (λ byte. byte == space) from
    → words_in line ≡ take end from ∷ words_in (take (length from - end) (drop end from))
words_in-from line n end within spaces first is =
    let from = take (length line - n) (drop n line) in
    let behind : from ≡ drop n line = take_rest line n in
    let long : length from ≡ length line - n = ap length behind ∙ length-drop n line in
    let begins : get_or from 0 0 ≡ get_or line n 0 = ap (λ (bytes : List ℕ). get_or bytes 0 0) behind ∙ get_or-drop n line 0 0 ∙ ap (λ k. get_or line k 0) (add-zero n) in
    words_in-spaces n line (omega arith) spaces ∙ ap words_in (sym behind)
    ∙ words_in-first from end (omega arith) (λ space_first. first (sym begins ∙ space_first)) is
