-- The ranges of a letter that has any number of them, read a word at a time.
use Rattle.std.proofs.Common.{◌≡◌, subst, ap, ◌∙◌, sym, ℕ, Result, Ok, Err, List, [], ◌∷◌, ◌++◌}
use Rattle.std.proofs.lemmas.List.{append-nil}
use Rattle.ring_range.specs.Range.{Range}
use Rattle.script_rules.specs.Script.{◌>>=◌}
use Rattle.process_rules.specs.ReadLetter.{Head, letter_of, range_word, ranges_in, some_ranges}
use Rattle.process_lines.specs.declared.fault.LineError.{LineError}
use Rattle.process_lines.specs.Made.{OfRanges}
use Rattle.process_lines.specs.ReadAs.{Fails}
use Rattle.process_lines.specs.Short.{AreSome, LetterTellsList, TellsThem}
use Rattle.process_lines.proofs.Onto.{onto, onto_nil, onto_more, fails_behind, fails_then, brings_then}

-- ---- word by word
pub ranges_first : (words : List (List ℕ)) → ranges_in words ≡ onto [] (ranges_in words)
ranges_first words = sym (onto_nil (ranges_in words))

module _ (before : List Range) (words behind : List (List ℕ)) (word : List ℕ) (split : words ≡ word ∷ behind) where
  pub ranges_more : (range : Range) → Ok range ≡ range_word word
      → onto before (ranges_in words) ≡ onto (before ++ range ∷ []) (ranges_in behind)
  ranges_more range reads =
      ap (λ (ws : List (List ℕ)). onto before (ranges_in ws)) split
      ∙ ap (λ (read : Result Range ℕ). onto before (read >>= λ r. ranges_in behind >>= λ ranges. Ok (r ∷ ranges))) (sym reads)
      ∙ onto_more before range (ranges_in behind)

  pub ranges_fault : (fault : ℕ) → Err fault ≡ range_word word → onto before (ranges_in words) ≡ Err fault
  ranges_fault fault reads =
      ap (λ (ws : List (List ℕ)). onto before (ranges_in ws)) split
      ∙ ap (λ (read : Result Range ℕ). onto before (read >>= λ r. ranges_in behind >>= λ ranges. Ok (r ∷ ranges))) (sym reads)

pub ranges_end : (before : List Range) (words : List (List ℕ)) → words ≡ [] → onto before (ranges_in words) ≡ Ok before
ranges_end before words none = ap (λ (ws : List (List ℕ)). onto before (ranges_in ws)) none ∙ ap Ok (append-nil before)

pub ruleset range_by_range = (ranges_first, ranges_more, ranges_fault, ranges_end, fails_behind)

-- ---- the letter, where there is a word
module _ (of : OfRanges) (words behind : List (List ℕ)) (word : List ℕ) (split : words ≡ word ∷ behind) (read : Result Head ℕ) where
  -- what stands in front of its kind has a fault
  pub front_fault : (fault : ℕ) → read ≡ Err fault → some_ranges of read words ≡ Err fault
  front_fault fault is = ap (some_ranges of read) split ∙ ap (λ (r : Result Head ℕ). some_ranges of r (word ∷ behind)) is

  -- it has none
  module _ (head : Head) (is : read ≡ Ok head) where
    letter_is : some_ranges of read words ≡ (ranges_in words >>= λ ranges. Ok (letter_of head (of ranges)))
    letter_is =
        ap (some_ranges of read) split ∙ ap (λ (r : Result Head ℕ). some_ranges of r (word ∷ behind)) is
        ∙ ap (λ (ws : List (List ℕ)). ranges_in ws >>= λ ranges. Ok (letter_of head (of ranges))) (sym split)

    pub letter_reads : (ranges : List Range) → ranges_in words ≡ Ok ranges → some_ranges of read words ≡ Ok (letter_of head (of ranges))
    letter_reads ranges reads =
        letter_is ∙ ap (λ (r : Result (List Range) ℕ). r >>= λ ranges. Ok (letter_of head (of ranges))) reads

    pub letter_fails : (error : LineError) → Fails error (ranges_in words) → Fails error (some_ranges of read words)
    letter_fails error fails =
        subst (Fails error) (sym letter_is) (fails_then error (ranges_in words) (λ ranges. letter_of head (of ranges)) fails)

    pub letter_brings : TellsThem of → AreSome (ranges_in words) → LetterTellsList (some_ranges of read words)
    letter_brings tells some =
        subst LetterTellsList (sym letter_is) (brings_then (ranges_in words) (λ ranges. letter_of head (of ranges)) tells some)

pub ruleset range_letters = (front_fault)
