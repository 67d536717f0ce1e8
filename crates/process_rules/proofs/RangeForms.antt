-- Ranges, one behind the other, are read again, and what is read of them is what was written.
use Rattle.std.proofs.Common.{◌≡◌, ℕ, List, [], ◌∷◌, Result, Ok, refl, ap, ◌∙◌, subst}
use Rattle.std.specs.Prelude.{◌≢◌, All}
use Rattle.std.proofs.lemmas.List.Elements.{All-nil, All-cons, All-head, All-tail}
use Rattle.ring_range.specs.Range.{Range, IsRange}
use Rattle.ring_range.specs.Text.{range_text}
use Rattle.hash_ring.specs.declared.hashing.Hashing.{Hashing}
use Rattle.directory_rules.specs.declared.letter_kind.LetterKind.{LetterKind}
use Rattle.directory_rules.specs.State.{Letter, Body}
use Rattle.process_rules.specs.LetterText.{ranges_words}
use Rattle.process_rules.specs.ReadLetter.{range_word, ranges_in, Head, letter_of, some_ranges}
use Rattle.process_rules.specs.Told.{AreSomeRanges}
use Rattle.process_rules.proofs.Chains.{ok_is, IsSaid, two_again, two_said, two_gave}
use Rattle.process_rules.proofs.Given.{Gave, moved}
use Rattle.process_rules.proofs.WordsAgain.{range_again, range_gave}
use Rattle.process_rules.proofs.WordsSaid.{range_said}
use Rattle.process_rules.proofs.WordsTold.{range_told}

-- ---- the words
abbrev more : Range → List Range → List Range
more range ranges = range ∷ ranges

ranges_again : (ranges : List Range) → All IsRange ranges → ranges_in (ranges_words ranges) ≡ Ok ranges
ranges_again [] all = refl
ranges_again (range ∷ ranges) all =
    two_again more (range_word (range_text range)) (ranges_in (ranges_words ranges)) range ranges
    (range_again range (All-head IsRange range ranges all)) (ranges_again ranges (All-tail IsRange range ranges all))

-- or not at all
ranges_said : (ranges : List Range) → IsSaid (ranges_in (ranges_words ranges)) ranges
ranges_said [] = refl
ranges_said (range ∷ ranges) =
    two_said more (range_word (range_text range)) (ranges_in (ranges_words ranges)) range ranges (range_said range) (ranges_said ranges)

ranges_gave : (words : List (List ℕ)) (ranges : List Range) → ranges_in words ≡ Ok ranges → words ≡ ranges_words ranges
ranges_gave [] ranges given = ap ranges_words (ok_is given)
ranges_gave (word ∷ words) ranges given =
    let parts = two_gave more (range_word word) (ranges_in words) ranges given in
    let rest = ranges_gave words parts.1 parts.3 in
    (λ i. range_gave word parts.0 parts.2 i ∷ rest i) ∙ ap ranges_words parts.4

ranges_told : (words : List (List ℕ)) (ranges : List Range) → ranges_in words ≡ Ok ranges → All IsRange ranges
ranges_told [] ranges given = subst (All IsRange) (ok_is given) (All-nil IsRange)
ranges_told (word ∷ words) ranges given =
    let parts = two_gave more (range_word word) (ranges_in words) ranges given in
    subst (All IsRange) parts.4
    (All-cons IsRange parts.0 parts.1 (range_told word parts.0 parts.2) (ranges_told words parts.1 parts.3))

-- a word is a range
some_gave : (word : List ℕ) (words : List (List ℕ)) (ranges : List Range) → ranges_in (word ∷ words) ≡ Ok ranges → ranges ≢ []
some_gave word words [] given =
    let parts = two_gave more (range_word word) (ranges_in words) [] given in λ none. let same = parts.4 in cc same
some_gave word words (range ∷ ranges) given = λ none. cc none

-- ---- the letters
abbrev pub ranges_made : (List Range → Body) → Head → List Range → Letter
ranges_made of head ranges = letter_of head (of ranges)

pub ranges_form_again : (head : Head) (read : Result Head ℕ) → read ≡ Ok head → (of : List Range → Body) (ranges : List Range)
    → AreSomeRanges IsRange ranges → some_ranges of read (ranges_words ranges) ≡ Ok (letter_of head (of ranges))
ranges_form_again head read reads of [] is = absurd (is.some refl)
ranges_form_again head read reads of (range ∷ ranges) is =
    two_again (ranges_made of) read (ranges_in (ranges_words (range ∷ ranges))) head (range ∷ ranges) reads
    (ranges_again (range ∷ ranges) is.lie)

pub ranges_form_said : (head : Head) (read : Result Head ℕ) → IsSaid read head → (Lies : Range → Type 0) (of : List Range → Body)
    (ranges : List Range) → AreSomeRanges Lies ranges → IsSaid (some_ranges of read (ranges_words ranges)) (letter_of head (of ranges))
ranges_form_said head read reads Lies of [] is = absurd (is.some refl)
ranges_form_said head read reads Lies of (range ∷ ranges) is =
    two_said (ranges_made of) read (ranges_in (ranges_words (range ∷ ranges))) head (range ∷ ranges) reads (ranges_said (range ∷ ranges))

pub ranges_form_gave : (hashing : Hashing) (read : Result Head ℕ) (letter : Letter) (of : List Range → Body) (named : LetterKind)
    → ((head : Head) (ranges : List Range) → AreSomeRanges IsRange ranges
    → Gave hashing (Ok head) named (ranges_words ranges) (ranges_made of head ranges))
    → (words : List (List ℕ)) → some_ranges of read words ≡ Ok letter → Gave hashing read named words letter
ranges_form_gave hashing read letter of named gives [] given = cc given
ranges_form_gave hashing read letter of named gives (word ∷ words) given =
    let p = two_gave (ranges_made of) read (ranges_in (word ∷ words)) letter given in
    moved hashing read p.0 named (word ∷ words) (ranges_words p.1) (ranges_made of p.0 p.1) letter p.2
    (ranges_gave (word ∷ words) p.1 p.3) p.4
    (gives p.0 p.1 (record { some = some_gave word words p.1 p.3; lie = ranges_told (word ∷ words) p.1 p.3 }))
