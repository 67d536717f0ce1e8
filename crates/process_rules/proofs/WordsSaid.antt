-- Words that are written are read again, or not at all: a number in them may be too large.
use Rattle.std.proofs.Common.{arith, ◌≡◌, ℕ, ◌<◌, List, [], ◌∷◌, ◌++◌, Result, Ok, Err, refl, ap, sym, ◌∙◌, subst, length, decimal}
use Rattle.std.specs.Prelude.{All, false}
use Rattle.std.specs.List.{position_or_len, before_first, after_first}
use Rattle.std.proofs.lemmas.Bool.{ne_eqb}
use Rattle.std.proofs.lemmas.List.{length-append}
use Rattle.std.proofs.lemmas.List.Elements.{All-cons, All-head, All-tail, All-append}
use Rattle.texts.specs.declared.NumberError.{NumberError}
use Rattle.texts.specs.Numeral.{IsNumeral, read_number}
use Rattle.texts.proofs.Cuts.{IsCutAt, position-cut, before_first-cut, after_first-cut}
use Rattle.silo_address.specs.Marks.{dot, colon, at_sign, exclamation_mark}
use Rattle.silo_address.specs.Silo.{Silo, IsSilo}
use Rattle.silo_address.specs.SiloText.{Words, AreNumerals, words_text, words_of, silo_text}
use Rattle.silo_address.specs.Grain.{Grain, grain_text}
use Rattle.silo_address.specs.declared.ActivationId.{ActivationId}
use Rattle.silo_address.specs.declared.Entry.{Entry}
use Rattle.silo_address.specs.ActivationText.{activation_text, is_exclamation_mark, activation_of, read_activation}
use Rattle.silo_address.proofs.SiloCases.{silo_only}
use Rattle.silo_address.proofs.SiloLaws.{words_are_numerals}
use Rattle.silo_address.proofs.ActivationLaws.{read_activation-cut}
use Rattle.ring_range.specs.Range.{Range}
use Rattle.ring_range.specs.Text.{range_text, start_word, size_word, HasWords}
use Rattle.ring_range.proofs.ReadAgain.{start_word_is, size_word_is}
use Rattle.script_rules.specs.Script.{grain_word, number_or_fault}
use Rattle.process_rules.specs.LetterText.{entries_words}
use Rattle.process_rules.specs.ReadLetter.{activation_word, activation_or_fault, range_word, entry_of_words, entries_in}
use Rattle.process_rules.specs.Told.{IsEntry}
use Rattle.process_rules.proofs.Chains.{IsSaid, is_said, two_said}
use Rattle.process_rules.proofs.WordsAgain.{grain_again, range_gave}
use Rattle.process_rules.proofs.WordsTold.{range_told}
use Rattle.process_rules.proofs.Numbers.{decimal_glyphs, decimal_some, same_number, number_said}

-- ---- no silo's text has an exclamation mark in it
abbrev IsFree : List ℕ → Type 0
IsFree = All (λ byte. is_exclamation_mark byte ≡ false)

free_numeral : (word : List ℕ) → IsNumeral word → IsFree word
free_numeral word numeral = λ k d below. ne_eqb _ _ (λ same. let digit = numeral.digits k d below in absurd (omega arith))

free_mark : (word : List ℕ) (mark : ℕ) (rest : List ℕ) → IsNumeral word → is_exclamation_mark mark ≡ false → IsFree rest
    → IsFree (word ++ mark ∷ rest)
free_mark word mark rest numeral other free =
    All-append (λ byte. is_exclamation_mark byte ≡ false) word (mark ∷ rest) (free_numeral word numeral)
    (All-cons (λ byte. is_exclamation_mark byte ≡ false) mark rest other free)

free_words : (words : Words) → AreNumerals words → IsFree (words_text words)
free_words words n =
    free_mark words.first dot _ n.first refl (free_mark words.second dot _ n.second refl (free_mark words.third dot _ n.third refl
    (free_mark words.fourth colon _ n.fourth refl (free_mark words.port at_sign _ n.port refl
    (free_numeral words.generation n.generation)))))

-- ---- activations
activation_reads : (activation : ActivationId) → IsSilo activation.silo
    → read_activation (activation_text activation) ≡ activation_of (Ok activation.silo)
    (read_number 18446744073709551615 (decimal activation.count))
activation_reads activation is =
    let text = activation_text activation in
    let front = silo_text activation.silo in
    let back = decimal activation.count in
    let cut : IsCutAt is_exclamation_mark front exclamation_mark = record { fails = free_words (words_of activation.silo) (words_are_numerals activation.silo is); ends = refl } in
    let position = position-cut is_exclamation_mark front exclamation_mark back cut in
    let long = length-append front (exclamation_mark ∷ back) in
    let inside : position_or_len is_exclamation_mark text < length text = omega (arith, position, long) in
    let before : before_first is_exclamation_mark text ≡ front = before_first-cut is_exclamation_mark front exclamation_mark back cut in
    let behind : after_first is_exclamation_mark text ≡ back = after_first-cut is_exclamation_mark front exclamation_mark back cut in
    read_activation-cut text inside
    ∙ (λ i. activation_of (silo_only (before_first is_exclamation_mark text) activation.silo is before i)
    (read_number 18446744073709551615 (behind i)))

abbrev counted : (silo : Silo) (count : ℕ) → ActivationId
counted silo count = record { silo = silo; count = count }

counted_said : (silo : Silo) (count : ℕ) (read : Result ℕ NumberError) → IsSaid (number_or_fault read) count
    → IsSaid (activation_or_fault (activation_of (Ok silo) read)) (counted silo count)
counted_said silo count (Ok other) same = ap (counted silo) same
counted_said silo count (Err fault) same = tt

pub activation_said : (activation : ActivationId) → IsSilo activation.silo
    → IsSaid (activation_word (activation_text activation)) activation
activation_said activation is =
    subst (λ read. IsSaid (activation_or_fault read) activation) (sym (activation_reads activation is))
    (counted_said activation.silo activation.count (read_number 18446744073709551615 (decimal activation.count))
    (number_said activation.count))

-- ---- ranges
range_words : (range : Range) → HasWords (range_text range) (decimal range.start) (decimal range.size)
range_words range = record {
  joined = refl;
  first_plus = λ k d below same. let least = (decimal_glyphs range.start k d below).0 in absurd (omega (arith, least, same));
  some_start = decimal_some range.start;
  some_size = decimal_some range.size;
}

pub range_said : (range : Range) → IsSaid (range_word (range_text range)) range
range_said range = by (range_word (range_text range)) refl
  where
    same_start : (other : Range) → range_text range ≡ range_text other → decimal range.start ≡ decimal other.start
    same_start other texts =
        sym (start_word_is (range_text range) (decimal range.start) (decimal range.size) (range_words range)) ∙ ap start_word texts
        ∙ start_word_is (range_text other) (decimal other.start) (decimal other.size) (range_words other)

    same_size : (other : Range) → range_text range ≡ range_text other → decimal range.size ≡ decimal other.size
    same_size other texts =
        sym (size_word_is (range_text range) (decimal range.start) (decimal range.size) (range_words range)) ∙ ap size_word texts
        ∙ size_word_is (range_text other) (decimal other.start) (decimal other.size) (range_words other)

    by : (read : Result Range ℕ) → range_word (range_text range) ≡ read → IsSaid read range
    by (Ok other) reads =
        let texts = range_gave (range_text range) other reads in
        let is = range_told (range_text range) other reads in
        let below = is.start_below in
        let within = is.size_within in
        let start = same_number range.start other.start (omega (arith, below)) (same_start other texts) in
        let size = same_number range.size other.size (omega (arith, within)) (same_size other texts) in
        (λ i. record { start = sym start i; size = sym size i })
    by (Err fault) reads = tt

-- ---- entries
abbrev entry_with : Grain → ActivationId → Entry
entry_with grain activation = record { grain = grain; activation = activation }

abbrev more : Entry → List Entry → List Entry
more entry entries = entry ∷ entries

module _ (Fits : ℕ → Type 0) where
  pub entry_said : (entry : Entry) → IsEntry Fits entry
      → IsSaid (entry_of_words (grain_text entry.grain) (activation_text entry.activation)) entry
  entry_said entry is =
      two_said entry_with (grain_word (grain_text entry.grain)) (activation_word (activation_text entry.activation)) entry.grain
      entry.activation
      (is_said (grain_word (grain_text entry.grain)) entry.grain (grain_again entry.grain is.grain))
      (activation_said entry.activation is.activation.silo)

  pub entries_said : (entries : List Entry) → All (IsEntry Fits) entries → IsSaid (entries_in (entries_words entries)) entries
  entries_said [] all = refl
  entries_said (entry ∷ entries) all =
      two_said more (entry_of_words (grain_text entry.grain) (activation_text entry.activation)) (entries_in (entries_words entries)) entry
      entries
      (entry_said entry (All-head (IsEntry Fits) entry entries all)) (entries_said entries (All-tail (IsEntry Fits) entry entries all))
