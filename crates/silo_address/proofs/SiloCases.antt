-- The clauses of `SiloAddress::parse`, from the reading of a text.
use Rattle.std.proofs.Common.{◌≡◌, inl, inr, ◌⊎◌, refl, ap, sym, ◌∙◌, subst, Option, Some, None, Result, Ok, Err, List, ℕ}
use Rattle.std.specs.Prelude.{IsErrOf, IfOk, ◌↔◌}
use Rattle.silo_address.specs.declared.silo.SiloError.{SiloError}
use Rattle.silo_address.specs.declared.silo.SiloError.TheVariants.{Shape, NotANumber, OutOfRange}
use Rattle.silo_address.specs.Silo.{Silo, IsSilo}
use Rattle.silo_address.specs.SiloText.{Words, HasWords, HasSiloShape, AreNumerals, words_text, words_of, silo_of, silo_text}
use Rattle.silo_address.specs.ReadSilo.{silo_words, silo_by_words, read_silo}
use Rattle.texts.proofs.Decided.{decided}
use Rattle.silo_address.proofs.SiloLaws.{Decides-are_numerals, Decides-is_silo, silo_by_words_other, silo_by_words_large, silo_by_words_silo, read_silo_words, read_silo_none, silo_words_takes, silo_words_again, has_no_words, words_in_some, words_are_numerals, each_is_word, silo_of-words_of, words_of-silo_of}

-- A text has one list of words.
one_words : (text : List ℕ) (a b : Words) → HasWords text a → HasWords text b → a ≡ b
one_words text a b has_a has_b =
    words_in_some (sym (ap silo_words has_a.text ∙ silo_words_again a has_a.each)
    ∙ (ap silo_words has_b.text ∙ silo_words_again b has_b.each))

-- What a reading is in each of the four cases.
pub record ReadingCases (text : List ℕ) (P : Result Silo SiloError → Type 0) : Type 0 where
  shape : ¬ (HasSiloShape text) → P (Err Shape)
  not_a_number : (words : Words) → HasWords text words → ¬ (AreNumerals words) → P (Err NotANumber)
  out_of_range : (words : Words) → HasWords text words → AreNumerals words → ¬ (IsSilo (silo_of words)) → P (Err OutOfRange)
  silo : (words : Words) → HasWords text words → AreNumerals words → IsSilo (silo_of words) → P (Ok (silo_of words))

by_words : (text : List ℕ) (P : Result Silo SiloError → Type 0) → ReadingCases text P → (words : Words) → HasWords text words
    → AreNumerals words ⊎ ¬ (AreNumerals words) → IsSilo (silo_of words) ⊎ ¬ (IsSilo (silo_of words)) → P (silo_by_words (Some words))
by_words text P cases words has (inr other) silo = subst P (sym (silo_by_words_other words other)) (cases.not_a_number words has other)
by_words text P cases words has (inl numerals) (inr outside) =
    subst P (sym (silo_by_words_large words numerals outside)) (cases.out_of_range words has numerals outside)
by_words text P cases words has (inl numerals) (inl silo) =
    subst P (sym (silo_by_words_silo words numerals silo)) (cases.silo words has numerals silo)

by_text : (text : List ℕ) (P : Result Silo SiloError → Type 0) → ReadingCases text P → (seen : Option Words) → silo_words text ≡ seen
    → P (read_silo text)
by_text text P cases None is = subst P (sym (read_silo_none text is)) (cases.shape (λ has. has_no_words text has.0 is has.1))
by_text text P cases (Some words) is =
    let has = silo_words_takes text words is in
    subst P (sym (read_silo_words text words has))
    (by_words text P cases words has (decided _ (Decides-are_numerals words)) (decided _ (Decides-is_silo (silo_of words))))

pub read_silo_cases : (text : List ℕ) (P : Result Silo SiloError → Type 0) → ReadingCases text P → P (read_silo text)
read_silo_cases text P cases = by_text text P cases (silo_words text) refl

-- The clauses.
pub silo_found : (text : List ℕ) → IfOk (read_silo text) (λ silo. text ≡ silo_text silo)
silo_found text = read_silo_cases text (λ r. IfOk r (λ silo. text ≡ silo_text silo)) (record {
  shape = λ _. tt;
  not_a_number = λ _ _ _. tt;
  out_of_range = λ _ _ _ _. tt;
  silo = λ words has numerals silo. has.text ∙ ap words_text (sym (words_of-silo_of words numerals silo));
})

pub silo_only : (text : List ℕ) (silo : Silo) → IsSilo silo → text ≡ silo_text silo → read_silo text ≡ Ok silo
silo_only text silo is spelled =
    let numerals = words_are_numerals silo is in
    let same = silo_of-words_of silo is in
    read_silo_words text (words_of silo) (record { text = spelled; each = each_is_word (words_of silo) numerals })
    ∙ silo_by_words_silo (words_of silo) numerals (subst IsSilo (sym same) is) ∙ ap Ok same

pub silo_shape : (text : List ℕ) → IsErrOf (read_silo text) Shape ↔ ¬ (HasSiloShape text)
silo_shape text = read_silo_cases text (λ r. IsErrOf r Shape ↔ ¬ (HasSiloShape text)) (record {
  shape = λ none. (λ _. none, λ _. refl);
  not_a_number = λ words has _. (λ e. cc, λ none. absurd (none (words, has)));
  out_of_range = λ words has _ _. (λ e. cc, λ none. absurd (none (words, has)));
  silo = λ words has _ _. (λ e. cc, λ none. absurd (none (words, has)));
})

abbrev IsUnread : List ℕ → Type 0
IsUnread text = (words : Words) × HasWords text words × ¬ (AreNumerals words)

pub silo_not_a_number : (text : List ℕ) → IsErrOf (read_silo text) NotANumber ↔ IsUnread text
silo_not_a_number text = read_silo_cases text (λ r. IsErrOf r NotANumber ↔ IsUnread text) (record {
  shape = λ none. (λ e. cc, λ some. absurd (none (some.0, some.1)));
  not_a_number = λ words has other. (λ _. (words, has, other), λ _. refl);
  out_of_range =
      λ words has numerals _. (λ e. cc, λ some. absurd (some.2 (subst AreNumerals (one_words text words some.0 has some.1) numerals)));
  silo = λ words has numerals _. (λ e. cc, λ some. absurd (some.2 (subst AreNumerals (one_words text words some.0 has some.1) numerals)));
})

abbrev IsOutside : List ℕ → Type 0
IsOutside text = (words : Words) × HasWords text words × AreNumerals words × ¬ (IsSilo (silo_of words))

pub silo_out_of_range : (text : List ℕ) → IsErrOf (read_silo text) OutOfRange ↔ IsOutside text
silo_out_of_range text = read_silo_cases text (λ r. IsErrOf r OutOfRange ↔ IsOutside text) (record {
  shape = λ none. (λ e. cc, λ some. absurd (none (some.0, some.1)));
  not_a_number = λ words has other. (λ e. cc, λ some. absurd (other (subst AreNumerals (one_words text some.0 words some.1 has) some.2)));
  out_of_range = λ words has numerals outside. (λ _. (words, has, numerals, outside), λ _. refl);
  silo =
      λ words has _ silo. (
        λ e. cc,
        λ some. absurd (some.3
            (subst (λ (w : Words). IsSilo (silo_of w)) (one_words text words some.0 has some.1) silo)),
      );
})

-- What the reading answers where the text is no silo's.
pub read_silo_outside : (text : List ℕ) (words : Words) → silo_words text ≡ Some words → AreNumerals words
    → ((silo : Silo) → IsSilo silo → ¬ (text ≡ silo_text silo)) → read_silo text ≡ Err OutOfRange
read_silo_outside text words is numerals none =
    let has = silo_words_takes text words is in
    read_silo_words text words has
    ∙ silo_by_words_large words numerals (λ silo. none (silo_of words) silo
    (has.text ∙ ap words_text (sym (words_of-silo_of words numerals silo))))

pub read_silo_other : (text : List ℕ) (words : Words) → silo_words text ≡ Some words → ¬ (AreNumerals words)
    → read_silo text ≡ Err NotANumber
read_silo_other text words is other = read_silo_words text words (silo_words_takes text words is) ∙ silo_by_words_other words other

-- All the clauses of a result that is the reading.
pub record SiloClauses (text : List ℕ) (result : Result Silo SiloError) : Type 0 where
  pub found : IfOk result (λ silo. text ≡ silo_text silo)
  pub only : (silo : Silo) → IsSilo silo → text ≡ silo_text silo → result ≡ Ok silo
  pub shape : IsErrOf result Shape ↔ ¬ (HasSiloShape text)
  pub not_a_number : IsErrOf result NotANumber ↔ IsUnread text
  pub out_of_range : IsErrOf result OutOfRange ↔ IsOutside text

pub silo_clauses : (text : List ℕ) (result : Result Silo SiloError) → result ≡ read_silo text → SiloClauses text result
silo_clauses text result reads = subst (SiloClauses text) (sym reads) (record {
  found = silo_found text;
  only = silo_only text;
  shape = silo_shape text;
  not_a_number = silo_not_a_number text;
  out_of_range = silo_out_of_range text;
})
