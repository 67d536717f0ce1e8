-- The reading of an activation's text is exact.
use Rattle.std.proofs.Common.{◌≡◌, ◌≢◌, refl, ap, sym, ◌∙◌, subst, ℕ, ◌<◌, ◌≤◌, ◌+◌, ◌^◌, ◌++◌, ◌∷◌, Bool, true, false, Result, Ok, Err, List, length, arith, lit<}
use Rattle.std.specs.Prelude.{All, nat_lt, IfOk, IsErrOf, ◌↔◌}
use Rattle.std.specs.List.{position_or_len, before_first, after_first}
use Rattle.std.specs.Fmt.{decimal}
use Rattle.std.proofs.lemmas.Bool.Decides.{nat_tests}
use Rattle.std.proofs.lemmas.Bool.{lt-ltb, lt-leb, ltb-true, eqb-true, ne_eqb, eqb-false}
use Rattle.std.proofs.lemmas.List.{length-append}
use Rattle.std.proofs.lemmas.List.Elements.{All-append, All-cons}
use Rattle.std.proofs.lemmas.List.Sums.{split_at_first, passes_at_first, fails_before_first}
use Rattle.silo_address.specs.declared.activation.ActivationId.{ActivationId}
use Rattle.silo_address.specs.declared.activation.ActivationError.{ActivationError}
use Rattle.silo_address.specs.declared.activation.ActivationError.TheVariants as fault
use Rattle.texts.specs.declared.NumberError.{NumberError}
use Rattle.silo_address.specs.declared.silo.SiloError.{SiloError}
use Rattle.silo_address.specs.Marks.{exclamation_mark, dot, colon, at_sign}
use Rattle.texts.specs.Numeral.{IsNumeral, read_number}
use Rattle.silo_address.specs.Silo.{Silo, IsSilo}
use Rattle.silo_address.specs.SiloText.{Words, AreNumerals, words_text, words_of, silo_text}
use Rattle.silo_address.specs.ReadSilo.{read_silo}
use Rattle.silo_address.specs.ActivationText.{activation_text, is_exclamation_mark, activation_of, read_activation}
use Rattle.texts.proofs.Cuts.{IsCutAt, position-cut, before_first-cut, after_first-cut}
use Rattle.texts.proofs.NumeralLaws.{read_number-decimal, read_number_found}
use Rattle.silo_address.proofs.SiloCases.{silo_found, silo_only}
use Rattle.silo_address.proofs.SiloLaws.{words_are_numerals}

not_below : (a b : ℕ) → nat_lt a b ≡ false → b ≤ a
not_below a b tested = grind (arith, nat_tests)

-- No silo's text has an exclamation mark in it.
abbrev IsFree : List ℕ → Type 0
IsFree = All (λ byte. is_exclamation_mark byte ≡ false)

free_numeral : (word : List ℕ) → IsNumeral word → IsFree word
free_numeral word numeral = λ k d below. ne_eqb _ _ (λ same. let digit = numeral.digits k d below in absurd (omega arith))

free_mark : (word : List ℕ) (mark : ℕ) (rest : List ℕ) → IsNumeral word → is_exclamation_mark mark ≡ false → IsFree rest
    → IsFree (word ++ mark ∷ rest)
free_mark word mark rest numeral other free =
    All-append (λ byte. is_exclamation_mark byte ≡ false) word (mark ∷ rest) (free_numeral word numeral)
    (All-cons (λ byte. is_exclamation_mark byte ≡ false) mark rest other free)

free_words : (words : Words) → AreNumerals words → IsFree (words_text words)
free_words words n =
    free_mark words.first dot _ n.first refl (free_mark words.second dot _ n.second refl (free_mark words.third dot _ n.third refl
    (free_mark words.fourth colon _ n.fourth refl (free_mark words.port at_sign _ n.port refl
    (free_numeral words.generation n.generation)))))

-- A text with a mark in it is cut there.
cut_there : (text : List ℕ) → position_or_len is_exclamation_mark text < length text
    → text ≡ before_first is_exclamation_mark text ++ exclamation_mark ∷ after_first is_exclamation_mark text
cut_there text inside =
    split_at_first is_exclamation_mark text 0 inside
    ∙ ap (λ byte. before_first is_exclamation_mark text ++ byte ∷ after_first is_exclamation_mark text)
    (eqb-true _ _ (passes_at_first is_exclamation_mark text 0 inside))

pub read_activation-cut : (text : List ℕ) → position_or_len is_exclamation_mark text < length text
    → read_activation text ≡ activation_of (read_silo (before_first is_exclamation_mark text))
    (read_number 18446744073709551615 (after_first is_exclamation_mark text))
unfolding read_activation
read_activation-cut text inside =
    let yes : nat_lt (position_or_len is_exclamation_mark text) (length text) ≡ true = lt-ltb _ _ inside in rw yes refl

pub read_activation-whole : (text : List ℕ) → length text ≤ position_or_len is_exclamation_mark text
    → read_activation text ≡ Err fault.Shape
unfolding read_activation
read_activation-whole text whole =
    let no : nat_lt (position_or_len is_exclamation_mark text) (length text) ≡ false = lt-leb _ _ (omega arith) in rw no refl

-- Which text is read, and as what.
pub activation_only : (text : List ℕ) (activation : ActivationId) → IsSilo activation.silo → activation.count < 2 ^ 64
    → text ≡ activation_text activation → read_activation text ≡ Ok activation
activation_only text activation silo small spelled =
    let front = silo_text activation.silo in
    let back = decimal activation.count in
    let cut : IsCutAt is_exclamation_mark front exclamation_mark =
    record { fails = free_words (words_of activation.silo) (words_are_numerals activation.silo silo); ends = refl } in
    let position : position_or_len is_exclamation_mark text ≡ length front = ap (position_or_len is_exclamation_mark) spelled ∙ position-cut is_exclamation_mark front exclamation_mark back cut in
    let before : before_first is_exclamation_mark text ≡ front = ap (before_first is_exclamation_mark) spelled ∙ before_first-cut is_exclamation_mark front exclamation_mark back cut in
    let after : after_first is_exclamation_mark text ≡ back = ap (after_first is_exclamation_mark) spelled ∙ after_first-cut is_exclamation_mark front exclamation_mark back cut in
    let long : length text ≡ length front + length (exclamation_mark ∷ back) = ap length spelled ∙ length-append front (exclamation_mark ∷ back) in
    read_activation-cut text (omega arith)
    ∙ (λ i. activation_of (silo_only (before_first is_exclamation_mark text) activation.silo silo before i)
    (read_number-decimal 18446744073709551615 (after_first is_exclamation_mark text) activation.count (lit< tt) (omega arith) after i))

found_by : (text front back : List ℕ) → text ≡ front ++ exclamation_mark ∷ back
    → (silo : Result Silo SiloError) (count : Result ℕ NumberError)
    → read_silo front ≡ silo → read_number 18446744073709551615 back ≡ count
    → IfOk (activation_of silo count) (λ activation. text ≡ activation_text activation)
found_by text front back cut (Ok silo) (Ok count) reads_silo reads_count =
    let front_is : front ≡ silo_text silo = subst (λ (r : Result Silo SiloError). IfOk r (λ s. front ≡ silo_text s)) reads_silo (silo_found front) in
    let back_is = read_number_found 18446744073709551615 back count (lit< tt) reads_count in
    cut ∙ (λ i. front_is i ++ exclamation_mark ∷ back_is i)
found_by text front back cut (Ok silo) (Err e) reads_silo reads_count = tt
found_by text front back cut (Err e) count reads_silo reads_count = tt

activation_found : (text : List ℕ) → (inside : Bool) → nat_lt (position_or_len is_exclamation_mark text) (length text) ≡ inside
    → IfOk (read_activation text) (λ activation. text ≡ activation_text activation)
activation_found text true tested =
    let inside = ltb-true _ _ tested in
    subst (λ (r : Result ActivationId ActivationError). IfOk r (λ activation. text ≡ activation_text activation))
    (sym (read_activation-cut text inside))
    (found_by text _ _ (cut_there text inside) _ _ refl refl)
activation_found text false tested =
    subst (λ (r : Result ActivationId ActivationError). IfOk r (λ activation. text ≡ activation_text activation))
    (sym (read_activation-whole text (not_below _ _ tested))) tt

parts_fault : (silo : Result Silo SiloError) (count : Result ℕ NumberError) → ¬ (IsErrOf (activation_of silo count) fault.Shape)
parts_fault (Ok silo) (Ok count) e = cc
parts_fault (Ok silo) (Err f) e = cc
parts_fault (Err f) count e = cc

pub record ActivationClauses (text : List ℕ) (result : Result ActivationId ActivationError) : Type 0 where
  pub found : IfOk result (λ activation. text ≡ activation_text activation)
  pub shape : IsErrOf result fault.Shape ↔ All (λ byte. byte ≢ exclamation_mark) text
  pub only : (activation : ActivationId) → IsSilo activation.silo → activation.count < 2 ^ 64 → text ≡ activation_text activation
      → result ≡ Ok activation

activation_shape : (text : List ℕ) (inside : Bool) → nat_lt (position_or_len is_exclamation_mark text) (length text) ≡ inside
    → IsErrOf (read_activation text) fault.Shape ↔ All (λ byte. byte ≢ exclamation_mark) text
activation_shape text true tested =
    let inside = ltb-true _ _ tested in
    let there = passes_at_first is_exclamation_mark text 0 inside in
    (λ e. absurd (parts_fault _ _ (sym (read_activation-cut text inside) ∙ e)), λ free. absurd (free _ 0 inside (eqb-true _ _ there)))
activation_shape text false tested =
    let whole = not_below _ _ tested in
    (λ _ k d below. eqb-false _ _ (fails_before_first is_exclamation_mark text k d (omega arith)), λ _. read_activation-whole text whole)

pub activation_clauses : (text : List ℕ) (result : Result ActivationId ActivationError) → result ≡ read_activation text
    → ActivationClauses text result
activation_clauses text result reads = subst (ActivationClauses text) (sym reads) (record {
  found = activation_found text _ refl;
  shape = activation_shape text _ refl;
  only = activation_only text;
})
