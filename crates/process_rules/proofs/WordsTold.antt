-- What is read of a word is in its range.
use Rattle.std.proofs.Common.{◌≡◌, ℕ, Bool, true, false, List, [], ◌∷◌, Option, Some, None, Result, Ok, Err, refl, sym, ◌∙◌, subst, length, arith}
use Rattle.std.specs.Prelude.{◌&&◌, All, IfOk, bytes_eq, cond, nat_le, nat_lt}
use Rattle.std.specs.List.{list_all}
use Rattle.std.proofs.lemmas.Bool.{leb-true, ltb-true}
use Rattle.std.proofs.lemmas.List.Elements.{All-nil, All-cons}
use Rattle.hex.specs.Hex.{decode_sized, encode_lower}
use Rattle.hex.specs.declared.error.FromHexError.{FromHexError}
use Rattle.hex.proofs.HexLemmas.{decode_sized-ok, decode_sized-twice, decode_of-ok}
use Rattle.texts.specs.declared.NumberError.{NumberError}
use Rattle.texts.specs.declared.NumberError.TheVariants as number_fault
use Rattle.texts.specs.Numeral.{is_numeral, numeral_value, read_number}
use Rattle.texts.proofs.Decided.{both}
use Rattle.silo_address.specs.Silo.{Silo, IsSilo}
use Rattle.silo_address.specs.SiloText.{Words, silo_of}
use Rattle.silo_address.specs.ReadSilo.{are_numerals, is_silo, silo_by_words, silo_words, read_silo}
use Rattle.silo_address.specs.declared.silo.SiloError.{SiloError}
use Rattle.silo_address.specs.declared.silo.SiloError.TheVariants as silo_fault
use Rattle.silo_address.proofs.SiloLaws.{Decides-is_silo}
use Rattle.silo_address.specs.Grain.{Grain, IsGrain, IsVisible}
use Rattle.silo_address.specs.ReadGrain.{grain_at_slash, is_visible, is_cut, is_short_enough, read_grain}
use Rattle.silo_address.specs.declared.grain.GrainError.{GrainError}
use Rattle.silo_address.specs.declared.grain.GrainError.TheVariants as grain_fault
use Rattle.silo_address.proofs.GrainCases.{is_cut_takes, Decides-is_short_enough, Decides-all_visible}
use Rattle.silo_address.specs.declared.ActivationId.{ActivationId}
use Rattle.silo_address.specs.declared.activation.ActivationError.{ActivationError}
use Rattle.silo_address.specs.declared.activation.ActivationError.TheVariants as activation_fault
use Rattle.silo_address.specs.declared.Entry.{Entry}
use Rattle.silo_address.specs.ActivationText.{is_exclamation_mark, activation_of, read_activation}
use Rattle.std.specs.List.{position_or_len, before_first, after_first}
use Rattle.ring_range.specs.Range.{Range, IsRange, circle}
use Rattle.ring_range.specs.declared.text.RangeTextError.{RangeTextError}
use Rattle.ring_range.specs.declared.text.RangeTextError.TheVariants as range_fault
use Rattle.ring_range.specs.Text.{start_word, size_word, has_words, range_by_words, is_range, if_range, read_range}
use Rattle.script_rules.specs.Script.{silo_word, silo_or_fault, grain_word, grain_or_fault, number_word, number_or_fault}
use Rattle.process_rules.specs.ReadLetter.{activation_word, activation_or_fault, range_word, range_or_fault, digest_word, digest_or_fault, entry_of_words, entries_in}
use Rattle.process_rules.specs.Told.{IsNumber, IsActivation, IsEntry, IsDigest}
use Rattle.process_rules.proofs.Chains.{ok_is, two_gave}

-- ---- numbers
number_by : (value : ℕ) (numeral within : Bool) → nat_le value 18446744073709551615 ≡ within
    → IfOk (cond numeral (cond within (Ok value) (Err number_fault.OutOfRange)) (Err number_fault.NotANumber)) IsNumber
number_by value true true is = let low = leb-true value 18446744073709551615 is in omega (arith, low)
number_by value true false is = tt
number_by value false within is = tt

number_reads : (word : List ℕ) → IfOk (read_number 18446744073709551615 word) IsNumber
number_reads word = number_by (numeral_value word) (is_numeral word) (nat_le (numeral_value word) 18446744073709551615) refl

number_from : (number : ℕ) (read : Result ℕ NumberError) → IfOk read IsNumber → number_or_fault read ≡ Ok number → IsNumber number
number_from number (Ok other) found given = subst IsNumber (ok_is given) found
number_from number (Err fault) found given = cc given

pub number_told : (word : List ℕ) (number : ℕ) → number_word word ≡ Ok number → IsNumber number
number_told word number given = number_from number (read_number 18446744073709551615 word) (number_reads word) given

-- ---- silos
silo_by : (words : Words) (numerals within : Bool) → is_silo (silo_of words) ≡ within
    → IfOk (cond numerals (cond within (Ok (silo_of words)) (Err silo_fault.OutOfRange)) (Err silo_fault.NotANumber)) IsSilo
silo_by words true true is = (Decides-is_silo (silo_of words)).0 is
silo_by words true false is = tt
silo_by words false within is = tt

silo_with : (words : Option Words) → IfOk (silo_by_words words) IsSilo
silo_with None = tt
silo_with (Some words) = silo_by words (are_numerals words) (is_silo (silo_of words)) refl

silo_reads : (word : List ℕ) → IfOk (read_silo word) IsSilo
unfolding read_silo
silo_reads word = silo_with (silo_words word)

silo_from : (silo : Silo) (read : Result Silo SiloError) → IfOk read IsSilo → silo_or_fault read ≡ Ok silo → IsSilo silo
silo_from silo (Ok other) found given = subst IsSilo (ok_is given) found
silo_from silo (Err fault) found given = cc given

pub silo_told : (word : List ℕ) (silo : Silo) → silo_word word ≡ Ok silo → IsSilo silo
silo_told word silo given = silo_from silo (read_silo word) (silo_reads word) given

-- ---- grains
grain_by : (word : List ℕ) (cut short visible : Bool) → is_cut word ≡ cut → is_short_enough (grain_at_slash word) ≡ short
    → list_all is_visible word ≡ visible
    → IfOk (cond cut (cond short (cond visible (Ok (grain_at_slash word)) (Err grain_fault.Byte)) (Err grain_fault.TooLong))
    (Err grain_fault.Shape)) IsGrain
grain_by word true true true is_cut is_short is_visible =
    let into = is_cut_takes word is_cut in record {
      cut = into.cut;
      short_enough = (Decides-is_short_enough (grain_at_slash word)).0 is_short;
      visible = subst (All IsVisible) into.text ((Decides-all_visible word).0 is_visible);
    }
grain_by word true true false is_cut is_short is_visible = tt
grain_by word true false visible is_cut is_short is_visible = tt
grain_by word false short visible is_cut is_short is_visible = tt

grain_reads : (word : List ℕ) → IfOk (read_grain word) IsGrain
unfolding read_grain
grain_reads word = grain_by word (is_cut word) (is_short_enough (grain_at_slash word)) (list_all is_visible word) refl refl refl

grain_from : (grain : Grain) (read : Result Grain GrainError) → IfOk read IsGrain → grain_or_fault read ≡ Ok grain → IsGrain grain
grain_from grain (Ok other) found given = subst IsGrain (ok_is given) found
grain_from grain (Err fault) found given = cc given

pub grain_told : (word : List ℕ) (grain : Grain) → grain_word word ≡ Ok grain → IsGrain grain
grain_told word grain given = grain_from grain (read_grain word) (grain_reads word) given

-- ---- activations
activation_with : (silo : Result Silo SiloError) (count : Result ℕ NumberError) → IfOk silo IsSilo → IfOk count IsNumber
    → IfOk (activation_of silo count) (IsActivation IsNumber)
activation_with (Ok silo) (Ok count) is_silo is_count = record { silo = is_silo; count = is_count }
activation_with (Ok silo) (Err fault) is_silo is_count = tt
activation_with (Err fault) count is_silo is_count = tt

activation_reads : (word : List ℕ) → IfOk (read_activation word) (IsActivation IsNumber)
unfolding read_activation
activation_reads word = by (nat_lt (position_or_len is_exclamation_mark word) (length word))
  where
    by : (marked : Bool) → IfOk (cond marked (activation_of (read_silo (before_first is_exclamation_mark word))
        (read_number 18446744073709551615 (after_first is_exclamation_mark word))) (Err activation_fault.Shape)) (IsActivation IsNumber)
    by true =
        activation_with (read_silo (before_first is_exclamation_mark word))
        (read_number 18446744073709551615 (after_first is_exclamation_mark word))
        (silo_reads (before_first is_exclamation_mark word)) (number_reads (after_first is_exclamation_mark word))
    by false = tt

activation_from : (activation : ActivationId) (read : Result ActivationId ActivationError) → IfOk read (IsActivation IsNumber)
    → activation_or_fault read ≡ Ok activation → IsActivation IsNumber activation
activation_from activation (Ok other) found given = subst (IsActivation IsNumber) (ok_is given) found
activation_from activation (Err fault) found given = cc given

pub activation_told : (word : List ℕ) (activation : ActivationId) → activation_word word ≡ Ok activation → IsActivation IsNumber activation
activation_told word activation given = activation_from activation (read_activation word) (activation_reads word) given

-- ---- ranges
range_by : (range : Range) (within : Bool) → is_range range ≡ within → IfOk (cond within (Ok range) (Err range_fault.OutOfRange)) IsRange
range_by range true is =
    let parts = both (nat_lt range.start circle) (nat_le range.size circle) is in
    record { start_below = ltb-true range.start circle parts.0; size_within = leb-true range.size circle parts.1 }
range_by range false is = tt

range_with : (range : Range) (words numerals : Bool)
    → IfOk (cond words (cond numerals (if_range range) (Err range_fault.NotANumber)) (Err range_fault.Shape)) IsRange
range_with range true true = range_by range (is_range range) refl
range_with range true false = tt
range_with range false numerals = tt

range_reads : (word : List ℕ) → IfOk (read_range word) IsRange
unfolding read_range
range_reads word =
    range_with (range_by_words (start_word word) (size_word word)) (has_words word)
    (is_numeral (start_word word) && is_numeral (size_word word))

range_from : (range : Range) (read : Result Range RangeTextError) → IfOk read IsRange → range_or_fault read ≡ Ok range → IsRange range
range_from range (Ok other) found given = subst IsRange (ok_is given) found
range_from range (Err fault) found given = cc given

pub range_told : (word : List ℕ) (range : Range) → range_word word ≡ Ok range → IsRange range
range_told word range given = range_from range (read_range word) (range_reads word) given

-- ---- digests
digest_reads : (word digest : List ℕ) → decode_sized word 32 ≡ Ok digest → IsDigest digest
digest_reads word digest is =
    let twice = decode_sized-ok word 32 digest is in
    let parts = decode_of-ok word digest (sym (decode_sized-twice word 32 twice) ∙ is) in
    let half = parts.2 in
    record { long = omega (arith, twice, half); bytes = parts.3 }

digest_if : (digest other : List ℕ) (same : Bool) → IsDigest other
    → ◌≡◌ {A = Result (List ℕ) ℕ} (cond same (Ok other) (Err 930)) (Ok digest) → IsDigest digest
digest_if digest other true is given = subst IsDigest (ok_is given) is
digest_if digest other false is given = cc given

digest_from : (word digest : List ℕ) (read : Result (List ℕ) FromHexError) → decode_sized word 32 ≡ read
    → digest_or_fault word read ≡ Ok digest → IsDigest digest
digest_from word digest (Ok other) is given = digest_if digest other (bytes_eq (encode_lower other) word) (digest_reads word other is) given
digest_from word digest (Err fault) is given = cc given

pub digest_told : (word digest : List ℕ) → digest_word word ≡ Ok digest → IsDigest digest
digest_told word digest given = digest_from word digest (decode_sized word 32) refl given

-- ---- entries
abbrev entry_with : Grain → ActivationId → Entry
entry_with grain activation = record { grain = grain; activation = activation }

pub entry_told : (grain activation : List ℕ) (entry : Entry) → entry_of_words grain activation ≡ Ok entry → IsEntry IsNumber entry
entry_told grain activation entry given =
    let parts = two_gave entry_with (grain_word grain) (activation_word activation) entry given in
    subst (IsEntry IsNumber) parts.4 (record {
      grain = grain_told grain parts.0 parts.2;
      activation = activation_told activation parts.1
          parts.3;
    })

abbrev more : Entry → List Entry → List Entry
more entry entries = entry ∷ entries

pub entries_told : (words : List (List ℕ)) (entries : List Entry) → entries_in words ≡ Ok entries → All (IsEntry IsNumber) entries
entries_told [] entries given = subst (All (IsEntry IsNumber)) (ok_is given) (All-nil (IsEntry IsNumber))
entries_told (one ∷ []) entries given = cc given
entries_told (grain ∷ activation ∷ words) entries given =
    let parts = two_gave more (entry_of_words grain activation) (entries_in words) entries given in
    subst (All (IsEntry IsNumber)) parts.4 (All-cons (IsEntry IsNumber) parts.0 parts.1 (entry_told grain activation parts.0 parts.2)
    (entries_told words parts.1 parts.3))
