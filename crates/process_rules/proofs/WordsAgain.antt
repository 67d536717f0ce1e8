-- Words that are written are read again, and what is read is what was written.
use Rattle.std.proofs.Common.{◌≡◌, ℕ, ◌<◌, ◌*◌, ◌^◌, Bool, true, false, List, [], ◌∷◌, Result, Ok, Err, refl, ap, sym, ◌∙◌, length, arith, lit<}
use Rattle.std.specs.Prelude.{All, IfOk, bytes_eq, if◌then◌else◌}
use Rattle.std.specs.Fmt.{decimal}
use Rattle.std.proofs.lemmas.List.Elements.{All-head, All-tail}
use Rattle.std.proofs.lemmas.Slice.Eq.{bytes_eq-Decides}
use Rattle.hex.specs.Hex.{decode_sized, encode_lower, lower_digits}
use Rattle.hex.specs.declared.error.FromHexError.{FromHexError}
use Rattle.hex.proofs.HexLemmas.{length-encode_with, decode_sized-twice, decode_of-encode_lower}
use Rattle.texts.specs.declared.NumberError.{NumberError}
use Rattle.texts.specs.Numeral.{read_number}
use Rattle.texts.proofs.NumeralLaws.{read_number-decimal, read_number_found}
use Rattle.silo_address.specs.Silo.{Silo, IsSilo}
use Rattle.silo_address.specs.SiloText.{silo_text}
use Rattle.silo_address.specs.ReadSilo.{read_silo}
use Rattle.silo_address.specs.declared.SiloError.{SiloError}
use Rattle.silo_address.proofs.SiloCases.{silo_found, silo_only}
use Rattle.silo_address.specs.Grain.{Grain, IsGrain, grain_text}
use Rattle.silo_address.specs.ReadGrain.{read_grain}
use Rattle.silo_address.specs.declared.GrainError.{GrainError}
use Rattle.silo_address.proofs.GrainCases.{grain_clauses, grain_only}
use Rattle.silo_address.specs.declared.ActivationId.{ActivationId}
use Rattle.silo_address.specs.declared.activation.ActivationError.{ActivationError}
use Rattle.silo_address.specs.declared.Entry.{Entry}
use Rattle.silo_address.specs.ActivationText.{activation_text, read_activation}
use Rattle.silo_address.proofs.ActivationLaws.{activation_clauses, activation_only}
use Rattle.ring_range.specs.Range.{Range, IsRange}
use Rattle.ring_range.specs.declared.text.RangeTextError.{RangeTextError}
use Rattle.ring_range.specs.Text.{range_text, read_range}
use Rattle.ring_range.proofs.ReadAgain as range_laws
use Rattle.script_rules.specs.Script.{silo_word, silo_or_fault, grain_word, grain_or_fault, number_word, number_or_fault}
use Rattle.process_rules.specs.LetterText.{entries_words}
use Rattle.process_rules.specs.ReadLetter.{activation_word, activation_or_fault, range_word, range_or_fault, digest_word, digest_or_fault, entry_of_words, entries_in, are_pairs}
use Rattle.process_rules.specs.Told.{IsNumber, IsActivation, IsEntry, IsDigest}
use Rattle.process_rules.proofs.Chains.{ok_is, two_again, two_gave}

-- ---- numbers
pub number_again : (number : ℕ) → IsNumber number → number_word (decimal number) ≡ Ok number
number_again number is =
    let small : number < 2 ^ 64 = is in
    ap number_or_fault (read_number-decimal 18446744073709551615 (decimal number) number (lit< tt) (omega arith) refl)

number_by : (word : List ℕ) (number : ℕ) (read : Result ℕ NumberError) → read_number 18446744073709551615 word ≡ read
    → number_or_fault read ≡ Ok number → word ≡ decimal number
number_by word number (Ok other) is given = read_number_found 18446744073709551615 word other (lit< tt) is ∙ ap decimal (ok_is given)
number_by word number (Err fault) is given = cc given

pub number_gave : (word : List ℕ) (number : ℕ) → number_word word ≡ Ok number → word ≡ decimal number
number_gave word number given = number_by word number (read_number 18446744073709551615 word) refl given

-- ---- silos
pub silo_again : (silo : Silo) → IsSilo silo → silo_word (silo_text silo) ≡ Ok silo
silo_again silo is = ap silo_or_fault (silo_only (silo_text silo) silo is refl)

silo_by : (word : List ℕ) (silo : Silo) (read : Result Silo SiloError) → IfOk read (λ other. word ≡ silo_text other)
    → silo_or_fault read ≡ Ok silo → word ≡ silo_text silo
silo_by word silo (Ok other) found given = found ∙ ap silo_text (ok_is given)
silo_by word silo (Err fault) found given = cc given

pub silo_gave : (word : List ℕ) (silo : Silo) → silo_word word ≡ Ok silo → word ≡ silo_text silo
silo_gave word silo given = silo_by word silo (read_silo word) (silo_found word) given

-- ---- grains
pub grain_again : (grain : Grain) → IsGrain grain → grain_word (grain_text grain) ≡ Ok grain
grain_again grain is = ap grain_or_fault (grain_only (grain_text grain) grain is refl)

grain_by : (word : List ℕ) (grain : Grain) (read : Result Grain GrainError) → IfOk read (λ other. word ≡ grain_text other)
    → grain_or_fault read ≡ Ok grain → word ≡ grain_text grain
grain_by word grain (Ok other) found given = found ∙ ap grain_text (ok_is given)
grain_by word grain (Err fault) found given = cc given

pub grain_gave : (word : List ℕ) (grain : Grain) → grain_word word ≡ Ok grain → word ≡ grain_text grain
grain_gave word grain given = grain_by word grain (read_grain word) (grain_clauses word (read_grain word) refl).found given

-- ---- activations
pub activation_again : (activation : ActivationId) → IsActivation IsNumber activation
    → activation_word (activation_text activation) ≡ Ok activation
activation_again activation is = ap activation_or_fault (activation_only (activation_text activation) activation is.silo is.count refl)

activation_by : (word : List ℕ) (activation : ActivationId) (read : Result ActivationId ActivationError)
    → IfOk read (λ other. word ≡ activation_text other)
    → activation_or_fault read ≡ Ok activation → word ≡ activation_text activation
activation_by word activation (Ok other) found given = found ∙ ap activation_text (ok_is given)
activation_by word activation (Err fault) found given = cc given

pub activation_gave : (word : List ℕ) (activation : ActivationId) → activation_word word ≡ Ok activation → word ≡ activation_text activation
activation_gave word activation given =
    activation_by word activation (read_activation word) (activation_clauses word (read_activation word) refl).found given

-- ---- ranges
pub range_again : (range : Range) → IsRange range → range_word (range_text range) ≡ Ok range
range_again range is = ap range_or_fault (range_laws.only (range_text range) range is refl)

range_by : (word : List ℕ) (range : Range) (read : Result Range RangeTextError) → IfOk read (λ other. word ≡ range_text other)
    → range_or_fault read ≡ Ok range → word ≡ range_text range
range_by word range (Ok other) found given = found ∙ ap range_text (ok_is given)
range_by word range (Err fault) found given = cc given

pub range_gave : (word : List ℕ) (range : Range) → range_word word ≡ Ok range → word ≡ range_text range
range_gave word range given = range_by word range (read_range word) (range_laws.IfOk-found word (read_range word) refl) given

-- ---- digests
same_bytes : (bytes : List ℕ) → bytes_eq bytes bytes ≡ true
same_bytes bytes = (bytes_eq-Decides bytes bytes).1 refl

pub digest_again : (digest : List ℕ) → IsDigest digest → digest_word (encode_lower digest) ≡ Ok digest
digest_again digest is =
    let long : length (encode_lower digest) ≡ 2 * length digest = length-encode_with lower_digits digest in
    ap (digest_or_fault (encode_lower digest)) (decode_sized-twice (encode_lower digest) 32 (long ∙ ap (λ n. 2 * n) is.long)
    ∙ decode_of-encode_lower digest is.bytes)
    ∙ ap (λ (b : Bool). if b then Ok digest else Err 930) (same_bytes (encode_lower digest))

digest_if : (word digest other : List ℕ) (same : Bool) → bytes_eq (encode_lower other) word ≡ same
    → ◌≡◌ {A = Result (List ℕ) ℕ} (if same then Ok other else Err 930) (Ok digest) → word ≡ encode_lower digest
digest_if word digest other true tested given = sym ((bytes_eq-Decides (encode_lower other) word).0 tested) ∙ ap encode_lower (ok_is given)
digest_if word digest other false tested given = cc given

digest_by : (word digest : List ℕ) (read : Result (List ℕ) FromHexError) → digest_or_fault word read ≡ Ok digest
    → word ≡ encode_lower digest
digest_by word digest (Ok other) given = digest_if word digest other (bytes_eq (encode_lower other) word) refl given
digest_by word digest (Err fault) given = cc given

pub digest_gave : (word digest : List ℕ) → digest_word word ≡ Ok digest → word ≡ encode_lower digest
digest_gave word digest given = digest_by word digest (decode_sized word 32) given

-- ---- entries
abbrev entry_with : Grain → ActivationId → Entry
entry_with grain activation = record { grain = grain; activation = activation }

pub entry_again : (entry : Entry) → IsEntry IsNumber entry
    → entry_of_words (grain_text entry.grain) (activation_text entry.activation) ≡ Ok entry
entry_again entry is =
    two_again entry_with (grain_word (grain_text entry.grain)) (activation_word (activation_text entry.activation)) entry.grain
    entry.activation
    (grain_again entry.grain is.grain) (activation_again entry.activation is.activation)

pub entry_gave : (grain activation : List ℕ) (entry : Entry) → entry_of_words grain activation ≡ Ok entry
    → (grain ≡ grain_text entry.grain) × (activation ≡ activation_text entry.activation)
entry_gave grain activation entry given =
    let parts = two_gave entry_with (grain_word grain) (activation_word activation) entry given in (
      grain_gave grain parts.0 parts.2 ∙ ap (λ (e : Entry). grain_text e.grain) parts.4,
      activation_gave activation parts.1 parts.3 ∙ ap (λ (e : Entry). activation_text e.activation) parts.4,
    )

abbrev more : Entry → List Entry → List Entry
more entry entries = entry ∷ entries

pub pairs_again : (entries : List Entry) → are_pairs (entries_words entries) ≡ true
pairs_again [] = refl
pairs_again (entry ∷ entries) = pairs_again entries

pub entries_again : (entries : List Entry) → All (IsEntry IsNumber) entries → entries_in (entries_words entries) ≡ Ok entries
entries_again [] all = refl
entries_again (entry ∷ entries) all =
    two_again more (entry_of_words (grain_text entry.grain) (activation_text entry.activation)) (entries_in (entries_words entries)) entry
    entries
    (entry_again entry (All-head (IsEntry IsNumber) entry entries all))
    (entries_again entries (All-tail (IsEntry IsNumber) entry entries all))

pub entries_gave : (words : List (List ℕ)) (entries : List Entry) → entries_in words ≡ Ok entries → words ≡ entries_words entries
entries_gave [] entries given = ap entries_words (ok_is given)
entries_gave (one ∷ []) entries given = cc given
entries_gave (grain ∷ activation ∷ words) entries given =
    let parts = two_gave more (entry_of_words grain activation) (entries_in words) entries given in
    let entry = entry_gave grain activation parts.0 parts.2 in
    let rest = entries_gave words parts.1 parts.3 in
    (λ i. entry.0 i ∷ entry.1 i ∷ rest i) ∙ ap entries_words parts.4
