-- Lines that say no letter.
use Rattle.std.proofs.Common.{arith, ◌≡◌, ℕ, Bool, true, false, List, [], ◌∷◌, ◌++◌, Option, Some, None, Result, Ok, Err, refl, sym, ap, ◌∙◌, length}
use Rattle.std.specs.Prelude.{◌==◌, ◌&&◌, not, nat_lt, nat_le, cond, filter, bytes_eq, if◌then◌else◌}
use Rattle.std.specs.List.{list_all, onto_first}
use Rattle.std.specs.Map.{lookup}
use Rattle.std.proofs.lemmas.Bool.{lt-ltb}
use Rattle.std.proofs.lemmas.Bool.Decides.{nat_tests}
use Rattle.std.proofs.lemmas.List.Elements.{All-head}
use Rattle.std.proofs.lemmas.Slice.Eq.{bytes_eq-Decides}
use Rattle.texts.specs.Words.{space, pieces_at, with_byte, is_some_bytes, words_in, sentence}
use Rattle.texts.specs.Numeral.{IsDigit, IsNumeral}
use Rattle.texts.proofs.Decided.{both}
use Rattle.silo_address.specs.Silo.{Silo, IsSilo}
use Rattle.silo_address.specs.SiloText.{words_of, silo_text}
use Rattle.silo_address.proofs.SiloLaws.{words_are_numerals}
use Rattle.hash_ring.specs.declared.hashing.Hashing.{Hashing}
use Rattle.directory_rules.specs.State.{Letter}
use Rattle.directory_rules.proofs.Cases.{on_bool}
use Rattle.script_rules.specs.Script.{Grammar, is_text, is_remark}
use Rattle.process_rules.specs.ReadLine.{Asked, Receive, longest_line, commands, asked_if_known, asked_of_words, read_silo_line}

-- a line that isn't read as a letter
abbrev pub IsSilent : Hashing → List ℕ → Type 0
IsSilent hashing line = (letter : Letter) → read_silo_line hashing line ≡ Ok (Some (Receive letter)) → ⊥

-- nor are its words
abbrev pub AreSilentWords : Hashing → List (List ℕ) → Type 0
AreSilentWords hashing words = (letter : Letter) → asked_of_words hashing words ≡ Ok (Some (Receive letter)) → ⊥

pub silent_by_words : (hashing : Hashing) (line : List ℕ) → AreSilentWords hashing (words_in line) → IsSilent hashing line
unfolding read_silo_line
silent_by_words hashing line silent letter = by (nat_lt longest_line (length line)) (list_all is_text line)
  where
    by : (long text : Bool) → ◌≡◌ {A = Result (Option Asked) ℕ}
        (if long then Err 924 else (if text then asked_of_words hashing (words_in line) else Err 925)) (Ok (Some (Receive letter))) → ⊥
    by true text is = cc is
    by false true is = silent letter is
    by false false is = cc is

-- the first word names no command
none_asked : (hashing : Hashing) (word : List ℕ) (words : List (List ℕ)) → lookup (bytes_eq word) (commands hashing) ≡ None
    → AreSilentWords hashing (word ∷ words)
none_asked hashing word words none letter = by (is_remark word) (lookup (bytes_eq word) (commands hashing)) none
  where
    by : (remark : Bool) (o : Option (Grammar Asked)) → o ≡ None
        → ◌≡◌ {A = Result (Option Asked) ℕ} (if remark then Ok None else asked_if_known o words) (Ok (Some (Receive letter))) → ⊥
    by true o nothing is = cc is
    by false None nothing is = cc is
    by false (Some grammar) nothing is = cc nothing

-- ---- a first word that is known
abbrev is_inner : ℕ → Bool
is_inner byte = not (byte == space)

abbrev is_none_known : Option (Grammar Asked) → Bool
is_none_known None = true
is_none_known (Some grammar) = false

-- a word that names no command
abbrev is_unknown : Hashing → List ℕ → Bool
is_unknown hashing word = nat_lt 0 (length word) && (list_all is_inner word && is_none_known (lookup (bytes_eq word) (commands hashing)))

inner_is : (b : Bool) → not b ≡ true → b ≡ false
inner_is true is = cc is
inner_is false is = refl

pieces_front : (word rest : List ℕ) → list_all is_inner word ≡ true → pieces_at space (word ++ space ∷ rest) ≡ word ∷ pieces_at space rest
pieces_front [] rest inner = refl
pieces_front (byte ∷ word) rest inner =
    let parts = both (is_inner byte) (list_all is_inner word) inner in
    ap (λ (b : Bool). with_byte b byte (pieces_at space (word ++ space ∷ rest))) (inner_is (byte == space) parts.0)
    ∙ ap (onto_first byte) (pieces_front word rest parts.1)

pieces_alone : (word : List ℕ) → list_all is_inner word ≡ true → pieces_at space word ≡ word ∷ []
pieces_alone [] inner = refl
pieces_alone (byte ∷ word) inner =
    let parts = both (is_inner byte) (list_all is_inner word) inner in
    ap (λ (b : Bool). with_byte b byte (pieces_at space word)) (inner_is (byte == space) parts.0)
    ∙ ap (onto_first byte) (pieces_alone word parts.1)

kept : (word : List ℕ) (pieces : List (List ℕ)) → nat_lt 0 (length word) ≡ true
    → filter is_some_bytes (word ∷ pieces) ≡ word ∷ filter is_some_bytes pieces
kept word pieces some = rw some refl

first_is : (word : List ℕ) (words : List (List ℕ)) → nat_lt 0 (length word) ≡ true → list_all is_inner word ≡ true
    → words_in (sentence (word ∷ words)) ≡ word ∷ words_in (sentence words)
first_is word [] some inner = ap (filter is_some_bytes) (pieces_alone word inner) ∙ kept word [] some
first_is word (next ∷ words) some inner =
    ap (filter is_some_bytes) (pieces_front word (sentence (next ∷ words)) inner)
    ∙ kept word (pieces_at space (sentence (next ∷ words))) some

none_is : (o : Option (Grammar Asked)) → is_none_known o ≡ true → o ≡ None
none_is None is = refl
none_is (Some grammar) is = cc is

unknown : (hashing : Hashing) (word : List ℕ) (words : List (List ℕ)) → is_unknown hashing word ≡ true
    → IsSilent hashing (sentence (word ∷ words))
unknown hashing word words is =
    let parts = both (nat_lt 0 (length word)) (list_all is_inner word && is_none_known (lookup (bytes_eq word) (commands hashing))) is in
    let rest = both (list_all is_inner word) (is_none_known (lookup (bytes_eq word) (commands hashing))) parts.1 in
    let none = none_is (lookup (bytes_eq word) (commands hashing)) rest.1 in
    silent_by_words hashing (sentence (word ∷ words))
    (λ letter given. none_asked hashing word (words_in (sentence words)) none letter
    (ap (asked_of_words hashing) (sym (first_is word words parts.0 rest.0)) ∙ given))

-- the first of the words names no command
abbrev pub first_unknown : Hashing → List (List ℕ) → Bool
first_unknown hashing [] = false
first_unknown hashing (word ∷ words) = is_unknown hashing word

pub by_first : (hashing : Hashing) (words : List (List ℕ)) → first_unknown hashing words ≡ true → IsSilent hashing (sentence words)
by_first hashing [] is = cc is
by_first hashing (word ∷ words) is = unknown hashing word words is

-- ---- a first word by which no letter comes
pub by_word : (hashing : Hashing) (word : List ℕ) (words : List (List ℕ)) → nat_lt 0 (length word) ≡ true → list_all is_inner word ≡ true
    → ((rest : List (List ℕ)) → AreSilentWords hashing (word ∷ rest))
    → IsSilent hashing (sentence (word ∷ words))
by_word hashing word words some inner silent =
    silent_by_words hashing (sentence (word ∷ words))
    (λ letter given. silent (words_in (sentence words)) letter
    (ap (asked_of_words hashing) (sym (first_is word words some inner)) ∙ given))

-- ---- a first byte that begins no command
abbrev is_small : ℕ → Bool
is_small byte = nat_le 97 byte && nat_le byte 122

abbrev begins_small : List ℕ → Bool
begins_small [] = false
begins_small (byte ∷ bytes) = is_small byte

abbrev are_small : List (List ℕ × Grammar Asked) → Bool
are_small es = list_all (λ e. begins_small e.0) es

no_command : (word : List ℕ) → begins_small word ≡ false → (es : List (List ℕ × Grammar Asked)) → are_small es ≡ true
    → lookup (bytes_eq word) es ≡ None
no_command word other [] small = refl
no_command word other (e ∷ es) small =
    let parts = both (begins_small e.0) (are_small es) small in
    on_bool (λ b. bytes_eq word e.0 ≡ b → cond b (Some e.1) (lookup (bytes_eq word) es) ≡ None) (bytes_eq word e.0)
    (λ t is. let same = ap begins_small ((bytes_eq-Decides word e.0).0 is) in let first = parts.0 in absurd (cc (same, first, other)))
    (λ f is. no_command word other es parts.1) refl

abbrev HasPiece : List (List ℕ) → Type 0
HasPiece pieces = (first : List ℕ) × (rest : List (List ℕ)) × (pieces ≡ first ∷ rest)

with_byte_has : (ends : Bool) (byte : ℕ) (pieces : List (List ℕ)) → HasPiece pieces → HasPiece (with_byte ends byte pieces)
with_byte_has true byte pieces has = ([], pieces, refl)
with_byte_has false byte pieces has = (byte ∷ has.0, has.1, ap (with_byte false byte) has.2)

has_piece : (bytes : List ℕ) → HasPiece (pieces_at space bytes)
has_piece [] = ([], [], refl)
has_piece (byte ∷ bytes) = with_byte_has (byte == space) byte (pieces_at space bytes) (has_piece bytes)

first_word : (byte : ℕ) (rest : List ℕ) → (byte == space) ≡ false
    → (more : List ℕ) × (words : List (List ℕ)) × (words_in (byte ∷ rest) ≡ (byte ∷ more) ∷ words)
first_word byte rest other =
    let has = has_piece rest in
    let some : nat_lt 0 (length (byte ∷ has.0)) ≡ true = lt-ltb 0 (length (byte ∷ has.0)) (omega arith) in (
      has.0,
      filter is_some_bytes has.1,
      ap (λ (b : Bool). filter is_some_bytes (with_byte b byte (pieces_at space rest))) other
          ∙ ap (λ (pieces : List (List ℕ)). filter is_some_bytes (onto_first byte pieces)) has.2 ∙ kept (byte ∷ has.0) has.1 some,
    )

pub other_byte : (hashing : Hashing) (byte : ℕ) (rest : List ℕ) → (byte == space) ≡ false → is_small byte ≡ false
    → IsSilent hashing (byte ∷ rest)
other_byte hashing byte rest inner other =
    let first = first_word byte rest inner in
    silent_by_words hashing (byte ∷ rest)
    (λ letter given. none_asked hashing (byte ∷ first.0) first.1 (no_command (byte ∷ first.0) other (commands hashing) refl) letter
    (ap (asked_of_words hashing) (sym first.2) ∙ given))

-- ---- a silo's text
digit_first : (hashing : Hashing) (word tail : List ℕ) (words : List (List ℕ)) → IsNumeral word
    → IsSilent hashing (sentence ((word ++ tail) ∷ words))
digit_first hashing [] tail words numeral = let some = numeral.some in absurd (omega (some, arith))
digit_first hashing (byte ∷ word) tail words numeral = by words
  where
    digit : IsDigit byte
    digit = All-head IsDigit byte word numeral.digits

    inner : (byte == space) ≡ false
    inner = let least = digit.0 in grind (arith, nat_tests)

    other : is_small byte ≡ false
    other = let most = digit.1 in let low : nat_le 97 byte ≡ false = grind (arith, nat_tests) in rw low refl

    by : (words : List (List ℕ)) → IsSilent hashing (sentence ((byte ∷ (word ++ tail)) ∷ words))
    by [] = other_byte hashing byte (word ++ tail) inner other
    by (next ∷ words) = other_byte hashing byte ((word ++ tail) ++ space ∷ sentence (next ∷ words)) inner other

pub silo_first : (hashing : Hashing) (silo : Silo) (words : List (List ℕ)) → IsSilo silo
    → IsSilent hashing (sentence (silo_text silo ∷ words))
silo_first hashing silo words is = digit_first hashing (words_of silo).first _ words (words_are_numerals silo is).first
