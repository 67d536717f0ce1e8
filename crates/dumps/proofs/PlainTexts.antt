-- What bytes begin with, as tokens.
use Rattle.std.proofs.Common.{◌≡◌, ◌+◌, ◌*◌, length, cond, arith, append-nil, append_assoc, take, drop, get_or, ◌-◌, ℕ, ◌<◌, ◌^◌, List, [], ◌∷◌, ◌++◌, decimal, Some, refl, sym, ap, ap₂, ◌∙◌, subst, inl, inr, ◌⊎◌}
use Rattle.std.specs.Bool.{OnTrue}
use Rattle.std.specs.Borrow.{Bor}
use Rattle.std.specs.Prelude.{Option, None, IfSome, Bool, true, false, not, nat_le, nat_lt, ◌≢◌, ◌==◌, ◌&&◌, ◌||◌}
use Rattle.std.specs.Char.{digit_value, encode_utf8}
use Rattle.std.specs.List.{list_all}
use Rattle.std.proofs.lemmas.List.{drop_more, length-append, take-append-drop, take_rest}
use Rattle.std.proofs.lemmas.Bool.{and_parts, eqb-false, eqb-true, le-ltb, leb-true, lt-ltb, ne_eqb, or_cases}
use Rattle.std.proofs.lemmas.Bool.Decides.{nat_tests}
use Rattle.json.specs.Token.{Token, begin_object, end_object, begin_array, end_array, key, string, number}
use Rattle.json.specs.Text.{after_high, code_unit, content, is_high_surrogate, is_low_surrogate, plain, prepend, short_escape}
use Rattle.json.specs.Word.{ends_word, is_operator, is_space}
use Rattle.json.specs.Lex.{Lexeme, Mode, lex_byte, operator, space, other, token, string_token, lex, between, in_string, begins_colon, punctuate}
use Rattle.json.specs.Print.{escape}
use Rattle.json.proofs.Printed.Strings.{escape_byte_plain, content-escape, lex-escape}
use Rattle.json.proofs.Printed.Numbers.{lex-number}
use Rattle.json.proofs.Printed.Decimals.{IsNumber-decimal}
use Rattle.dumps.specs.declared.plain_text.Place.{Place}
use Rattle.dumps.specs.declared.plain_text.Place.TheVariants.{Fresh, AfterValue}
use Rattle.dumps.specs.PlainText.{AreDigitsOf, IsBegun, IsNamed, IsQuoted, StandsFor, behind_blanks, ends_at_once, begun_at, keeps_its_meaning, ends_value, is_plain_byte, place_of, tokens_at}

-- ---- one byte of three
module _ (P : ℕ → Type 0) (a b c : ℕ) (at_a : P a) (at_b : P b) (at_c : P c) where
  one_of : (byte : ℕ) → ((byte == a) || (byte == b) || (byte == c)) ≡ true → P byte
  one_of byte is = go (or_cases ((byte == a) || (byte == b)) (byte == c) is)
    where
      first : ((byte == a) ≡ true) ⊎ ((byte == b) ≡ true) → P byte
      first (inl e) = subst P (sym (eqb-true byte a e)) at_a
      first (inr e) = subst P (sym (eqb-true byte b e)) at_b

      go : (((byte == a) || (byte == b)) ≡ true) ⊎ ((byte == c) ≡ true) → P byte
      go (inl e) = first (or_cases (byte == a) (byte == b) e)
      go (inr e) = subst P (sym (eqb-true byte c e)) at_c

-- ---- strings
apart : (x y : ℕ) → not (x == y) ≡ true → x ≢ y
apart x y is = eqb-false x y (false_of (x == y) is)
  where
    false_of : (b : Bool) → not b ≡ true → b ≡ false
    false_of true e = absurd (cc)
    false_of false e = refl

escape_plain : (s : List ℕ) → list_all is_plain_byte s ≡ true → escape s ≡ s
escape_plain [] are = refl
escape_plain (x ∷ s) are =
    let parts = and_parts (is_plain_byte x) (list_all is_plain_byte s) are in
    let first = and_parts (nat_le 32 x && not (x == 34)) (not (x == 92)) parts.0 in
    let front = and_parts (nat_le 32 x) (not (x == 34)) first.0 in
    ap₂ (λ one rest. one ++ rest) (escape_byte_plain x (apart x 34 front.1) (apart x 92 first.1) (leb-true 32 x front.0))
    (escape_plain s parts.1)

string_lexed : (s r : List ℕ) → list_all is_plain_byte s ≡ true → lex between (34 ∷ (s ++ 34 ∷ r)) ≡ token (string s) ∷ lex between r
unfolding lex
string_lexed s r are =
    let same = sym (escape_plain s are) in
    ap₂ (λ o l. token (string_token o) ∷ l)
    (ap (λ t. content plain (t ++ 34 ∷ r)) same ∙ content-escape s r)
    (ap (λ t. lex in_string (t ++ 34 ∷ r)) same ∙ lex-escape s r)

pub cut_quoted : (bytes : List ℕ) (end : ℕ) → end < length bytes → get_or bytes end 0 ≡ 34 → list_all is_plain_byte (take end bytes) ≡ true
    → IsQuoted bytes (take end bytes) (take (length bytes - (end + 1)) (drop (end + 1) bytes))
cut_quoted bytes end within mark are =
    let behind = drop_more bytes end 0 within ∙ ap (λ byte. byte ∷ drop (end + 1) bytes) mark in
    ap (λ b. lex between (34 ∷ b)) (sym (take-append-drop end bytes) ∙ ap (λ back. take end bytes ++ back) behind)
    ∙ string_lexed (take end bytes) (drop (end + 1) bytes) are
    ∙ ap (λ b. token (string (take end bytes)) ∷ lex between b) (sym (take_rest bytes (end + 1)))

-- ---- bytes of a string, one after another
-- in a string a byte that is no quotation mark and no backslash is passed over
stays : (o s : Bool) (x : ℕ) (r : List ℕ) (k : Mode → List Lexeme)
    → lex_byte in_string (cond o operator (cond s space other)) x r k ≡ k in_string
stays true s x r k = refl
stays false true x r k = refl
stays false false x r k = refl

plain_stands_first : (x : ℕ) (rest : List ℕ) → is_plain_byte x ≡ true → StandsFor (x ∷ rest) (x ∷ []) rest
unfolding content lex
plain_stands_first x rest is =
    let parts = and_parts (nat_le 32 x && not (x == 34)) (not (x == 92)) is in
    let front = and_parts (nat_le 32 x) (not (x == 34)) parts.0 in
    let mark = ne_eqb x 34 (apart x 34 front.1) in
    let slash = ne_eqb x 92 (apart x 92 parts.1) in
    record {
      read = rw (mark, slash, le-ltb x 32 (leb-true 32 x front.0)) refl;
      passed = rw (mark, slash) (stays (is_operator x) (is_space x) x rest (λ m. lex m rest));
      fits = omega arith;
    }

-- one part and the next one
after_nothing : (o : Option (List ℕ)) → o ≡ prepend [] o
after_nothing None = refl
after_nothing (Some s) = refl

after_both : (one more : List ℕ) (o : Option (List ℕ)) → prepend one (prepend more o) ≡ prepend (one ++ more) o
after_both one more None = refl
after_both one more (Some s) = ap Some (sym (append_assoc one more s))

pub parts_stand : (bytes one middle more rest : List ℕ) → StandsFor bytes one middle → StandsFor middle more rest
    → StandsFor bytes (one ++ more) rest
parts_stand bytes one middle more rest first later =
    let front = first.fits in
    let back = later.fits in
    record {
      read = first.read ∙ ap (prepend one) later.read ∙ after_both one more (content plain rest);
      passed = first.passed ∙ later.passed;
      fits = omega (arith, front, back, length-append one more);
    }

plain_part_stands : (part rest : List ℕ) → list_all is_plain_byte part ≡ true → StandsFor (part ++ rest) part rest
plain_part_stands [] rest are = record { read = after_nothing (content plain rest); passed = refl; fits = omega arith }
plain_part_stands (x ∷ part) rest are =
    let parts = and_parts (is_plain_byte x) (list_all is_plain_byte part) are in
    parts_stand (x ∷ (part ++ rest)) (x ∷ []) (part ++ rest) part rest (plain_stands_first x (part ++ rest) parts.0)
    (plain_part_stands part rest parts.1)

pub plain_stand : (bytes part rest : List ℕ) → bytes ≡ part ++ rest → list_all is_plain_byte part ≡ true → StandsFor bytes part rest
plain_stand bytes part rest is are = rw is (plain_part_stands part rest are)

escape_stands : (x : ℕ) (r : List ℕ) → keeps_its_meaning x ≡ true → StandsFor (92 ∷ x ∷ r) (x ∷ []) r
unfolding content lex short_escape
escape_stands x r is =
    one_of (λ b. StandsFor (92 ∷ b ∷ r) (b ∷ []) r) 34 92 47
    (record { read = refl; passed = refl; fits = omega arith })
    (record { read = refl; passed = refl; fits = omega arith })
    (record { read = refl; passed = refl; fits = omega arith })
    x is

pub kept_stands : (bytes : List ℕ) (x : ℕ) (r : List ℕ) → bytes ≡ x ∷ r → keeps_its_meaning x ≡ true → StandsFor (92 ∷ bytes) (x ∷ []) r
kept_stands bytes x r next is = rw next (escape_stands x r is)

-- a code below 128 is no surrogate, and one byte
code_stands : (code : ℕ) (rest : List ℕ) → code < 128
    → cond (is_high_surrogate code) (content (after_high code) rest)
    (cond (is_low_surrogate code) None (prepend (encode_utf8 code) (content plain rest))) ≡ prepend (code ∷ []) (content plain rest)
unfolding encode_utf8
code_stands code rest below =
    let high : nat_le 0xd800 code ≡ false = grind (arith, nat_tests) in
    let low : nat_le 0xdc00 code ≡ false = grind (arith, nat_tests) in
    let one : nat_lt code 0x80 ≡ true = grind (arith, nat_tests) in
    rw (high, low, one) refl

-- a digit is no mark
digit_plain : (x : ℕ) → digit_value x < 16 → is_plain_byte x ≡ true
digit_plain x is = grind (arith, nat_tests)

code_read : (byte high low : ℕ) (rest : List ℕ) → AreDigitsOf byte high low
    → StandsFor (92 ∷ 117 ∷ 48 ∷ 48 ∷ high ∷ low ∷ rest) (byte ∷ []) rest
unfolding content lex code_unit
code_read byte high low rest are =
    let first : nat_lt (digit_value high) 16 ≡ true = lt-ltb (digit_value high) 16 are.first in
    let second : nat_lt (digit_value low) 16 ≡ true = lt-ltb (digit_value low) 16 are.second in
    let is = are.is in
    let code : 0 + digit_value high * 16 + digit_value low ≡ byte = omega arith in
    record {
      read = rw (first, second, code) (code_stands byte rest are.below);
      passed =
          (plain_stands_first high (low ∷ rest) (digit_plain high are.first)).passed
          ∙ (plain_stands_first low rest (digit_plain low are.second)).passed;
      fits = omega arith;
    }

pub code_read_if : (bytes zeros digits second rest : List ℕ) (byte high low : ℕ) → bytes ≡ 48 ∷ zeros → zeros ≡ 48 ∷ digits
    → digits ≡ high ∷ second → second ≡ low ∷ rest → AreDigitsOf byte high low
    → StandsFor (92 ∷ 117 ∷ bytes) (byte ∷ []) rest
code_read_if bytes zeros digits second rest byte high low one two three four are =
    rw (one, two, three, four) (code_read byte high low rest are)

pub quoted_whole : (bytes text left rest : List ℕ) → StandsFor bytes text left → left ≡ 34 ∷ rest → IsQuoted bytes text rest
unfolding content lex
quoted_whole bytes text left rest front closed =
    ap₂ (λ o l. token (string_token o) ∷ l)
    (front.read ∙ ap (λ b. prepend text (content plain b)) closed ∙ ap Some (append-nil text))
    (front.passed ∙ ap (lex in_string) closed)

-- ---- blanks
module _ (P : ℕ → Type 0) (at_space : P 32) (at_tab : P 9) (at_line_feed : P 10) (at_return : P 13) where
  blank_of : (byte : ℕ) → is_space byte ≡ true → P byte
  blank_of byte is = go (or_cases ((byte == 32) || (byte == 9) || (byte == 10)) (byte == 13) is)
    where
      go : (((byte == 32) || (byte == 9) || (byte == 10)) ≡ true) ⊎ ((byte == 13) ≡ true) → P byte
      go (inl e) = one_of P 32 9 10 at_space at_tab at_line_feed byte e
      go (inr e) = subst P (sym (eqb-true byte 13 e)) at_return

one_passed : (byte : ℕ) (bytes : List ℕ) → is_space byte ≡ true → lex between (byte ∷ bytes) ≡ lex between bytes
unfolding lex
one_passed byte bytes is = blank_of (λ b. lex between (b ∷ bytes) ≡ lex between bytes) refl refl refl refl byte is

first_passed : (blank : Bool) (byte : ℕ) (bytes : List ℕ) → is_space byte ≡ blank → lex between bytes ≡ lex between (behind_blanks bytes)
    → lex between (byte ∷ bytes) ≡ lex between (cond blank (behind_blanks bytes) (byte ∷ bytes))
first_passed true byte bytes is more = one_passed byte bytes is ∙ more
first_passed false byte bytes is more = refl

blanks_passed : (bytes : List ℕ) → lex between bytes ≡ lex between (behind_blanks bytes)
blanks_passed [] = refl
blanks_passed (byte ∷ bytes) = first_passed (is_space byte) byte bytes refl (blanks_passed bytes)

-- ---- what comes behind a value
no_colon : (bytes : List ℕ) → ends_at_once bytes ≡ true → begins_colon (lex between bytes) ≡ false
unfolding lex
no_colon [] is = absurd (cc)
no_colon (byte ∷ bytes) is = one_of (λ b. begins_colon (lex between (b ∷ bytes)) ≡ false) 44 93 125 refl refl refl byte is

no_colon_behind : (bytes : List ℕ) → ends_value bytes ≡ true → begins_colon (lex between bytes) ≡ false
no_colon_behind bytes is = ap begins_colon (blanks_passed bytes) ∙ no_colon (behind_blanks bytes) is

word_ends_first : (blank : Bool) (byte : ℕ) (bytes : List ℕ) → is_space byte ≡ blank
    → ends_at_once (cond blank (behind_blanks bytes) (byte ∷ bytes)) ≡ true → ends_word (byte ∷ bytes) ≡ true
word_ends_first true byte bytes is ended = blank_of (λ b. ends_word (b ∷ bytes) ≡ true) refl refl refl refl byte is
word_ends_first false byte bytes is ended = one_of (λ b. ends_word (b ∷ bytes) ≡ true) 44 93 125 refl refl refl byte ended

word_ends : (bytes : List ℕ) → ends_value bytes ≡ true → ends_word bytes ≡ true
word_ends [] is = absurd (cc)
word_ends (byte ∷ bytes) is = word_ends_first (is_space byte) byte bytes refl is

-- ---- tokens
pub at_blanks : (place : Place) (bytes next : List ℕ) → behind_blanks bytes ≡ next → tokens_at place bytes ≡ tokens_at place next
at_blanks place bytes next is = ap (punctuate (place_of place)) (blanks_passed bytes ∙ ap (lex between) is)

comma_passed : (bytes : List ℕ) → IsBegun AfterValue (44 ∷ bytes) bytes
unfolding lex punctuate
comma_passed bytes = refl

pub begun_fresh : (place : Place) (bytes begun : List ℕ) → place ≡ Fresh → begun ≡ behind_blanks bytes → IsBegun place bytes begun
begun_fresh place bytes begun fresh is = rw fresh (at_blanks Fresh bytes begun (sym is))

pub begun_behind : (place : Place) (bytes rest begun : List ℕ) → place ≡ AfterValue → behind_blanks bytes ≡ 44 ∷ rest
    → begun ≡ behind_blanks rest → IsBegun place bytes begun
begun_behind place bytes rest begun after is next =
    rw after (at_blanks AfterValue bytes (44 ∷ rest) is ∙ comma_passed rest
    ∙ ap (punctuate (begun_at AfterValue)) (blanks_passed rest ∙ ap (lex between) (sym next)))

pub object_opened : (place : Place) (bytes : List ℕ)
    → punctuate (begun_at place) (lex between (123 ∷ bytes)) ≡ begin_object ∷ tokens_at Fresh bytes
unfolding lex punctuate
object_opened Fresh bytes = refl
object_opened AfterValue bytes = refl

pub array_opened : (place : Place) (bytes : List ℕ)
    → punctuate (begun_at place) (lex between (91 ∷ bytes)) ≡ begin_array ∷ tokens_at Fresh bytes
unfolding lex punctuate
array_opened Fresh bytes = refl
array_opened AfterValue bytes = refl

pub object_closed : (place : Place) (bytes : List ℕ) → tokens_at place (125 ∷ bytes) ≡ end_object ∷ tokens_at AfterValue bytes
unfolding lex punctuate
object_closed Fresh bytes = refl
object_closed AfterValue bytes = refl

pub array_closed : (place : Place) (bytes : List ℕ) → tokens_at place (93 ∷ bytes) ≡ end_array ∷ tokens_at AfterValue bytes
unfolding lex punctuate
array_closed Fresh bytes = refl
array_closed AfterValue bytes = refl

named : (place : Place) (s bytes : List ℕ) → punctuate (begun_at place) (token (string s) ∷ lex between (58 ∷ bytes)) ≡ key s ∷ tokens_at
    Fresh bytes
unfolding lex punctuate
named Fresh s bytes = refl
named AfterValue s bytes = refl

pub key_taken : (place : Place) (bytes name rest : List ℕ) → list_all is_plain_byte name ≡ true → IsNamed bytes name rest
    → punctuate (begun_at place) (lex between (34 ∷ bytes)) ≡ key name ∷ tokens_at Fresh rest
key_taken place bytes name rest are is =
    ap (punctuate (begun_at place))
    (ap (λ b. lex between (34 ∷ b)) is.is ∙ string_lexed name is.behind are
    ∙ ap (λ ls. token (string name) ∷ ls) (blanks_passed is.behind ∙ ap (lex between) is.ended))
    ∙ named place name rest

valued : (place : Place) (s : List ℕ) (ls : List Lexeme) → begins_colon ls ≡ false
    → punctuate (begun_at place) (token (string s) ∷ ls) ≡ string s ∷ punctuate (place_of AfterValue) ls
unfolding punctuate
valued Fresh s ls apart = rw apart refl
valued AfterValue s ls apart = rw apart refl

pub string_taken : (place : Place) (bytes s rest : List ℕ) → IsQuoted bytes s rest → ends_value rest ≡ true
    → punctuate (begun_at place) (lex between (34 ∷ bytes)) ≡ string s ∷ tokens_at AfterValue rest
string_taken place bytes s rest is ended =
    ap (punctuate (begun_at place)) is ∙ valued place s (lex between rest) (no_colon_behind rest ended)

counted : (place : Place) (s : List ℕ) (ls : List Lexeme)
    → punctuate (begun_at place) (token (number s) ∷ ls) ≡ number s ∷ punctuate (place_of AfterValue) ls
unfolding punctuate
counted Fresh s ls = refl
counted AfterValue s ls = refl

number_taken : (place : Place) (n : ℕ) (bytes : List ℕ) → n < 2 ^ 64 → ends_value bytes ≡ true
    → punctuate (begun_at place) (lex between (decimal n ++ bytes)) ≡ number (decimal n) ∷ tokens_at AfterValue bytes
number_taken place n bytes fits ended =
    ap (punctuate (begun_at place)) (lex-number (decimal n) bytes (IsNumber-decimal n fits) (word_ends bytes ended))
    ∙ counted place (decimal n) (lex between bytes)

over : (place : Place) (bytes : List ℕ) → behind_blanks bytes ≡ [] → tokens_at place bytes ≡ []
unfolding lex punctuate
over Fresh bytes is = at_blanks Fresh bytes [] is
over AfterValue bytes is = at_blanks AfterValue bytes [] is

-- ---- what the code asks of them
pub over_if : (place : Place) (bytes left : List ℕ) (seen : List Token) (none : Bool) → tokens_at place bytes ≡ seen
    → left ≡ behind_blanks bytes → none ≡ (length left == 0) → OnTrue none (seen ≡ [])
over_if place bytes left seen false is behind told = tt
over_if place bytes [] seen true is behind told = sym is ∙ over place bytes (sym behind)
over_if place bytes (byte ∷ left) seen true is behind told =
    let no : length (byte ∷ left) ≡ 0 = eqb-true (length (byte ∷ left)) 0 (sym told) in absurd (omega arith)

pub number_if : (place : Place) (bytes begun front back : List ℕ) (n : ℕ) → IsBegun place bytes begun → begun ≡ front ++ back
    → front ≡ decimal n → n < 2 ^ 64 → ends_value back ≡ true
    → tokens_at place bytes ≡ number (decimal n) ∷ tokens_at AfterValue back
number_if place bytes begun front back n is parts spelt fits ended =
    is ∙ ap (λ b. punctuate (begun_at place) (lex between b)) (parts ∙ ap (λ f. f ++ back) spelt) ∙ number_taken place n back fits ended

pub unnamed_if : (bytes name unnamed unquoted : List ℕ) (found : Option (Bor (List ℕ))) → bytes ≡ name ++ unnamed → unnamed ≡ 34 ∷ unquoted
    → IfSome found (λ rest. behind_blanks unquoted ≡ 58 ∷ rest.now) → IfSome found (λ rest. IsNamed bytes name rest.now)
unnamed_if bytes name unnamed unquoted None begun marked found = tt
unnamed_if bytes name unnamed unquoted (Some rest) begun marked found =
    record { behind = unquoted; is = begun ∙ ap (λ b. name ++ b) marked; ended = found }
