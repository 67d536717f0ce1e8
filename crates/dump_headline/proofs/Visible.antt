-- Visible texts: numbers in decimal, the names of silos, grains and ranges, and what stands for them in quotation marks.
use Rattle.std.proofs.Common.{arith, ◌≡◌, ℕ, ◌<◌, ◌≤◌, ◌^◌, List, [], ◌∷◌, ◌++◌, decimal, refl, sym, ap, subst}
use Rattle.std.specs.Prelude.{Bool, true, false, ◌==◌, ◌||◌, ◌&&◌, nat_le, nat_lt, cond, flat_map, slice_index, All}
use Rattle.std.specs.List.{list_all}
use Rattle.std.specs.Str.{is_utf8}
use Rattle.std.proofs.lemmas.Bool.{leb-true, ne_eqb, lt-ltb}
use Rattle.std.proofs.lemmas.Fmt.{decimal_is_IsNumeral}
use Rattle.std.proofs.lemmas.List.Elements.{All-nil, All-cons, All-head, All-tail, All-append, All-weaker, All-from_get_or}
use Rattle.std.proofs.lemmas.Str.{IsUtf8-from_ascii, is_utf8-from_IsUtf8}
use Rattle.std.proofs.lemmas.Str.Ascii.{IsAscii-from_all}
use Rattle.std.proofs.lemmas.Str.Parse.{digit_at}
use Rattle.texts.proofs.Decided.{both}
use Rattle.json.specs.Print as json
use Rattle.json.specs.Print.{escape_letter, escape_byte}
use Rattle.silo_address.specs.Silo.{Silo, IsSilo}
use Rattle.silo_address.specs.SiloText.{silo_text}
use Rattle.silo_address.specs.Grain.{IsVisible}
use Rattle.silo_address.specs.declared.ActivationId.{ActivationId}
use Rattle.silo_address.specs.ActivationText.{activation_text}
use Rattle.ring_range.specs.Range.{Range, IsRange}
use Rattle.ring_range.specs.Text.{range_text}
use Rattle.dump_rules.specs.Dump.{escaped, quoted}

abbrev pub AreVisible : List ℕ → Type 0
AreVisible text = All IsVisible text

-- by a test
pub visible_by : (text : List ℕ) → list_all (λ byte. nat_le 33 byte && nat_le byte 126) text ≡ true → AreVisible text
visible_by [] is = All-nil IsVisible
visible_by (x ∷ xs) is =
    let parts = both (nat_le 33 x && nat_le x 126) (list_all (λ byte. nat_le 33 byte && nat_le byte 126) xs) is in
    let here = both (nat_le 33 x) (nat_le x 126) parts.0 in
    All-cons IsVisible x xs (leb-true 33 x here.0, leb-true x 126 here.1) (visible_by xs parts.1)

pub visible_utf8 : (text : List ℕ) → AreVisible text → is_utf8 text ≡ true
visible_utf8 text visible =
    is_utf8-from_IsUtf8 text (IsUtf8-from_ascii text
    (IsAscii-from_all text (All-weaker IsVisible (λ byte. byte < 128) (λ byte is. let most = is.1 in omega (arith, most)) text
    visible)))

-- ---- numbers and names
pub decimal_visible : (n : ℕ) → n < 2 ^ 64 → AreVisible (decimal n)
decimal_visible n fits =
    All-from_get_or IsVisible (decimal n) 0 (λ i below. let digit = digit_at (decimal n) i (decimal_is_IsNumeral n fits).0.1 below in
    let low = digit.0 in let high = digit.1 in (omega (arith, low), omega (arith, high)))

-- a mark between two texts
joined : (byte : ℕ) → IsVisible byte → (one other : List ℕ) → AreVisible one → AreVisible other → AreVisible (one ++ byte ∷ other)
joined byte is one other first later = All-append IsVisible one (byte ∷ other) first (All-cons IsVisible byte other is later)

pub silo_visible : (silo : Silo) → IsSilo silo → AreVisible (silo_text silo)
silo_visible silo is =
    joined 46 (omega arith, omega arith) _ _ (byte 0)
    (joined 46 (omega arith, omega arith) _ _ (byte 1)
    (joined 46 (omega arith, omega arith) _ _ (byte 2) (joined 58 (omega arith, omega arith) _ _ (byte 3)
    (joined 64 (omega arith, omega arith) _ _ (decimal_visible silo.port (let below = is.port_below in omega (arith, below)))
    (decimal_visible silo.generation (let below = is.generation_below in omega (arith, below)))))))
  where
    byte : (k : ℕ) → AreVisible (decimal (slice_index silo.ip k))
    byte k = decimal_visible (slice_index silo.ip k) (let below = is.bytes k in omega (arith, below))

pub activation_visible : (activation : ActivationId) → IsSilo activation.silo → activation.count < 2 ^ 64
    → AreVisible (activation_text activation)
activation_visible activation is fits =
    joined 33 (omega arith, omega arith) (silo_text activation.silo) (decimal activation.count) (silo_visible activation.silo is)
    (decimal_visible activation.count fits)

pub range_visible : (range : Range) → IsRange range → AreVisible (range_text range)
range_visible range is =
    joined 43 (omega arith, omega arith) (decimal range.start) (decimal range.size)
    (decimal_visible range.start (let below = is.start_below in omega (arith, below)))
    (decimal_visible range.size (let within = is.size_within in omega (arith, within)))

-- ---- quotation marks
escape_same : (byte : ℕ) → IsVisible byte → escape_byte byte ≡ escaped byte
unfolding escape_byte
escape_same byte is = by ((byte == 34) || (byte == 92)) refl
  where
    low : 33 ≤ byte
    low = is.0

    other : (k : ℕ) → k < 33 → (byte == k) ≡ false
    other k below = ne_eqb byte k (λ same. let least = low in omega (arith, same, below, least))

    letter : escape_letter byte ≡ cond ((byte == 34) || (byte == 92)) byte 0
    letter = rw (other 8 (omega arith), other 12 (omega arith), other 10 (omega arith), other 13 (omega arith), other 9 (omega arith)) refl

    no_control : nat_lt byte 32 ≡ false
    no_control = grind (arith, low)

    some : nat_lt 0 byte ≡ true
    some = lt-ltb 0 byte (let least = low in omega (arith, least))

    by : (b : Bool) → ((byte == 34) || (byte == 92)) ≡ b → escape_byte byte ≡ escaped byte
    by true marked = rw (letter, marked, some) refl
    by false plain = rw (letter, plain, no_control) refl

escaped_visible : (byte : ℕ) → IsVisible byte → AreVisible (escaped byte)
escaped_visible byte is = by ((byte == 34) || (byte == 92))
  where
    one : AreVisible (byte ∷ [])
    one = All-cons IsVisible byte [] is (All-nil IsVisible)

    by : (b : Bool) → AreVisible (cond b (92 ∷ byte ∷ []) (byte ∷ []))
    by true = All-cons IsVisible 92 (byte ∷ []) (omega arith, omega arith) one
    by false = one

escapes_same : (text : List ℕ) → AreVisible text → flat_map escape_byte text ≡ flat_map escaped text
escapes_same [] visible = refl
escapes_same (x ∷ xs) visible =
    let first = escape_same x (All-head IsVisible x xs visible) in
    let rest = escapes_same xs (All-tail IsVisible x xs visible) in
    λ i. first i ++ rest i

-- JSON's quotation of a visible text is the dump's
pub quoted_same : (text : List ℕ) → AreVisible text → quoted text ≡ json.quoted text
quoted_same text visible = ap (λ inner. 34 ∷ (inner ++ 34 ∷ [])) (sym (escapes_same text visible))

escapes_visible : (text : List ℕ) → AreVisible text → AreVisible (flat_map escaped text)
escapes_visible [] visible = All-nil IsVisible
escapes_visible (x ∷ xs) visible =
    All-append IsVisible (escaped x) (flat_map escaped xs) (escaped_visible x (All-head IsVisible x xs visible))
    (escapes_visible xs (All-tail IsVisible x xs visible))

pub quoted_visible : (text : List ℕ) → AreVisible text → AreVisible (json.quoted text)
quoted_visible text visible =
    subst AreVisible (quoted_same text visible) (All-cons IsVisible 34 (flat_map escaped text ++ 34 ∷ []) (omega arith, omega arith)
    (All-append IsVisible (flat_map escaped text) (34 ∷ []) (escapes_visible text visible)
    (All-cons IsVisible 34 [] (omega arith, omega arith) (All-nil IsVisible))))
