-- A number of any size is written by digits, and is read as itself, or is refused as too large.
use Rattle.std.proofs.Common.{arith, ◌≡◌, ℕ, ◌+◌, ◌/◌, ◌%◌, ◌^◌, ◌<◌, ◌≤◌, zero, suc, Bool, true, false, List, [], ◌∷◌, Result, Ok, Err, ap, ◌∙◌, sym, refl, length, decimal}
use Rattle.std.specs.Prelude.{All, ◌==◌, cond, nat_lt}
use Rattle.std.specs.Fmt.{digit_glyph, digits_onto, digits}
use Rattle.std.specs.Str.Parse.{digits_value}
use Rattle.std.proofs.lemmas.Bool.{eqb-true, ltb-true, ltb-false}
use Rattle.std.proofs.Math.Nat.{pow-suc, one-le-pow}
use Rattle.std.proofs.lemmas.Fmt.{decimal_is_IsNumeral_wide, length-decimal-le_wide}
use Rattle.std.proofs.lemmas.List.Elements.{All-nil, All-cons, All-weaker}
use Rattle.silo_address.specs.Grain.{IsVisible}
use Rattle.script_rules.specs.Script.{number_word}
use Rattle.process_rules.proofs.Chains.{IsSaid}
use Rattle.process_rules.proofs.WordsAgain.{number_gave}
use Rattle.process_rules.proofs.WordsTold.{number_told}

abbrev onto : ℕ → ℕ → List ℕ → List ℕ
onto k n acc = digits_onto k 10 false n acc

abbrev glyph : ℕ → ℕ
glyph n = digit_glyph false (n % 10)

either : (P : List ℕ → Type 0) (b : Bool) (xs ys : List ℕ) → P xs → P ys → P (cond b xs ys)
either P true xs ys one other = one
either P false xs ys one other = other

-- ---- by digits, one at least
abbrev pub IsGlyph : ℕ → Type 0
IsGlyph byte = (48 ≤ byte) × (byte ≤ 126)

is_glyph : (n : ℕ) → IsGlyph (glyph n)
is_glyph n = by (nat_lt (n % 10) 10)
  where
    by : (b : Bool) → IsGlyph (cond b (48 + n % 10) (87 + n % 10))
    by true = (omega arith, omega arith)
    by false = (omega arith, omega arith)

onto_glyphs : (k n : ℕ) (acc : List ℕ) → All IsGlyph acc → All IsGlyph (onto k n acc)
onto_glyphs zero n acc are = are
onto_glyphs (suc k) n acc are =
    let more = All-cons IsGlyph (glyph n) acc (is_glyph n) are in
    either (All IsGlyph) (n / 10 == 0) (glyph n ∷ acc) (onto k (n / 10) (glyph n ∷ acc)) more (onto_glyphs k (n / 10) (glyph n ∷ acc) more)

pub decimal_glyphs : (n : ℕ) → All IsGlyph (decimal n)
unfolding digits
decimal_glyphs n = onto_glyphs 64 n [] (All-nil IsGlyph)

pub decimal_visible : (n : ℕ) → All IsVisible (decimal n)
decimal_visible n =
    All-weaker IsGlyph IsVisible (λ byte is. let least = is.0 in (omega (arith, least), is.1)) (decimal n) (decimal_glyphs n)

abbrev IsSome : List ℕ → Type 0
IsSome bytes = 0 < length bytes

onto_some : (k n : ℕ) (acc : List ℕ) → 0 < k + length acc → IsSome (onto k n acc)
onto_some zero n acc some = omega (arith, some)
onto_some (suc k) n acc some =
    either IsSome (n / 10 == 0) (glyph n ∷ acc) (onto k (n / 10) (glyph n ∷ acc)) (omega arith)
    (onto_some k (n / 10) (glyph n ∷ acc) (omega arith))

pub decimal_some : (n : ℕ) → 0 < length (decimal n)
unfolding digits
decimal_some n = onto_some 64 n [] (omega arith)

-- ---- by many, where it is very large
onto_long : (k n : ℕ) (acc : List ℕ) → 10 ^ k ≤ n → length (onto k n acc) ≡ k + length acc
onto_long zero n acc large = omega arith
onto_long (suc k) n acc large =
    let many = pow-suc 10 k in by (n / 10 == 0) refl (onto_long k (n / 10) (glyph n ∷ acc) (omega (arith, many, large)))
  where
    by : (b : Bool) → (n / 10 == 0) ≡ b → length (onto k (n / 10) (glyph n ∷ acc)) ≡ k + length (glyph n ∷ acc)
        → length (cond b (glyph n ∷ acc) (onto k (n / 10) (glyph n ∷ acc))) ≡ suc k + length acc
    by true is more =
        let none = eqb-true (n / 10) 0 is in
        let many = pow-suc 10 k in
        let some = one-le-pow k 10 (omega arith) in
        absurd (omega (arith, none, many, some, large))
    by false is more = omega (arith, more)

decimal_long : (n : ℕ) → 10 ^ 64 ≤ n → length (decimal n) ≡ 64
unfolding digits
decimal_long n large = onto_long 64 n [] large

-- ---- so it is read as no other
pub same_number : (n other : ℕ) → other < 2 ^ 64 → decimal n ≡ decimal other → n ≡ other
same_number n other small same = by (nat_lt n (10 ^ 64)) refl
  where
    by : (b : Bool) → nat_lt n (10 ^ 64) ≡ b → n ≡ other
    by true is =
        sym (decimal_is_IsNumeral_wide n (ltb-true n (10 ^ 64) is)).1 ∙ ap (digits_value 10) same
        ∙ (decimal_is_IsNumeral_wide other (omega (arith, small))).1
    by false is =
        let long = decimal_long n (ltb-false n (10 ^ 64) is) in
        let short = length-decimal-le_wide 20 other (omega arith) (omega (arith, small)) (omega (arith, small)) in
        let equal = ap length same in
        absurd (omega (arith, long, short, equal))

pub number_said : (number : ℕ) → IsSaid (number_word (decimal number)) number
number_said number = by (number_word (decimal number)) refl
  where
    by : (read : Result ℕ ℕ) → number_word (decimal number) ≡ read → IsSaid read number
    by (Ok other) reads =
        sym (same_number number other (number_told (decimal number) other reads) (number_gave (decimal number) other reads))
    by (Err fault) reads = tt
