-- The pieces of bytes that a mark cuts: the first, up to the first mark, and the others behind it.
use Rattle.std.proofs.Common.{◌==◌, ◌≡◌, ◌≢◌, true, false, ap, refl, ◌∙◌, ℕ, ◌<◌, zero, suc, Bool, List, [], ◌∷◌, ◌++◌, length, get_or, take, drop, arith}
use Rattle.std.specs.List.{onto_first}
use Rattle.std.proofs.lemmas.Bool.{eq-eqb, ne_eqb}
use Rattle.texts.specs.Words.{pieces_at, with_byte}

-- with a mark in front a new piece begins
pub pieces_at-mark : (mark byte : ℕ) (bytes : List ℕ) → byte ≡ mark → pieces_at mark (byte ∷ bytes) ≡ [] ∷ pieces_at mark bytes
pieces_at-mark mark byte bytes is = ap (λ (b : Bool). with_byte b byte (pieces_at mark bytes)) (eq-eqb byte mark is)

-- another byte goes to the first piece
pub pieces_at-other : (mark byte : ℕ) (bytes : List ℕ) → byte ≢ mark
    → pieces_at mark (byte ∷ bytes) ≡ onto_first byte (pieces_at mark bytes)
pieces_at-other mark byte bytes differs = ap (λ (b : Bool). with_byte b byte (pieces_at mark bytes)) (ne_eqb byte mark differs)

-- bytes without a mark are one piece
pub pieces_at-whole : (mark : ℕ) (bytes : List ℕ) → ((k : ℕ) → k < length bytes → get_or bytes k 0 ≢ mark)
    → pieces_at mark bytes ≡ bytes ∷ []
pieces_at-whole mark [] others = refl
pieces_at-whole mark (byte ∷ bytes) others =
    pieces_at-other mark byte bytes (others 0 (omega arith))
    ∙ ap (onto_first byte) (pieces_at-whole mark bytes (λ k below. others (suc k) (omega arith)))

-- bytes with their first mark at n, whatever comes behind them
pub pieces_at-cut : (mark n : ℕ) (bytes more : List ℕ) → n < length bytes → ((k : ℕ) → k < n → get_or bytes k 0 ≢ mark)
    → get_or bytes n 0 ≡ mark
    → pieces_at mark (bytes ++ more) ≡ take n bytes ∷ pieces_at mark (drop (suc n) bytes ++ more)
pieces_at-cut mark n [] more within others is = absurd (omega arith)
pieces_at-cut mark zero (byte ∷ bytes) more within others is = pieces_at-mark mark byte (bytes ++ more) is
pieces_at-cut mark (suc n) (byte ∷ bytes) more within others is =
    pieces_at-other mark byte (bytes ++ more) (others 0 (omega arith))
    ∙ ap (onto_first byte) (pieces_at-cut mark n bytes more (omega arith) (λ k below. others (suc k) (omega arith)) is)

-- there is a first piece
pub pieces_at-some : (mark : ℕ) (bytes : List ℕ) → (first : List ℕ) × (others : List (List ℕ)) × (pieces_at mark bytes ≡ first ∷ others)
pieces_at-some mark [] = ([], [], refl)
pieces_at-some mark (byte ∷ bytes) =
    let behind = pieces_at-some mark bytes in
    elim (byte == mark) as (λ (b : Bool). (first : List ℕ) × (others : List (List ℕ)) ×
    (with_byte b byte (pieces_at mark bytes) ≡ first ∷ others)) [
      | true ↦ ([], pieces_at mark bytes, refl)
      | false ↦ (byte ∷ behind.0, behind.1, ap (onto_first byte) behind.2)
    ]
