-- The places of a join, read word by word.
use Rattle.std.proofs.Common.{◌≡◌, ap, ◌∙◌, sym, refl, ℕ, Result, Ok, Err, List, [], ◌∷◌, ◌++◌, append_assoc}
use Rattle.std.specs.Prelude.{IsOk}
use Rattle.script_rules.specs.Script.{hash_word, places_in, ◌>>=◌}
use Rattle.script_lines.specs.declared.error.ReadError.{ReadError}
use Rattle.script_lines.specs.declared.error.ReadError.TheVariants.{Fault, OutOfMemory}
use Rattle.script_lines.specs.ReadAs.{Fails, HasPlaces}

-- what is read with these places in front
abbrev pub onto : List ℕ → Result (List ℕ) ℕ → Result (List ℕ) ℕ
onto before (Ok places) = Ok (before ++ places)
onto before (Err fault) = Err fault

onto_nil : (read : Result (List ℕ) ℕ) → onto [] read ≡ read
onto_nil (Ok places) = refl
onto_nil (Err fault) = refl

onto_more : (before : List ℕ) (place : ℕ) (read : Result (List ℕ) ℕ)
    → onto before (read >>= λ places. Ok (place ∷ places)) ≡ onto (before ++ place ∷ []) read
onto_more before place (Ok places) = ap Ok (sym (append_assoc before (place ∷ []) places))
onto_more before place (Err fault) = refl

-- a word that is a place
pub places_more : (before : List ℕ) (words : List (List ℕ)) (word : List ℕ) (behind : List (List ℕ)) (place : ℕ) → words ≡ word ∷ behind
    → Ok place ≡ hash_word word
    → onto before (places_in words) ≡ onto (before ++ place ∷ []) (places_in behind)
places_more before words word behind place split reads =
    ap (λ (ws : List (List ℕ)). onto before (places_in ws)) split
    ∙ ap (λ (read : Result ℕ ℕ). onto before (read >>= λ p. places_in behind >>= λ places. Ok (p ∷ places))) (sym reads)
    ∙ onto_more before place (places_in behind)

-- the words behind decide where the reading of all fails
pub fails_behind : (error : ReadError) (before : List ℕ) (read : Result (List ℕ) ℕ) → Fails error read → Fails error (onto before read)
fails_behind (Fault fault) before read fails = ap (onto before) fails
fails_behind OutOfMemory before (Ok places) fails = fails
fails_behind OutOfMemory before (Err fault) fails = fails

-- where those behind a place are places, there are some
pub has_places : (before : List ℕ) (place : ℕ) (read : Result (List ℕ) ℕ) → IsOk read → HasPlaces (onto (before ++ place ∷ []) read)
has_places [] place (Ok places) ok = tt
has_places (first ∷ before) place (Ok places) ok = tt
has_places before place (Err fault) ok = cc ok
