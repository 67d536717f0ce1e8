-- Bytes cut at their first mark, and a word that lists a silo, cut at its colons.
use Rattle.std.proofs.Common.{◌≡◌, ◌≢◌, ap, ◌∙◌, sym, ℕ, ◌+◌, ◌-◌, ◌<◌, suc, ◌==◌, List, [], ◌∷◌, ◌++◌, length, get_or, take, drop, arith, Option, Some, Err, add-one, append_assoc, append-nil, drop-cons}
use Rattle.std.proofs.Math.Seq.{take-append_seam}
use Rattle.std.proofs.lemmas.Bool.{eqb-true, eqb-false}
use Rattle.std.proofs.lemmas.List.{length-append, length-drop, take-append-drop, take_rest}
use Rattle.std.proofs.lemmas.List.Sums.{fails_before_first, passes_at_first}
use Rattle.std.specs.List.{position_or_len}
use Rattle.texts.specs.Words.{pieces_at}
use Rattle.membership_view.specs.declared.status.Status.{Status}
use Rattle.script_lines.proofs.Pieces.{pieces_at-whole, pieces_at-cut, pieces_at-some}
use Rattle.process_rules.specs.ReadLine.{colon, comma, listed_as, listed_of, listed_word, status_named}

-- ---- at the first mark
module _ (mark end : ℕ) (bytes : List ℕ) (first : end ≡ position_or_len (λ byte. byte == mark) bytes) where
  others : (k : ℕ) → k < end → get_or bytes k 0 ≢ mark
  others k below = eqb-false _ _ (fails_before_first (λ byte. byte == mark) bytes k 0 (omega arith))

  -- there is none
  pub uncut : end ≡ length bytes → pieces_at mark bytes ≡ bytes ∷ []
  uncut whole = pieces_at-whole mark bytes (λ k below. others k (omega arith))

  module _ (within : end < length bytes) where
    ends : get_or bytes end 0 ≡ mark
    ends = rw first (eqb-true _ _ (passes_at_first (λ byte. byte == mark) bytes 0 (omega arith)))

    -- what stands behind it
    abbrev behind : List ℕ
    behind = take (length bytes - (end + 1)) (drop (end + 1) bytes)

    behind_is : behind ≡ drop (suc end) bytes
    behind_is = take_rest bytes (end + 1) ∙ ap (λ n. drop n bytes) (add-one end)

    pub cut : pieces_at mark bytes ≡ take end bytes ∷ pieces_at mark behind
    cut =
        ap (pieces_at mark) (sym (append-nil bytes)) ∙ pieces_at-cut mark end bytes [] within others ends
        ∙ ap (λ (rest : List ℕ). take end bytes ∷ pieces_at mark rest) (append-nil (drop (suc end) bytes) ∙ sym behind_is)

    pub behind_shorter : length behind < length bytes
    behind_shorter =
        let long : length behind ≡ length bytes - suc end = ap length behind_is ∙ length-drop (suc end) bytes in
        omega (long, within, arith)

    pub whole_cut : bytes ≡ take end bytes ++ mark ∷ behind
    whole_cut =
        sym (take-append-drop end bytes)
        ∙ ap (λ (rest : List ℕ). take end bytes ++ rest) (drop-cons bytes end 0 within
        ∙ ap (λ (byte : ℕ). byte ∷ drop (suc end) bytes) ends ∙ ap (λ (rest : List ℕ). mark ∷ rest) (sym behind_is))

-- ---- a word that lists a silo
pub no_colon : (word : List ℕ) → pieces_at colon word ≡ word ∷ [] → listed_word word ≡ Err 933
no_colon word is = ap listed_of is

module _ (word host behind : List ℕ) (first : pieces_at colon word ≡ host ∷ pieces_at colon behind) where
  pub one_colon : pieces_at colon behind ≡ behind ∷ [] → listed_word word ≡ Err 933
  one_colon is = ap listed_of (first ∙ ap (λ (pieces : List (List ℕ)). host ∷ pieces) is)

  -- its silo ends at the second one
  pub two_colons : (port rest : List ℕ) → pieces_at colon behind ≡ port ∷ pieces_at colon rest
      → listed_word word ≡ listed_of (host ∷ port ∷ pieces_at colon rest)
  two_colons port rest is = ap listed_of (first ∙ ap (λ (pieces : List (List ℕ)). host ∷ pieces) is)

-- what stands behind that: a status
pub status_alone : (text : List ℕ) → pieces_at colon text ≡ text ∷ [] → (host port : List ℕ)
    → listed_of (host ∷ port ∷ pieces_at colon text) ≡ listed_as (status_named text) (host ++ colon ∷ port) []
status_alone text is host port = ap (λ (pieces : List (List ℕ)). listed_of (host ∷ port ∷ pieces)) is

module _ (text status places : List ℕ) (first : pieces_at colon text ≡ status ∷ pieces_at colon places) where
  -- or a status and places
  pub status_then_places : pieces_at colon places ≡ places ∷ [] → (host port : List ℕ)
      → listed_of (host ∷ port ∷ pieces_at colon text) ≡ listed_as (status_named status) (host ++ colon ∷ port) (pieces_at comma places)
  status_then_places is host port =
      ap (λ (pieces : List (List ℕ)). listed_of (host ∷ port ∷ pieces)) (first ∙ ap (λ (pieces : List (List ℕ)). status ∷ pieces) is)

  -- and nothing behind these
  pub too_many_colons : (one rest : List ℕ) → pieces_at colon places ≡ one ∷ pieces_at colon rest → (host port : List ℕ)
      → listed_of (host ∷ port ∷ pieces_at colon text) ≡ Err 933
  too_many_colons one rest is host port =
      let more = pieces_at-some colon rest in
      ap (λ (pieces : List (List ℕ)). listed_of (host ∷ port ∷ pieces))
      (first ∙ ap (λ (pieces : List (List ℕ)). status ∷ pieces) (is ∙ ap (λ (pieces : List (List ℕ)). one ∷ pieces) more.2))

-- the silo's own text, with its colon
module _ (word host behind port rest : List ℕ) (first : word ≡ host ++ colon ∷ behind) (second : behind ≡ port ++ colon ∷ rest) where
  silo_front : word ≡ (host ++ colon ∷ port) ++ colon ∷ rest
  silo_front = first ∙ ap (λ (text : List ℕ). host ++ colon ∷ text) second ∙ sym (append_assoc host (colon ∷ port) (colon ∷ rest))

  silo_long : length (host ++ colon ∷ port) ≡ length host + 1 + length port
  silo_long = let long = length-append host (colon ∷ port) in omega (long, arith)

  pub silo_text : take (length host + 1 + length port) word ≡ host ++ colon ∷ port
  silo_text =
      ap (λ (n : ℕ). take n word) (sym silo_long) ∙ ap (take (length (host ++ colon ∷ port))) silo_front
      ∙ take-append_seam (host ++ colon ∷ port) (colon ∷ rest)

-- all of it, by its pieces
pub pieces_listed : (word host port rest silo : List ℕ) (status_text : List ℕ) (status : Status) (places : List (List ℕ))
    → listed_word word ≡ listed_of (host ∷ port ∷ pieces_at colon rest)
    → ((host port : List ℕ) → listed_of (host ∷ port ∷ pieces_at colon rest) ≡ listed_as (status_named status_text) (host ++ colon ∷ port)
    places)
    → Some status ≡ status_named status_text → silo ≡ host ++ colon ∷ port → listed_word word ≡ listed_as (Some status) silo places
pieces_listed word host port rest silo status_text status places cut behind named silo_is =
    cut ∙ behind host port ∙ ap (λ (o : Option Status). listed_as o (host ++ colon ∷ port) places) (sym named)
    ∙ ap (λ (text : List ℕ). listed_as (Some status) text places) (sym silo_is)
