-- Bytes cut at their line feeds: more bytes behind them, and where the first line feed was found.
use Rattle.std.proofs.Common.{◌≡◌, ◌+◌, ◌-◌, ◌<◌, ◌≤◌, ◌∙◌, ◌==◌, ℕ, suc, Bool, true, false, List, [], ◌∷◌, ◌++◌, length, take, drop, Option, None, Some, ap, arith, refl, subst, sym, take-append-drop}
use Rattle.std.proofs.lemmas.Bool.{eq-eqb, eqb-true}
use Rattle.std.proofs.lemmas.List.{drop-drop, get_or-take, length-append, length-take}
use Rattle.std.proofs.Math.Seq.{drop-append-add, drop-cons, take-add, take-append-add}
use Rattle.memchr.specs.Find.{IsFirstByte, is_byte}
use Rattle.texts.specs.Words.{line_feed, pieces_at, with_byte}
use Rattle.script_lines.proofs.Pieces.{pieces_at-some, pieces_at-whole}
use Rattle.line_loop.specs.Pieces.{IsEndedAfter, IsOnePiece}

-- ---- Bytes behind bytes.

-- there is a first piece
pub first_piece : (bytes : List ℕ) → (first : List ℕ) × (others : List (List ℕ)) × (pieces_at line_feed bytes ≡ first ∷ others)
first_piece bytes = pieces_at-some line_feed bytes

-- the last piece goes on with another one, and others stand behind it
joined : (pieces : List (List ℕ)) → (first : List ℕ) → (others : List (List ℕ)) → List (List ℕ)
joined [] first others = first ∷ others
joined (last ∷ []) first others = (last ++ first) ∷ others
joined (line ∷ next ∷ pieces) first others = line ∷ joined (next ∷ pieces) first others

joined-with_byte : (mark : Bool) (byte : ℕ) (front : List ℕ) (pieces : List (List ℕ)) (first : List ℕ) (others : List (List ℕ))
    → with_byte mark byte (joined (front ∷ pieces) first others) ≡ joined (with_byte mark byte (front ∷ pieces)) first others
unfolding joined
joined-with_byte true byte front pieces first others = refl
joined-with_byte false byte front [] first others = refl
joined-with_byte false byte front (next ∷ pieces) first others = refl

pieces_at-append : (front back first : List ℕ) (others : List (List ℕ)) → pieces_at line_feed back ≡ first ∷ others
    → pieces_at line_feed (front ++ back) ≡ joined (pieces_at line_feed front) first others
unfolding joined
pieces_at-append [] back first others is = is
pieces_at-append (byte ∷ front) back first others is =
    let cut = first_piece front in
    ap (with_byte (byte == line_feed) byte) (pieces_at-append front back first others is
    ∙ ap (λ (ps : List (List ℕ)). joined ps first others) cut.2)
    ∙ (joined-with_byte (byte == line_feed) byte cut.0 cut.1 first others
    ∙ ap (λ (ps : List (List ℕ)). joined (with_byte (byte == line_feed) byte ps) first others) (sym cut.2))

joined-last : (lines : List (List ℕ)) (begun first : List ℕ) (others : List (List ℕ))
    → joined (lines ++ begun ∷ []) first others ≡ lines ++ (begun ++ first) ∷ others
unfolding joined
joined-last [] begun first others = refl
joined-last (line ∷ []) begun first others = refl
joined-last (line ∷ next ∷ lines) begun first others =
    ap (λ (ls : List (List ℕ)). line ∷ ls) (joined-last (next ∷ lines) begun first others)

-- the line that bytes begin goes on with the first piece of those behind them
pub goes_on_behind : (front back : List ℕ) (lines : List (List ℕ)) (begun first : List ℕ) (others : List (List ℕ))
    → pieces_at line_feed front ≡ lines ++ begun ∷ []
    → pieces_at line_feed back ≡ first ∷ others → pieces_at line_feed (front ++ back) ≡ lines ++ (begun ++ first) ∷ others
goes_on_behind front back lines begun first others cut is =
    pieces_at-append front back first others is ∙ (ap (λ (ps : List (List ℕ)). joined ps first others) cut
    ∙ joined-last lines begun first others)

-- the pieces of what was seen, and of some bytes behind it
pub pieces_behind : (seen back line : List ℕ) (lines : List (List ℕ)) (begun : List ℕ) (others : List (List ℕ))
    → pieces_at line_feed seen ≡ lines ++ begun ∷ [] → begun ≡ [] → pieces_at line_feed back ≡ line ∷ others
    → pieces_at line_feed (seen ++ back) ≡ lines ++ line ∷ others
pieces_behind seen back line lines begun others cut none is =
    goes_on_behind seen back lines begun line others cut is ∙ ap (λ (b : List ℕ). lines ++ (b ++ line) ∷ others) none

-- two pieces in a row are one
pub one_behind : (front back : List ℕ) → IsOnePiece front → IsOnePiece back → IsOnePiece (front ++ back)
one_behind front back one other = goes_on_behind front back [] front back [] one other

-- a line feed behind a piece ends it
pub ended_piece : (line rest first : List ℕ) (others : List (List ℕ)) → IsOnePiece line → pieces_at line_feed rest ≡ first ∷ others
    → pieces_at line_feed (line ++ line_feed ∷ rest) ≡ (line ++ []) ∷ first ∷ others
ended_piece line rest first others one is =
    goes_on_behind line (line_feed ∷ rest) [] line [] (first ∷ others) one (ap (λ (ps : List (List ℕ)). [] ∷ ps) is)

-- ---- Where the first line feed is found.

-- by a search
pub found_there : (bytes : List ℕ) (found : Option ℕ) → IsFirstByte (is_byte line_feed) bytes found → IsEndedAfter bytes found
found_there bytes None none = pieces_at-whole line_feed bytes (λ k below is. none k (omega arith) below (eq-eqb _ _ is))
found_there bytes (Some count) found = (
  found.0.high,
  pieces_at-whole line_feed (take count bytes) (λ k below is.
      let within : k < count = omega (arith, length-take count bytes) in
      found.0.before k (omega arith) within (eq-eqb _ _ (sym (get_or-take count bytes k 0 within) ∙ is))),
  drop-cons bytes count 0 found.0.high ∙ ap (λ (b : ℕ). b ∷ drop (suc count) bytes) (eqb-true _ _ found.1),
)

-- behind a piece that was searched before
pub found_behind : (front bytes : List ℕ) (count place : ℕ) → IsOnePiece front → place ≡ length front + count
    → IsEndedAfter bytes (Some count) → IsEndedAfter (front ++ bytes) (Some place)
found_behind front bytes count place one is found =
    let next : length front + suc count ≡ suc (length front + count) = omega arith in
    subst (λ (n : ℕ). IsEndedAfter (front ++ bytes) (Some n)) (sym is) (
      omega (arith, length-append front bytes, found.0),
      subst IsOnePiece (sym (take-append-add front bytes count)) (one_behind front (take count bytes) one found.1),
      drop-append-add front bytes count ∙ (found.2 ∙ ap (λ (bs : List ℕ). line_feed ∷ bs)
          (sym (drop-append-add front bytes (suc count)) ∙ ap (λ (n : ℕ). drop n (front ++ bytes)) next)),
    )

-- what is held is what was searched, and what wasn't
pub held_parts : (bytes : List ℕ) (start searched end : ℕ) → start ≤ searched → searched ≤ end
    → take (end - start) (drop start bytes) ≡ take (searched - start) (drop start bytes) ++ take (end - searched) (drop searched bytes)
held_parts bytes start searched end begun within =
    let parts : end - start ≡ (searched - start) + (end - searched) = omega arith in
    let place : start + (searched - start) ≡ searched = omega arith in
    ap (λ (n : ℕ). take n (drop start bytes)) parts
    ∙ (take-add (searched - start) (end - searched) (drop start bytes)
    ∙ ap (λ (bs : List ℕ). take (searched - start) (drop start bytes) ++ take (end - searched) bs)
    (drop-drop (searched - start) start bytes ∙ ap (λ (n : ℕ). drop n bytes) place))

-- what is held, cut behind a line feed
pub cut_held : (held : List ℕ) (count : ℕ) → IsEndedAfter held (Some count) → held ≡ take count held ++ line_feed ∷ drop (suc count) held
cut_held held count found = sym (take-append-drop count held) ∙ ap (λ (bs : List ℕ). take count held ++ bs) found.2
