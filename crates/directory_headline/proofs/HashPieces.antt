-- The entries of a hash are those of the piece that has it, where each hash is in one piece at most.
use Rattle.std.proofs.Common.{arith, ◌≡◌, ℕ, ◌≤◌, List, [], ◌∷◌, ◌++◌, refl, sym, ap, ◌∙◌}
use Rattle.std.specs.Prelude.{◌==◌, Bool, true, false, cond, All, Some, find, filter, flat_map}
use Rattle.std.specs.Option.{option_map}
use Rattle.std.proofs.lemmas.Bool.{eqb-true}
use Rattle.std.proofs.lemmas.List.Elements.{All-head, All-tail, filter-append}
use Rattle.silo_address.specs.Grain.{Grain}
use Rattle.silo_address.specs.declared.Entry.{Entry}
use Rattle.ring_range.specs.Range.{Range, holds}
use Rattle.directory_rules.specs.State.{Table, Piece}
use Rattle.directory_rules.specs.Table.{entries_of}
use Rattle.directory_rules.specs.Answer.{piece_with}
use Rattle.directory_rules.proofs.Cases.{on_bool}
use Rattle.directory_headline.proofs.Facts.{IsPiece}
use Rattle.directory_facts.proofs.OwnPieces.{holding, counted, found_counted}

-- a piece that has one hash and holds another has that one too
pub one_piece : (h k : ℕ) (pieces : List (ℕ × Piece)) (piece : Piece) → holding k pieces ≤ 1 → piece_with h pieces ≡ Some piece
    → holds piece.range k ≡ true → piece_with k pieces ≡ Some piece
one_piece h k [] piece once found held = absurd (cc (found))
one_piece h k (e ∷ es) piece once found held =
    at (holds e.1.range h) found (holds e.1.range k) refl (λ later few. one_piece h k es piece few later held)
  where
    at : (b : Bool) → option_map (λ x. x.1) (cond b (Some e) (find (λ x. holds x.1.range h) es)) ≡ Some piece → (c : Bool)
        → holds e.1.range k ≡ c
        → (piece_with h es ≡ Some piece → holding k es ≤ 1 → piece_with k es ≡ Some piece)
        → option_map (λ x. x.1) (cond (holds e.1.range k) (Some e) (find (λ x. holds x.1.range k) es)) ≡ Some piece
    at true here c is rest =
        let same : e.1 ≡ piece = cc (here) in
        ap (λ b. option_map (λ x. x.1) (cond b (Some e) (find (λ x. holds x.1.range k) es)))
        (ap (λ (p : Piece). holds p.range k) same ∙ held) ∙ ap Some same
    at false there true is rest =
        let all = counted k e es true is in
        let few : holding k es ≤ 1 = omega (all, once, arith) in
        let more = found_counted k es piece (rest there few) in
        absurd (omega (all, once, more, arith))
    at false there false is rest =
        let all = counted k e es false is in
        ap (λ b. option_map (λ x. x.1) (cond b (Some e) (find (λ x. holds x.1.range k) es))) is ∙ rest there (omega (all, once, arith))

module _ (hashed : Grain → ℕ) (h : ℕ) where
  abbrev pub is_hashed_so : Entry → Bool
  is_hashed_so e = hashed e.grain == h

  abbrev all_of : List (ℕ × Piece) → List Entry
  all_of pieces = flat_map (λ p. entries_of p.1.entries) pieces

  -- a piece that doesn't hold the hash has no entry of it
  no_entry : (range : Range) (table : Table) → All (λ e. holds range (hashed e.1.grain) ≡ true) table → holds range h ≡ false
      → filter is_hashed_so (entries_of table) ≡ []
  no_entry range [] inside apart = refl
  no_entry range (e ∷ es) inside apart =
      let later = no_entry range es (All-tail (λ (x : Grain × Entry). holds range (hashed x.1.grain) ≡ true) e es inside) apart in
      on_bool (λ b. is_hashed_so e.1 ≡ b → cond b (e.1 ∷ filter is_hashed_so (entries_of es)) (filter is_hashed_so (entries_of es)) ≡ [])
      (is_hashed_so e.1)
      (λ t is.
      let same = eqb-true (hashed e.1.grain) h is in
      let held = All-head (λ (x : Grain × Entry). holds range (hashed x.1.grain) ≡ true) e es inside in
      let lies : holds range h ≡ true = ap (holds range) (sym same) ∙ held in
      absurd (cc (sym lies ∙ apart)))
      (λ f is. later) refl

  no_pieces : (pieces : List (ℕ × Piece)) → All (λ e. IsPiece hashed e.1) pieces → holding h pieces ≡ 0
      → filter is_hashed_so (all_of pieces) ≡ []
  no_pieces [] each none = refl
  no_pieces (e ∷ es) each none =
      let later = λ (few : holding h es ≡ 0). no_pieces es (All-tail (λ x. IsPiece hashed x.1) e es each) few in
      on_bool (λ b. holds e.1.range h ≡ b → filter is_hashed_so (all_of (e ∷ es)) ≡ []) (holds e.1.range h)
      (λ t is. let all = counted h e es true is in absurd (omega (all, none, arith)))
      (λ f is.
      let all = counted h e es false is in
      filter-append is_hashed_so (entries_of e.1.entries) (all_of es)
      ∙ ap (λ l. l ++ filter is_hashed_so (all_of es))
      (no_entry e.1.range e.1.entries (All-head (λ x. IsPiece hashed x.1) e es each).inside is)
      ∙ later (omega (all, none, arith))) refl

  append_nothing : (xs : List Entry) → xs ++ [] ≡ xs
  append_nothing [] = refl
  append_nothing (x ∷ xs) = ap (λ l. x ∷ l) (append_nothing xs)

  pub only_piece : (pieces : List (ℕ × Piece)) (piece : Piece) → All (λ e. IsPiece hashed e.1) pieces → holding h pieces ≤ 1
      → piece_with h pieces ≡ Some piece
      → filter is_hashed_so (all_of pieces) ≡ filter is_hashed_so (entries_of piece.entries)
  only_piece [] piece each once found = absurd (cc (found))
  only_piece (e ∷ es) piece each once found =
      at (holds e.1.range h) refl found (λ few later. only_piece es piece (All-tail (λ x. IsPiece hashed x.1) e es each) few later)
    where
      at : (b : Bool) → holds e.1.range h ≡ b → option_map (λ x. x.1) (cond b (Some e) (find (λ x. holds x.1.range h) es)) ≡ Some piece
          → (holding h es ≤ 1 → piece_with h es ≡ Some piece
          → filter is_hashed_so (all_of es) ≡ filter is_hashed_so (entries_of piece.entries))
          → filter is_hashed_so (all_of (e ∷ es)) ≡ filter is_hashed_so (entries_of piece.entries)
      at true held here rest =
          let same : e.1 ≡ piece = cc (here) in
          let all = counted h e es true held in
          filter-append is_hashed_so (entries_of e.1.entries) (all_of es)
          ∙ ap (λ l. filter is_hashed_so (entries_of e.1.entries) ++ l)
          (no_pieces es (All-tail (λ x. IsPiece hashed x.1) e es each) (omega (all, once, arith)))
          ∙ append_nothing (filter is_hashed_so (entries_of e.1.entries))
          ∙ ap (λ (p : Piece). filter is_hashed_so (entries_of p.entries)) same
      at false apart there rest =
          let all = counted h e es false apart in
          filter-append is_hashed_so (entries_of e.1.entries) (all_of es)
          ∙ ap (λ l. l ++ filter is_hashed_so (all_of es))
          (no_entry e.1.range e.1.entries (All-head (λ x. IsPiece hashed x.1) e es each).inside apart)
          ∙ rest (omega (all, once, arith)) there

  -- a hash that no grain has, has no entries
  pub unhashed : (entries : List Entry) → ((e : Entry) → is_hashed_so e ≡ false) → filter is_hashed_so entries ≡ []
  unhashed [] none = refl
  unhashed (e ∷ es) none = ap (λ b. cond b (e ∷ filter is_hashed_so es) (filter is_hashed_so es)) (none e) ∙ unhashed es none
