-- No two entries of a node in a world's dump are of one grain: each hash is in one piece at most, and a table has one entry a
-- grain.
use Rattle.std.proofs.Common.{arith, ◌≡◌, ◌≢◌, ℕ, ◌≤◌, List, [], ◌∷◌, map, refl, sym, subst}
use Rattle.std.specs.Prelude.{Bool, true, false, flat_map, All, AllPairs, Some}
use Rattle.std.proofs.lemmas.List.Elements.{All-nil, All-head, All-tail, All-weaker, All-append, All-map}
use Rattle.silo_address.specs.Silo.{Silo}
use Rattle.silo_address.specs.Grain.{Grain}
use Rattle.silo_address.specs.declared.Entry.{Entry}
use Rattle.ring_range.specs.Range.{IsRange, holds}
use Rattle.directory_rules.specs.Table.{entries_of}
use Rattle.directory_rules.specs.State.{Piece, Node, World}
use Rattle.directory_rules.specs.Happens.{node_of}
use Rattle.directory_headline.proofs.Facts.{IsPiece, WorldFacts}
use Rattle.directory_facts.proofs.OwnPieces.{holding, counted}
use Rattle.directory_headline.proofs.HighHashes.{held_once}
use Rattle.directory_headline.proofs.TableEntries.{each_once}
use Rattle.dump_rules.specs.Dump.{dump_piece, dump_node}
use Rattle.dump_rules.specs.Verdict.{node_entries}
use Rattle.dump_rules.proofs.Contained.{no_pairs}
use Rattle.dump_headline.proofs.Listed.{pairs_append}

abbrev Apart : Entry → Entry → Type 0
Apart entry later = entry.grain ≢ later.grain

module _ (hash : Grain → ℕ) where
  -- as the dump lists them
  abbrev entries_in : List (ℕ × Piece) → List Entry
  entries_in pieces = flat_map (λ piece. piece.entries) (map (λ e. dump_piece e.1) pieces)

  abbrev ArePieces : List (ℕ × Piece) → Type 0
  ArePieces pieces = All (λ e. IsPiece hash e.1) pieces

  -- entries lie in their pieces
  abbrev IsCounted : List (ℕ × Piece) → Entry → Type 0
  IsCounted pieces entry = 1 ≤ holding (hash entry.grain) pieces

  its_own : (e : ℕ × Piece) → IsPiece hash e.1 → All (λ x. holds e.1.range (hash x.grain) ≡ true) (entries_of e.1.entries)
  its_own e is = All-map (λ x. holds e.1.range (hash x.grain) ≡ true) (λ (x : Grain × Entry). x.1) e.1.entries is.inside

  are_counted : (pieces : List (ℕ × Piece)) → ArePieces pieces → All (IsCounted pieces) (entries_in pieces)
  are_counted [] are = All-nil (IsCounted [])
  are_counted (e ∷ es) are =
      All-append (IsCounted (e ∷ es)) (entries_of e.1.entries) (entries_in es)
      (All-weaker (λ x. holds e.1.range (hash x.grain) ≡ true) (IsCounted (e ∷ es))
      (λ x held. let all = counted (hash x.grain) e es true held in omega (all, arith))
      (entries_of e.1.entries) (its_own e (All-head (λ x. IsPiece hash x.1) e es are)))
      (All-weaker (IsCounted es) (IsCounted (e ∷ es)) (λ x some. more x some (holds e.1.range (hash x.grain)) refl) (entries_in es)
      (are_counted es (All-tail (λ x. IsPiece hash x.1) e es are)))
    where
      more : (x : Entry) → IsCounted es x → (b : Bool) → holds e.1.range (hash x.grain) ≡ b → IsCounted (e ∷ es) x
      more x some true held = let all = counted (hash x.grain) e es true held in omega (all, arith)
      more x some false held = let all = counted (hash x.grain) e es false held in omega (all, some, arith)

  singles : (pieces : List (ℕ × Piece)) → ArePieces pieces → ((h : ℕ) → holding h pieces ≤ 1) → AllPairs Apart (entries_in pieces)
  singles [] are once = no_pairs Apart
  singles (e ∷ es) are once =
      let is = All-head (λ (x : ℕ × Piece). IsPiece hash x.1) e es are in
      let later = All-tail (λ (x : ℕ × Piece). IsPiece hash x.1) e es are in
      pairs_append Apart (entries_of e.1.entries) (entries_in es) (each_once e.1.entries is.table)
      (singles es later (λ h. fewer h (holds e.1.range h) refl))
      (All-weaker (λ x. holds e.1.range (hash x.grain) ≡ true) (λ x. All (Apart x) (entries_in es))
      (λ x held. All-weaker (IsCounted es) (Apart x)
      (λ y some same.
      let all = counted (hash x.grain) e es true held in
      let one = once (hash x.grain) in
      let other : 1 ≤ holding (hash x.grain) es = subst (λ g. 1 ≤ holding (hash g) es) (sym same) some in
      absurd (omega (all, one, other, arith)))
      (entries_in es) (are_counted es later))
      (entries_of e.1.entries) (its_own e is))
    where
      fewer : (h : ℕ) (b : Bool) → holds e.1.range h ≡ b → holding h es ≤ 1
      fewer h true held = let all = counted h e es true held in let one = once h in omega (all, one, arith)
      fewer h false held = let all = counted h e es false held in let one = once h in omega (all, one, arith)

pub one_entry : (hash : Grain → ℕ) (f : World) → WorldFacts hash f → (silo : Silo) (node : Node) → node_of f silo ≡ Some node
    → AllPairs Apart (node_entries (dump_node silo node))
one_entry hash f facts silo node there =
    let is = facts.nodes silo node there in
    singles hash node.holding.pieces is.pieces.each
    (held_once node.ring.points node.host.silo node.holding.pieces is.once
    (All-weaker (λ (e : ℕ × Piece). IsPiece hash e.1) (λ (e : ℕ × Piece). IsRange e.1.range) (λ e its. its.range) node.holding.pieces
    is.pieces.each))
