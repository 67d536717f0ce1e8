-- The piece of a node that holds a hash is the one that is found under it, and an entry of its table is found under its grain.
use Rattle.std.proofs.Common.{arith, ◌≡◌, ◌⊎◌, inl, inr, ℕ, ◌≤◌, List, [], ◌∷◌, refl, ap, ◌∙◌}
use Rattle.std.specs.Prelude.{Bool, true, false, cond, find, Contains, Some}
use Rattle.std.specs.Option.{option_map}
use Rattle.std.proofs.lemmas.List.Elements.{All-weaker, All-contains}
use Rattle.silo_address.specs.Silo.{Silo}
use Rattle.silo_address.specs.Grain.{Grain}
use Rattle.silo_address.specs.declared.Entry.{Entry}
use Rattle.ring_range.specs.Range.{IsRange, holds}
use Rattle.directory_rules.specs.Table.{entry_at}
use Rattle.directory_rules.specs.State.{Piece, Node, World}
use Rattle.directory_rules.specs.Answer.{piece_with}
use Rattle.directory_rules.specs.Happens.{node_of}
use Rattle.directory_headline.proofs.Facts.{IsPiece, WorldFacts}
use Rattle.directory_facts.proofs.OwnPieces.{holding, counted}
use Rattle.directory_headline.proofs.HighHashes.{held_once}
use Rattle.directory_headline.proofs.TableEntries.{found_holds}
use Rattle.dump_rules.proofs.Contained.{contains_nothing, first_or_later}

module _ (h : ℕ) where
  contained_counted : (pieces : List (ℕ × Piece)) (e : ℕ × Piece) → Contains pieces e → holds e.1.range h ≡ true → 1 ≤ holding h pieces
  contained_counted [] e c held = absurd (contains_nothing e c)
  contained_counted (x ∷ xs) e c held = at (first_or_later x e xs c) (holds x.1.range h) refl (λ later. contained_counted xs e later held)
    where
      at : (x ≡ e) ⊎ Contains xs e → (b : Bool) → holds x.1.range h ≡ b → (Contains xs e → 1 ≤ holding h xs) → 1 ≤ holding h (x ∷ xs)
      at same true is rest = let all = counted h x xs true is in omega (all, arith)
      at (inl same) false is rest = let its = ap (λ (y : ℕ × Piece). holds y.1.range h) same ∙ held in absurd (cc (is, its))
      at (inr later) false is rest = let all = counted h x xs false is in let some = rest later in omega (all, some, arith)

  contained_found : (pieces : List (ℕ × Piece)) (e : ℕ × Piece) → Contains pieces e → holds e.1.range h ≡ true → holding h pieces ≤ 1
      → piece_with h pieces ≡ Some e.1
  contained_found [] e c held once = absurd (contains_nothing e c)
  contained_found (x ∷ xs) e c held once =
      at (first_or_later x e xs c) (holds x.1.range h) refl (λ later few. contained_found xs e later held few)
    where
      at : (x ≡ e) ⊎ Contains xs e → (b : Bool) → holds x.1.range h ≡ b → (Contains xs e → holding h xs ≤ 1 → piece_with h xs ≡ Some e.1)
          → option_map (λ y. y.1) (cond (holds x.1.range h) (Some x) (find (λ y. holds y.1.range h) xs)) ≡ Some e.1
      at (inl same) b is rest =
          ap (λ c. option_map (λ y. y.1) (cond c (Some x) (find (λ y. holds y.1.range h) xs)))
          (ap (λ (y : ℕ × Piece). holds y.1.range h) same ∙ held) ∙ ap (λ (y : ℕ × Piece). Some y.1) same
      at (inr later) true is rest =
          let all = counted h x xs true is in
          let more = contained_counted xs e later held in
          absurd (omega (all, more, once, arith))
      at (inr later) false is rest =
          let all = counted h x xs false is in
          ap (λ c. option_map (λ y. y.1) (cond c (Some x) (find (λ y. holds y.1.range h) xs))) is ∙ rest later (omega (all, once, arith))

module _ (hash : Grain → ℕ) (f : World) (facts : WorldFacts hash f) (silo : Silo) (node : Node) (there : node_of f silo ≡ Some node)
    (e : ℕ × Piece) (among : Contains node.holding.pieces e) where
  pub piece_is : IsPiece hash e.1
  piece_is = All-contains (λ (x : ℕ × Piece). IsPiece hash x.1) node.holding.pieces e (facts.nodes silo node there).pieces.each among

  pub piece_found : (h : ℕ) → holds e.1.range h ≡ true → piece_with h node.holding.pieces ≡ Some e.1
  piece_found h held =
      let is = facts.nodes silo node there in
      contained_found h node.holding.pieces e among held
      (held_once node.ring.points node.host.silo node.holding.pieces is.once
      (All-weaker (λ (x : ℕ × Piece). IsPiece hash x.1) (λ (x : ℕ × Piece). IsRange x.1.range) (λ x its. its.range) node.holding.pieces
      is.pieces.each) h)

  -- under the hash of an entry's grain
  pub entry_inside : (entry : Entry) → entry_at entry.grain e.1.entries ≡ Some entry → holds e.1.range (hash entry.grain) ≡ true
  entry_inside entry found =
      found_holds (λ (x : Grain × Entry). holds e.1.range (hash x.1.grain) ≡ true) entry.grain e.1.entries entry piece_is.inside found
