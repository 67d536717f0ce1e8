-- The pieces of a dump's node are what its silo owns by its ring, and entries lie in their pieces.
use Rattle.std.proofs.Common.{◌≡◌, ℕ, ◌+◌, List, [], ◌∷◌, map, refl, sym, ap, ◌∙◌}
use Rattle.std.specs.Prelude.{cond, count_by, if◌then◌else◌, All, Option, Some, None}
use Rattle.std.specs.Option.{option_map}
use Rattle.std.proofs.lemmas.List.Elements.{All-map, All-weaker}
use Rattle.std.proofs.lemmas.List.Sums.{sum_by-cons}
use Rattle.silo_address.specs.Silo.{Silo}
use Rattle.silo_address.specs.Grain.{Grain}
use Rattle.silo_address.specs.declared.Entry.{Entry}
use Rattle.ring_range.specs.Range.{holds}
use Rattle.hash_ring.specs.declared.point.Point.{Point}
use Rattle.hash_ring.specs.Hash.{hash_grain}
use Rattle.hash_ring.specs.Owner.{owner_of, is_of_silo}
use Rattle.range_moves.specs.Arcs.{owner_silo}
use Rattle.directory_rules.specs.State.{Piece, Node, World}
use Rattle.directory_rules.specs.Sight.{is_owner}
use Rattle.directory_rules.specs.Happens.{node_of}
use Rattle.directory_headline.proofs.Facts.{IsPiece, NodeFacts, WorldFacts}
use Rattle.dump_rules.specs.Dump.{dump_piece, dump_node, dump_of}
use Rattle.dump_rules.specs.Verdict.{HasItsRanges}
use Rattle.dump_rules.specs.RightDump.{IsHashedInto}

-- as many of the dump's pieces hold a hash as of the node's
as_many : (hash : ℕ) (pieces : List (ℕ × Piece)) → count_by (λ piece. holds piece.range hash) (map (λ e. dump_piece e.1) pieces) ≡ count_by
    (λ e. holds e.1.range hash) pieces
as_many hash [] = refl
as_many hash (e ∷ es) =
    sum_by-cons (λ piece. cond (holds piece.range hash) 1 0) (dump_piece e.1) (map (λ (x : ℕ × Piece). dump_piece x.1) es)
    ∙ ap (λ n. cond (holds e.1.range hash) 1 0 + n) (as_many hash es)
    ∙ sym (sum_by-cons (λ (x : ℕ × Piece). cond (holds x.1.range hash) 1 0) e es)

owner_is : (silo : Silo) (owner : Option Point) → is_owner silo (option_map (λ p. p.silo) owner) ≡ is_of_silo silo owner
owner_is silo None = refl
owner_is silo (Some point) = refl

module _ (hash : Grain → ℕ) (f : World) (facts : WorldFacts hash f) (silo : Silo) (node : Node) (there : node_of f silo ≡ Some node) where
  is : NodeFacts hash f silo node
  is = facts.nodes silo node there

  pub has_its_ranges : HasItsRanges (dump_node silo node)
  has_its_ranges h below =
      as_many h node.holding.pieces ∙ is.once h below
      ∙ ap (λ b. if b then 1 else 0) (ap (λ s. is_owner s (owner_silo node.ring.points h)) is.own.host_is
      ∙ owner_is silo (owner_of node.ring.points h))

-- the entries of the dump's pieces are hashed into them
pub entries_inside : (f : World) → WorldFacts (hash_grain f.settings.hashing) f → (silo : Silo) (node : Node) → node_of f silo ≡ Some node
    → All (λ piece. All (IsHashedInto (dump_of f) piece) piece.entries) (dump_node silo node).pieces
unfolding dump_of
entries_inside f facts silo node there =
    All-map (λ piece. All (IsHashedInto (dump_of f) piece) piece.entries) (λ (e : ℕ × Piece). dump_piece e.1) node.holding.pieces
    (All-weaker (λ (e : ℕ × Piece). IsPiece (hash_grain f.settings.hashing) e.1)
    (λ (e : ℕ × Piece). All (IsHashedInto (dump_of f) (dump_piece e.1)) (dump_piece e.1).entries)
    (λ e is. All-map (IsHashedInto (dump_of f) (dump_piece e.1)) (λ (x : Grain × Entry). x.1) e.1.entries is.inside)
    node.holding.pieces (facts.nodes silo node there).pieces.each)
