-- In a world that events have made each entry of a silo's pieces is hashed into the range of its piece.
use Rattle.std.proofs.Common.{◌≡◌, refl, sym, ap, ◌∙◌, ℕ, List, [], ◌∷◌, true}
use Rattle.std.specs.Prelude.{Option, Some, None, All, IfSome}
use Rattle.std.proofs.lemmas.List.Elements.{All-head, All-tail}
use Rattle.std.proofs.lemmas.Bool.{and_from}
use Rattle.silo_address.specs.Silo.{Silo}
use Rattle.silo_address.specs.Grain.{Grain}
use Rattle.silo_address.specs.declared.Entry.{Entry}
use Rattle.ring_range.specs.Range.{Range, holds}
use Rattle.hash_ring.specs.declared.Hashing.{Hashing}
use Rattle.hash_ring.specs.Hash.{hash_grain}
use Rattle.directory_rules.specs.Happens.{node_of}
use Rattle.directory_rules.specs.State.{Node, Piece, Table, World}
use Rattle.directory_rules.specs.Table.{entries_of, lie_in}
use Rattle.directory_facts.proofs.Lawful.{events_name_hashes, pieces_are_owned}
use Rattle.grain_partition.specs.Holdings.{are_tidy}
use Rattle.directory_core.specs.Whole.{IsWorld}

module _ (hashing : Hashing) where
  -- entries that are placed in a range lie there
  placed_lie : (range : Range) (table : Table) → All (λ x. holds range (hash_grain hashing x.1.grain) ≡ true) table
      → lie_in hashing range (entries_of table) ≡ true
  placed_lie range [] placed = refl
  placed_lie range (e ∷ es) placed =
      and_from (holds range (hash_grain hashing e.1.grain)) (lie_in hashing range (entries_of es))
      (All-head (λ (x : Grain × Entry). holds range (hash_grain hashing x.1.grain) ≡ true) e es placed)
      (placed_lie range es (All-tail (λ (x : Grain × Entry). holds range (hash_grain hashing x.1.grain) ≡ true) e es placed))

  abbrev IsPlaced : ℕ × Piece → Type 0
  IsPlaced e = All (λ x. holds e.1.range (hash_grain hashing x.1.grain) ≡ true) e.1.entries

  all_tidy : (pieces : List (ℕ × Piece)) → All IsPlaced pieces → are_tidy hashing pieces ≡ true
  all_tidy [] placed = refl
  all_tidy (e ∷ es) placed =
      and_from (lie_in hashing e.1.range (entries_of e.1.entries)) (are_tidy hashing es)
      (placed_lie e.1.range e.1.entries (All-head IsPlaced e es placed)) (all_tidy es (All-tail IsPlaced e es placed))

pub tidy_node : (world : World) → IsWorld world → (silo : Silo)
    → IfSome (node_of world silo) (λ node. are_tidy world.settings.hashing node.holding.pieces ≡ true)
tidy_node world is silo = by (node_of world silo) refl
  where
    by : (o : Option Node) → node_of world silo ≡ o → IfSome o (λ node. are_tidy world.settings.hashing node.holding.pieces ≡ true)
    by None there = tt
    by (Some node) there =
        all_tidy world.settings.hashing node.holding.pieces
        (pieces_are_owned world.settings is.events silo node
        (record {
          in_range = is.in_range;
          hashes = events_name_hashes is.events is.named;
          found = ap (λ (w : World). node_of w silo)
              (sym is.made) ∙ there;
        })).placed
