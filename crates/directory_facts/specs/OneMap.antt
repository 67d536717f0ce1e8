-- A silo answers as by one map from grain to entry: that of all its settled pieces together.
use Rattle.std.specs.Prelude.{◌≡◌, ℕ, List, Ok}
use Rattle.std.specs.List.Sorted.{IsStrictlySortedBy}
use Rattle.std.specs.Map.{keys_of}
use Rattle.silo_address.specs.Silo.{Silo}
use Rattle.silo_address.specs.Grain.{Grain, grain_cmp}
use Rattle.hash_ring.specs.declared.Hashing.{Hashing}
use Rattle.hash_ring.specs.Hash.{hash_grain}
use Rattle.directory_rules.specs.declared.act.Request.{Request}
use Rattle.directory_rules.specs.Settings.{Settings}
use Rattle.directory_rules.specs.State.{Table, Piece, Holding, Node}
use Rattle.directory_rules.specs.Table.{entry_at}
use Rattle.directory_rules.specs.Answer.{turned, serving_piece, answered}
use Rattle.directory_rules.specs.Sight.{all_entries}
use Rattle.directory_rules.specs.Host.{grain_of}
use Rattle.directory_rules.specs.Event.{Event}
use Rattle.directory_rules.specs.Laws.{IsReached}
use Rattle.directory_facts.specs.Whole.{entry_in}

-- the map, in the order of the grains, has of each grain just what the piece that has its hash has of it; a piece that isn't settled
-- has nothing
pub record IsMapOf (hashing : Hashing) (pieces : List (ℕ × Piece)) (map : Table) : Type 0 where
  pub by_grain : IsStrictlySortedBy grain_cmp (keys_of map)
  pub exact : (grain : Grain) → entry_at grain map ≡ entry_in pieces (hash_grain hashing grain) grain

-- what is answered is what the map answers, and what is held then has the map that is left
pub record IsAnsweredBy (hashing : Hashing) (map : Table) (holding : Holding) (request : Request) : Type 0 where
  pub reply : (answered holding request).reply ≡ (turned request.act map).reply
  pub left : IsMapOf hashing (answered holding request).holding.pieces (turned request.act map).table

-- each node has one map, all entries of its pieces together
abbrev pub NodesHaveOneMap : Type 0
NodesHaveOneMap = (settings : Settings) (events : List Event) (silo : Silo) (node : Node) → IsReached settings events silo node
    → IsMapOf settings.hashing node.holding.pieces (all_entries node.holding.pieces)

-- and by it answers each request that it serves, under the hash of its grain
abbrev pub NodesAnswerByOneMap : Type 0
NodesAnswerByOneMap = (settings : Settings) (events : List Event) (silo : Silo) (node : Node) → IsReached settings events silo node
    → (map : Table) → IsMapOf settings.hashing node.holding.pieces map
    → (request : Request) → request.hash ≡ hash_grain settings.hashing (grain_of request.act) → (piece : Piece) → serving_piece node.holding request ≡ Ok piece
    → IsAnsweredBy settings.hashing map node.holding request
