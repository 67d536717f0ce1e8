-- What new pieces want: by how many of them recover, without their entries, and of nodes that differ only in what their letters don't
-- depend on.
use Rattle.std.proofs.Common.{◌≡◌, refl, sym, ap, ◌∙◌, ℕ, List, [], ◌∷◌, ◌++◌, ◌<◌, ◌≤◌, cond, length}
use Rattle.std.specs.Prelude.{flat_map, map}
use Rattle.std.proofs.lemmas.Bool.{le-leb, lt-leb}
use Rattle.ring_range.specs.Range.{Range}
use Rattle.directory_rules.specs.declared.PieceState.{PieceState}
use Rattle.directory_rules.specs.declared.PieceState.TheVariants.{Settled, Awaiting, Recovering}
use Rattle.directory_rules.specs.Members.{members_of}
use Rattle.directory_rules.specs.State.{Cache, Holding, Node, Piece, Snapshot, Survey_letter}
use Rattle.directory_rules.specs.Sent.{asks_by, letter_to, most_queried, query_letters, recovering_by, recovering_ranges, survey_letters}
use Rattle.grain_partition.specs.Seen.{emptied}
use Rattle.node_plans.specs.Sender.{asks_of, bare, new_wants_of}
use Rattle.node_plans.proofs.Alike.{other}

-- ---- By how many ranges recover.
module _ (node : Node) where
  pub few_surveyed : (ranges : List Range) → length ranges ≤ most_queried
      → flat_map (query_letters node) ranges ≡ survey_letters node ranges
  few_surveyed ranges few =
      sym (ap (λ b. cond b (flat_map (query_letters node) ranges)
      (map (λ silo. letter_to silo node (Survey_letter ranges)) (members_of node.view))) (le-leb (length ranges) most_queried few))

  pub many_surveyed : (ranges : List Range) → most_queried < length ranges
      → map (λ silo. letter_to silo node (Survey_letter ranges)) (members_of node.view) ≡ survey_letters node ranges
  many_surveyed ranges many =
      sym (ap (λ b. cond b (flat_map (query_letters node) ranges)
      (map (λ silo. letter_to silo node (Survey_letter ranges)) (members_of node.view))) (lt-leb (length ranges) most_queried many))

-- ---- Entries are nothing to it.
emptied_asks : (node : Node) (pieces : List (ℕ × Piece)) → asks_of node (emptied pieces) ≡ asks_of node pieces
emptied_asks node [] = refl
emptied_asks node (e ∷ es) = ap (λ l. asks_by e.1.state node e.1.range ++ l) (emptied_asks node es)

emptied_ranges : (pieces : List (ℕ × Piece)) → recovering_ranges (emptied pieces) ≡ recovering_ranges pieces
emptied_ranges [] = refl
emptied_ranges (e ∷ es) = ap (λ l. recovering_by e.1.state e.1.range ++ l) (emptied_ranges es)

pub emptied_new : (node : Node) (pieces : List (ℕ × Piece)) → new_wants_of node (emptied pieces) ≡ new_wants_of node pieces
emptied_new node pieces = λ i. emptied_asks node pieces i ++ survey_letters node (emptied_ranges pieces i)

-- ---- Nor are other pieces, snapshots and hints, and the numbers of requests.
module _ (node : Node) (holding : Holding) (shelf : List Snapshot) (cache : Cache) where
  abbrev after : Node
  after = other node holding shelf cache

  same_asks : (state : PieceState) (range : Range) → asks_by state node range ≡ asks_by state after range
  same_asks Settled range = refl
  same_asks (Awaiting from) range = refl
  same_asks Recovering range = refl

  same_surveys : (ranges : List Range) → survey_letters node ranges ≡ survey_letters after ranges
  same_surveys ranges = refl

  pub same_new : (pieces : List (ℕ × Piece)) → new_wants_of node pieces ≡ new_wants_of (other node holding shelf cache) pieces
  same_new pieces = λ i. flat_map (λ e. same_asks e.1.state e.1.range i) pieces ++ same_surveys (recovering_ranges pieces) i

-- a node sends what it sends without its pieces, snapshots and hints
pub bare_new : (node : Node) (pieces : List (ℕ × Piece)) → new_wants_of (bare node) pieces ≡ new_wants_of node pieces
bare_new node pieces =
    same_new (bare node) node.holding node.shelf node.cache pieces ∙ sym (same_new node node.holding node.shelf node.cache pieces)
