-- What a world needs: a delivery sends no more letters than it falls by.
use Rattle.std.proofs.Common.{arith, ◌≡◌, refl, ap, ◌∙◌, ℕ, ◌+◌, ◌*◌, ◌≤◌, List, [], ◌∷◌, length}
use Rattle.std.specs.Prelude.{sum_by, Option, Some}
use Rattle.std.specs.Option.{option_map, unwrap_or}
use Rattle.std.specs.List.Sorted.{IsStrictlySortedBy}
use Rattle.std.specs.Map.{values_of, keys_of}
use Rattle.std.proofs.lemmas.List.Sums.{sum_by-cons, sum_by-le-sum_by}
use Rattle.std.proofs.lemmas.Map.Entries.{length-values_of, sum_by-insert_entry}
use Rattle.silo_address.specs.Silo.{Silo, silo_cmp, silo_eq}
use Rattle.silo_address.proofs.Order.{silo_cmp_total}
use Rattle.silo_address.proofs.Same.{Decides-silo}
use Rattle.ring_range.specs.Range.{Range}
use Rattle.directory_rules.specs.declared.piece_state.PieceState.{PieceState}
use Rattle.directory_rules.specs.declared.piece_state.PieceState.TheVariants as state
use Rattle.directory_rules.specs.State.{Piece, Node, World}
use Rattle.directory_rules.specs.Step.{Stepped}
use Rattle.directory_rules.specs.Happens.{node_of}
use Rattle.directory_rules.proofs.Cases.{on_bool}
use Rattle.progress_rules.specs.Room.{answers_of, offers_of, fresh_with, over_nodes, pages_shelved}
use Rattle.progress_rules.proofs.Flights.{stepped_world, its_node, other_node}
use Rattle.progress_rules.proofs.Sums.{le_same}
use Rattle.progress_rules.proofs.AreTold.{Base, left_by}
use Rattle.progress_rules.proofs.Falls.{Left, need_of, need}

-- the pages that are due to a node
abbrev pub due_to : World → Node → Silo → Range → ℕ
due_to world node giver range = pages_shelved (node_of world giver) node.host.silo node.view.version range

-- what the fresh letters and the pieces of a world stand for, where there are so many silos
abbrev pub potential : Base → World → ℕ
potential b world =
    fresh_with answers_of world + 2 * fresh_with offers_of world + over_nodes (λ node. need (due_to world node) (left_by b) node) world

-- the fewer are due the less is needed
pub need_less : (less more : Silo → Range → ℕ) (left : Left) (node : Node)
    → ((giver : Silo) (range : Range) → less giver range ≤ more giver range)
    → need less left node ≤ need more left node
need_less less more left node le =
    sum_by-le-sum_by (λ (p : Piece). need_of less left node p.state p.range) (λ (p : Piece). need_of more left node p.state p.range)
    (values_of node.holding.pieces) (λ p. by p.state p.range)
  where
    by : (its : PieceState) (range : Range) → need_of less left node its range ≤ need_of more left node its range
    by state.Settled range = le_same 0
    by (state.Awaiting giver) range = let here = le giver range in omega (arith, here)
    by state.Recovering range = le_same (need_of less left node state.Recovering range)

ones : {X : Type 0} (xs : List X) → sum_by (λ x. 1) xs ≡ length xs
ones [] = refl
ones (x ∷ xs) = let rest = ones xs in let parts = sum_by-cons (λ y. 1) x xs in omega (arith, rest, parts)

-- ---- a silo takes a step
module _ (world : World) (silo : Silo) (node : Node) (stepped : Stepped) (its : node_of world silo ≡ Some node) where
  abbrev after : World
  after = stepped_world world silo stepped

  -- a sum over all nodes, where no other node counts more
  pub over_stepped : (f g : Node → ℕ) → IsStrictlySortedBy silo_cmp (keys_of world.nodes) → ((x : Node) → g x ≤ f x)
      → over_nodes g after + f node ≤ over_nodes f world + f stepped.node
  over_stepped f g sorted le =
      let put = sum_by-insert_entry f silo_cmp_total world.nodes silo stepped.node sorted in
      let old = ap (λ (o : Option Node). unwrap_or (option_map f o) 0) its in
      let less = sum_by-le-sum_by g f (values_of after.nodes) le in
      omega (arith, put, old, less)

  pub nodes_stay : IsStrictlySortedBy silo_cmp (keys_of world.nodes) → length after.nodes ≡ length world.nodes
  nodes_stay sorted =
      let put = sum_by-insert_entry (λ (x : Node). 1) silo_cmp_total world.nodes silo stepped.node sorted in
      let old = ap {B = ℕ} (λ (o : Option Node). unwrap_or (option_map (λ x. 1) o) 0) its in
      let before = ones (values_of world.nodes) ∙ length-values_of world.nodes in
      let then = ones (values_of after.nodes) ∙ length-values_of after.nodes in
      omega (arith, put, old, before, then)

  -- no more pages are due than before, where no more are on its shelf
  pub shelved_less : ((to : Silo) (version : ℕ) (range : Range)
      → pages_shelved (Some stepped.node) to version range ≤ pages_shelved (Some node) to version range)
      → (giver to : Silo) (version : ℕ) (range : Range)
      → pages_shelved (node_of after giver) to version range ≤ pages_shelved (node_of world giver) to version range
  shelved_less shelves giver to version range =
      on_bool (λ b. silo_eq giver silo ≡ b → pages_shelved (node_of after giver) to version range ≤ pages_shelved (node_of world giver) to
      version range) (silo_eq giver silo)
      (λ t is.
      let same = (Decides-silo giver silo).0 is in
      let then = ap (λ s. pages_shelved (node_of after s) to version range) same ∙ ap (λ (o : Option Node). pages_shelved o to version range) (its_node world silo stepped) in
      let before = ap (λ s. pages_shelved (node_of world s) to version range) same ∙ ap (λ (o : Option Node). pages_shelved o to version range) its in
      let less = shelves to version range in
      omega (arith, then, before, less))
      (λ f is.
      let other = ap (λ (o : Option Node). pages_shelved o to version range) (other_node world silo stepped giver (λ same. let it = (Decides-silo giver silo).1 same in
      cc (it, is))) in
      omega (arith, other)) refl
