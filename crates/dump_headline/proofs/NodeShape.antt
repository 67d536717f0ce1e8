-- A world's dump is a dump where the activations that each node names are of silos with rows, and those that it holds differ.
use Rattle.std.proofs.Common.{arith, ◌≡◌, ℕ, ◌<◌, ◌≤◌, List, IsSome, map, refl, sym, ap, subst, ◌∙◌}
use Rattle.std.specs.Prelude.{true, is_some, option_and_then, All, Contains, Option, Some, None}
use Rattle.std.specs.Map.{keys_of}
use Rattle.std.proofs.lemmas.List.Elements.{All-map, All-weaker, All-contains_itself}
use Rattle.std.proofs.lemmas.Map.Views.{Contains-keys_from_lookup}
use Rattle.silo_address.specs.Silo.{Silo, silo_cmp}
use Rattle.silo_address.specs.Grain.{Grain}
use Rattle.silo_address.proofs.Order.{silo_cmp_total, silo_cmp_exact}
use Rattle.membership_view.specs.declared.row.Row.{Row}
use Rattle.membership_view.specs.declared.status.Status.{Status}
use Rattle.membership_view.specs.Row.{status_in}
use Rattle.membership_view.specs.Views.{row_of, view_at, status_at}
use Rattle.membership_view.proofs.Known.{status_at-made}
use Rattle.ring_range.specs.Range.{circle}
use Rattle.hash_ring.specs.declared.point.Point.{Point}
use Rattle.hash_ring.specs.Ring.{points_of, sorted_ring, ring_of, IsPointOf}
use Rattle.hash_ring.proofs.Lawful.{points_are, is_sorted_anew}
use Rattle.directory_rules.specs.Laws.{is_live}
use Rattle.directory_rules.specs.State.{Node, World}
use Rattle.directory_rules.specs.Happens.{node_of}
use Rattle.directory_facts.proofs.Entries.{same_key}
use Rattle.directory_headline.proofs.Facts.{NodeFacts, WorldFacts}
use Rattle.directory_headline.proofs.Settings.{view_by_address}
use Rattle.dump_rules.specs.Dump.{dump_node, dump_of}
use Rattle.dump_rules.specs.DumpShape.{activation_silos}
use Rattle.dump_rules.specs.RightShape as right
use Rattle.dump_headline.proofs.Orders.{all_found}
use Rattle.dump_headline.proofs.Shape.{pieces_in_order, are_pieces, are_ranges, grains_once, holds_its_own, rows_of, rows_once, nodes_once, rows_in_order, nodes_in_order}
use Rattle.dump_headline.proofs.RowShape.{few_versions, rows_numbers, rows_are}

-- what the dump needs besides the facts of the world: the activations that the node names are of silos that ever joined, and
-- those that it holds differ
pub record NamesAreKnown (f : World) (silo : Silo) (node : Node) : Type 0 where
  pub known : All (Contains (keys_of f.views.rows)) (activation_silos (dump_node silo node))
  pub once : right.AreDistinct (map (λ held. held.activation) (dump_node silo node).held)

module _ (hash : Grain → ℕ) (f : World) (facts : WorldFacts hash f) where
  -- a point of a view
  point_numbers : (version : ℕ) (point : Point) → IsPointOf (view_at f.views version) f.places point → right.HasPointNumbers point
  point_numbers version point is =
      let its = facts.places.each point.silo is.its_places is.has in
      record {
        place = subst (λ (place : ℕ). place < circle) is.at (its.hashes point.index 0 is.within);
        index = let within = is.within in let most = its.most in omega (arith, within, most);
      }

  ring_numbers : (version : ℕ) → All right.HasPointNumbers (sorted_ring (view_at f.views version) f.places)
  ring_numbers version =
      let view = view_at f.views version in
      All-weaker (Contains (sorted_ring view f.places)) right.HasPointNumbers
      (λ point there. point_numbers version point ((points_are view (view_by_address f.views version facts.peopled.whole) f.places point).0
      ((is_sorted_anew (points_of view f.places)).same.forth point there)))
      (sorted_ring view f.places) (All-contains_itself (sorted_ring view f.places))

  -- a silo with a node has a row
  has_row : (found : Option Row) → is_live (option_and_then (status_in f.views.version) found) ≡ true → IsSome found
  has_row None live = absurd (cc (live))
  has_row (Some row) live = refl

  pub joined : (silo : Silo) (node : Node) → node_of f silo ≡ Some node → Contains (keys_of f.views.rows) silo
  joined silo node there =
      let whole = facts.peopled.whole in
      let live : is_live (status_at f.views f.views.version silo) ≡ true = sym (facts.peopled.live silo) ∙ ap is_some there in
      let by_row = subst (λ (status : Option Status). is_live status ≡ true) (status_at-made f.views whole.in_order f.views.version silo (omega arith)) live in
      Contains-keys_from_lookup (same_key silo_cmp silo_cmp_exact) silo f.views.rows (has_row (row_of f.views silo) by_row)

  node_numbers : (silo : Silo) (node : Node) → node_of f silo ≡ Some node → right.HasNodeNumbers (dump_node silo node)
  node_numbers silo node there =
      let is : NodeFacts hash f silo node = facts.nodes silo node there in
      let sees = is.sees in
      record {
        seen =
            let few = few_versions f.views facts.peopled.whole in let within = sees.within in
            omega (arith, few, within);
        ring =
            subst (λ (points : List Point). All right.HasPointNumbers points)
            (sym (ap (λ ring. ring.points) (sees.ring_is ∙ ap (λ view. ring_of view f.places) sees.view_is)))
            (ring_numbers node.view.version);
        pieces = are_ranges hash node.holding.pieces is.pieces;
      }

  numbers : right.HasNumbers (dump_of f)
  unfolding dump_of
  numbers = record {
    current = few_versions f.views facts.peopled.whole;
    points_above = facts.settings.points_above;
    points_within = facts.settings.points_within;
    rows = rows_numbers hash f facts;
    nodes = All-map right.HasNodeNumbers (λ (e : Silo × Node). dump_node e.0 e.1) f.nodes
        (all_found silo_cmp silo_cmp_total silo_cmp_exact (λ e. right.HasNodeNumbers (dump_node e.0 e.1)) f.nodes facts.peopled.by_address
        node_numbers);
  }

  module _ (known : (silo : Silo) (node : Node) → node_of f silo ≡ Some node → NamesAreKnown f silo node) where
    seen_made : (silo : Silo) (node : Node) → node_of f silo ≡ Some node → node.view.version ≤ (dump_of f).current
    unfolding dump_of
    seen_made silo node there = (facts.nodes silo node there).sees.within

    node_is : (silo : Silo) (node : Node) → node_of f silo ≡ Some node → right.IsNodeOf (dump_of f) (dump_node silo node)
    node_is silo node there =
        let is : NodeFacts hash f silo node = facts.nodes silo node there in
        let names = known silo node there in
        record {
          known = subst (λ (silos : List Silo). Contains silos silo) (sym (rows_of f)) (joined silo node there);
          known_activations =
              subst (λ (silos : List Silo). All (Contains silos) (activation_silos (dump_node silo node))) (sym (rows_of f)) names.known;
          own = holds_its_own silo node.host.held;
          activations_once = names.once;
          grains_once = grains_once silo node.host.held is.own.once;
          seen = seen_made silo node there;
          in_order = pieces_in_order hash node.holding.pieces is.pieces;
          pieces = are_pieces hash node.holding.pieces is.pieces;
        }

    nodes_are : All (right.IsNodeOf (dump_of f)) (dump_of f).nodes
    unfolding dump_of
    nodes_are =
        All-map (right.IsNodeOf (dump_of f)) (λ (e : Silo × Node). dump_node e.0 e.1) f.nodes
        (all_found silo_cmp silo_cmp_total silo_cmp_exact (λ e. right.IsNodeOf (dump_of f) (dump_node e.0 e.1)) f.nodes
        facts.peopled.by_address node_is)

    pub is_dump_by : right.IsDump (dump_of f)
    is_dump_by = record {
      numbers = numbers;
      rows_once = rows_once hash f facts;
      nodes_once = nodes_once hash f facts;
      rows_in_order = rows_in_order hash f facts;
      nodes_in_order = nodes_in_order hash f facts;
      rows = rows_are hash f facts;
      nodes = nodes_are;
    }
