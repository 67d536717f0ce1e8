-- The nodes of a world's dump are those of the world, and all of them are those of silos that aren't Dead.
use Rattle.std.proofs.Common.{arith, ◌≡◌, ◌≢◌, ℕ, refl, sym, ap, ◌∙◌}
use Rattle.std.specs.Prelude.{true, not, is_some, All, AllPairs, Contains, Some}
use Rattle.std.specs.BTreeMap.{is_at}
use Rattle.std.proofs.lemmas.List.Elements.{All-map, All-filter, All-contains}
use Rattle.std.proofs.lemmas.List.Kept.{AllPairs-filter}
use Rattle.std.proofs.lemmas.Map.Views.{Contains-from_lookup}
use Rattle.silo_address.specs.Silo.{Silo, silo_cmp}
use Rattle.silo_address.specs.Grain.{Grain}
use Rattle.silo_address.proofs.Order.{silo_cmp_total, silo_cmp_exact}
use Rattle.membership_view.specs.View.{status_of}
use Rattle.membership_view.specs.Views.{view_at}
use Rattle.directory_rules.proofs.People.{live_said}
use Rattle.directory_rules.specs.Members.{is_dead_in}
use Rattle.directory_rules.specs.Laws.{is_live}
use Rattle.directory_rules.specs.State.{Node, World}
use Rattle.directory_rules.specs.Happens.{node_of}
use Rattle.directory_facts.proofs.Entries.{same_key}
use Rattle.directory_headline.proofs.Facts.{WorldFacts}
use Rattle.directory_headline.proofs.Statuses.{live_not_dead}
use Rattle.dump_rules.specs.Dump.{DumpNode, dump_node, dump_of}
use Rattle.dump_rules.specs.Verdict.{dump_view, live_nodes}
use Rattle.dump_rules.proofs.Contained.{to_map, to_filter}
use Rattle.dump_headline.proofs.Orders.{all_found, entries_apart}
use Rattle.dump_headline.proofs.Listed.{pairs_map}
use Rattle.dump_headline.proofs.Rows.{dumped_view}

-- of which silo, and which node of the world, a dump's node is
pub record IsDumped (f : World) (dumped : DumpNode) : Type 0 where
  pub silo : Silo
  pub node : Node
  pub there : node_of f silo ≡ Some node
  pub is : dump_node silo node ≡ dumped

module _ (hash : Grain → ℕ) (f : World) (facts : WorldFacts hash f) where
  -- what holds of each silo's node
  pub each_node : (P : DumpNode → Type 0) → ((silo : Silo) (node : Node) → node_of f silo ≡ Some node → P (dump_node silo node))
      → All P (dump_of f).nodes
  unfolding dump_of
  each_node P so =
      All-map P (λ (e : Silo × Node). dump_node e.0 e.1) f.nodes
      (all_found silo_cmp silo_cmp_total silo_cmp_exact (λ e. P (dump_node e.0 e.1)) f.nodes facts.peopled.by_address so)

  pub each_live : (P : DumpNode → Type 0) → ((silo : Silo) (node : Node) → node_of f silo ≡ Some node → P (dump_node silo node))
      → All P (live_nodes (dump_of f))
  each_live P so =
      All-filter (λ node. not (is_dead_in (dump_view (dump_of f) (dump_of f).current) node.silo)) P (dump_of f).nodes (each_node P so)

  pub dumped : (node : DumpNode) → Contains (live_nodes (dump_of f)) node → IsDumped f node
  dumped node there =
      All-contains (IsDumped f) (live_nodes (dump_of f)) node
      (each_live (IsDumped f) (λ silo its found. record { silo = silo; node = its; there = found; is = refl })) there

  -- each node of the world is one of them
  not_dead : (silo : Silo) (node : Node) → node_of f silo ≡ Some node
      → not (is_dead_in (dump_view (dump_of f) (dump_of f).current) silo) ≡ true
  unfolding dump_of
  not_dead silo node there =
      let live : is_live (status_of (view_at f.views f.views.version) silo) ≡ true =
      live_said f.views facts.peopled.whole f.views.version (omega arith) silo ∙ sym (facts.peopled.live silo) ∙ ap is_some there in
      ap (λ view. not (is_dead_in view silo)) (dumped_view f facts.peopled.whole f.views.version (omega arith))
      ∙ ap not (live_not_dead (status_of (view_at f.views f.views.version) silo) live)

  among_nodes : (silo : Silo) (node : Node) → node_of f silo ≡ Some node → Contains (dump_of f).nodes (dump_node silo node)
  unfolding dump_of
  among_nodes silo node there =
      to_map (λ (e : Silo × Node). dump_node e.0 e.1) f.nodes (silo, node)
      (Contains-from_lookup {eq = λ a. is_at (silo_cmp a)} (λ x y at. same_key silo_cmp silo_cmp_exact x y at) silo node f.nodes there)

  pub live_there : (silo : Silo) (node : Node) → node_of f silo ≡ Some node → Contains (live_nodes (dump_of f)) (dump_node silo node)
  live_there silo node there =
      to_filter (λ (node : DumpNode). not (is_dead_in (dump_view (dump_of f) (dump_of f).current) node.silo)) (dump_of f).nodes
      (dump_node silo node) (among_nodes silo node there) (not_dead silo node there)

  -- no two are of one silo
  abbrev pub OfOthers : DumpNode → DumpNode → Type 0
  OfOthers node later = node.silo ≢ later.silo

  apart : AllPairs OfOthers (dump_of f).nodes
  unfolding dump_of
  apart =
      pairs_map OfOthers (λ (e : Silo × Node). dump_node e.0 e.1) f.nodes
      (entries_apart silo_cmp silo_cmp_total silo_cmp_exact f.nodes facts.peopled.by_address)

  pub live_apart : AllPairs OfOthers (live_nodes (dump_of f))
  live_apart =
      AllPairs-filter OfOthers (λ node. not (is_dead_in (dump_view (dump_of f) (dump_of f).current) node.silo)) (dump_of f).nodes apart
