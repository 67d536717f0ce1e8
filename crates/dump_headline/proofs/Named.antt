-- What a world's dump names is in range, so its text is read again.
use Rattle.std.proofs.Common.{◌≡◌, ℕ, List, [], ◌∷◌, subst}
use Rattle.std.specs.Prelude.{All, Some, IfSome}
use Rattle.std.specs.List.{slice_index_or}
use Rattle.std.specs.Map.{keys_of}
use Rattle.std.proofs.lemmas.List.Elements.{All-nil, All-cons, All-head, All-tail, All-map, All-weaker}
use Rattle.silo_address.specs.Silo.{Silo, IsSilo}
use Rattle.silo_address.specs.Grain.{Grain}
use Rattle.silo_address.specs.declared.Entry.{Entry}
use Rattle.membership_view.specs.declared.row.Row.{Row}
use Rattle.directory_rules.specs.declared.held.Held.{Held}
use Rattle.directory_rules.specs.declared.piece_state.PieceState.{PieceState}
use Rattle.directory_rules.specs.declared.piece_state.PieceState.TheVariants as state
use Rattle.directory_rules.specs.State.{Piece, Node, World}
use Rattle.directory_rules.specs.Host.{entry_of}
use Rattle.directory_rules.specs.Happens.{node_of}
use Rattle.directory_facts.specs.Named as facts
use Rattle.directory_headline.proofs.Facts.{WorldFacts}
use Rattle.dump_rules.specs.Dump.{awaited_from, dump_held, dump_piece, dump_node, dump_row, dump_of}
use Rattle.dump_headline.specs.Named.{IsNamedFor, HasPieceNames, HasNodeNames, HasNames}
use Rattle.dump_headline.proofs.Nodes.{each_node}

awaits : (its : PieceState) → facts.AwaitsSilo its → IfSome (awaited_from its) IsSilo
awaits state.Settled is = tt
awaits (state.Awaiting from) is = is
awaits state.Recovering is = tt

named_for : (entry : Entry) → facts.IsNamed entry → IsNamedFor entry.grain entry.activation
named_for entry is = (is.grain, record { silo = is.silo; count = is.count })

piece_names : (e : ℕ × Piece) → facts.AreNamed e.1.entries → facts.AwaitsSilo e.1.state → HasPieceNames (dump_piece e.1)
piece_names e tables awaited = record {
  entries =
      All-map (λ (entry : Entry). IsNamedFor entry.grain entry.activation) (λ (x : Grain × Entry). x.1) e.1.entries
      (All-weaker (λ (x : Grain × Entry). facts.IsNamed x.1) (λ (x : Grain × Entry). IsNamedFor x.1.grain x.1.activation)
      (λ x is. named_for x.1 is) e.1.entries tables);
  from = awaits e.1.state awaited;
}

node_names : (silo : Silo) (node : Node) → node.host.silo ≡ silo → facts.HasNames node → HasNodeNames (dump_node silo node)
node_names silo node same has = record {
  held =
      All-map (λ held. IsNamedFor held.grain held.activation) (λ (e : Grain × Held). dump_held silo e.0 e.1) node.host.held
      (All-weaker (λ (e : Grain × Held). facts.IsNamed (entry_of node.host e.0 e.1))
      (λ (e : Grain × Held). IsNamedFor e.0 (record { silo = silo; count = e.1.count }))
      (λ e is. (is.grain, record { silo = subst IsSilo same is.silo; count = is.count })) node.host.held has.held);
  pieces =
      All-map HasPieceNames (λ (e : ℕ × Piece). dump_piece e.1) node.holding.pieces
      (λ k d below. piece_names (slice_index_or node.holding.pieces k d) (has.tables k d below) (has.awaited k d below));
  ring = has.ring;
  silo = subst IsSilo same has.silo;
}

pub has_names : (hash : Grain → ℕ) (f : World) → WorldFacts hash f → All IsSilo (keys_of f.views.rows)
    → ((silo : Silo) (node : Node) → node_of f silo ≡ Some node → facts.HasNames node) → HasNames (dump_of f)
unfolding dump_of
has_names hash f facts rows nodes = record {
  nodes =
      each_node hash f facts HasNodeNames (λ silo node there. node_names silo node (facts.nodes silo node there).own.host_is
      (nodes silo node there));
  rows = All-map (λ row. IsSilo row.silo) (λ (e : Silo × Row). dump_row f.places e.0 e.1) f.views.rows (of_keys f.views.rows rows);
}
  where
    of_keys : (es : List (Silo × Row)) → All IsSilo (keys_of es) → All (λ e. IsSilo e.0) es
    of_keys [] all = All-nil (λ (e : Silo × Row). IsSilo e.0)
    of_keys (e ∷ es) all =
        All-cons (λ (x : Silo × Row). IsSilo x.0) e es (All-head IsSilo e.0 (keys_of es) all)
        (of_keys es (All-tail IsSilo e.0 (keys_of es) all))
