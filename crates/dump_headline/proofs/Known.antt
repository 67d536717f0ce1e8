-- Whoever is named by an activation in a world's dump has a row: a silo holds what is in the table of a settled piece, if only as
-- it was when it died, and who has no row never held anything.
use Rattle.std.proofs.Common.{◌≡◌, ℕ, IsSome, refl, sym, ap, subst, ◌∙◌, arith}
use Rattle.std.specs.Prelude.{◌&&◌, true, nat_lt, map, All, Contains, Option, Some, None, option_and_then}
use Rattle.std.specs.Map.{keys_of}
use Rattle.std.specs.BTreeMap.{is_at}
use Rattle.std.proofs.lemmas.Bool.{lt-ltb}
use Rattle.std.proofs.lemmas.List.Elements.{All-nil, All-map, All-append, All-weaker, All-contains_itself}
use Rattle.std.proofs.lemmas.Map.Views.{Contains-keys_from_lookup}
use Rattle.silo_address.specs.Silo.{Silo, silo_cmp}
use Rattle.silo_address.specs.Grain.{Grain}
use Rattle.silo_address.specs.declared.Entry.{Entry}
use Rattle.silo_address.proofs.Order.{silo_cmp_exact}
use Rattle.membership_view.specs.declared.row.Row.{Row}
use Rattle.membership_view.specs.declared.status.Status.{Status}
use Rattle.membership_view.specs.Row.{status_in}
use Rattle.membership_view.specs.Views.{row_of, status_at}
use Rattle.membership_view.proofs.Known.{status_at-made}
use Rattle.ring_range.specs.Range.{circle}
use Rattle.directory_protocol.specs.Setting.{Setting}
use Rattle.directory_protocol.specs.World as protocol
use Rattle.directory_protocol.proofs.All.{Kept, kept_reached}
use Rattle.directory_protocol.proofs.Runs.{holds_where_reached}
use Rattle.directory_rules.specs.declared.held.Held.{Held}
use Rattle.directory_rules.specs.declared.piece_state.PieceState.{PieceState}
use Rattle.directory_rules.specs.declared.piece_state.PieceState.TheVariants as state
use Rattle.directory_rules.specs.Table.{entry_at, entries_of}
use Rattle.directory_rules.specs.State.{Piece, Node, World}
use Rattle.directory_rules.specs.Sight.{is_settled}
use Rattle.directory_rules.specs.Happens.{node_of}
use Rattle.directory_facts.proofs.Entries.{same_key}
use Rattle.directory_headline.specs.Setting.{IsSettingOf}
use Rattle.directory_headline.specs.Shown.{activation_in, is_settled_piece}
use Rattle.directory_headline.proofs.Facts.{WorldFacts}
use Rattle.directory_headline.proofs.Frame.{Here, node_shown, alive}
use Rattle.directory_headline.proofs.SettledPiece.{grain_below}
use Rattle.directory_headline.proofs.TableEntries.{each_found}
use Rattle.directory_headline.proofs.Viewed.{Carried}
use Rattle.dump_rules.specs.Dump.{dump_held, dump_piece, dump_node}
use Rattle.dump_rules.specs.DumpShape.{activation_silos}
use Rattle.dump_rules.specs.Verdict.{node_entries}
use Rattle.dump_headline.proofs.Listed.{all_flat_map}
use Rattle.dump_headline.proofs.NodeShape.{joined}
use Rattle.dump_headline.proofs.Found.{piece_is, piece_found, entry_inside}

some_row : (version : ℕ) (found : Option Row) → IsSome (option_and_then (status_in version) found) → IsSome found
some_row version None there = absurd (cc (there))
some_row version (Some row) there = refl

module _ (m : Setting) (f : World) (setting : IsSettingOf m f) (facts : WorldFacts m.hash f) (carried : Carried m f) where
  abbrev w : protocol.World
  w = carried.world

  abbrev HasRow : Silo → Type 0
  HasRow silo = Contains (keys_of f.views.rows) silo

  kept : Kept m w
  kept = holds_where_reached Kept kept_reached m w carried.reached

  -- who holds something has a row
  holder_row : (silo : Silo) (grain : Grain) (x : protocol.Held) → w.held silo grain ≡ Some x → HasRow silo
  holder_row silo grain x held = by (status_at f.views f.views.version silo) refl
    where
      by : (status : Option Status) → status_at f.views f.views.version silo ≡ status → HasRow silo
      by None none = let first = ap (λ s. s.held grain) (carried.shown.absent silo none) in absurd (cc (first, held))
      by (Some status) is =
          let known = sym (status_at-made f.views facts.peopled.whole.in_order f.views.version silo (omega arith)) ∙ is in
          Contains-keys_from_lookup {eq = λ a. is_at (silo_cmp a)} (λ x y at. same_key silo_cmp silo_cmp_exact x y at) silo f.views.rows
          (some_row f.views.version (row_of f.views silo) (subst (λ o. IsSome o) (sym known) refl))

  module _ (silo : Silo) (node : Node) (there : node_of f silo ≡ Some node) where
    here : Here m f w silo node
    here = record { setting = setting; facts = facts; there = there; reached = carried.reached; shown = carried.shown }

    -- an entry of a settled piece
    entry_row : (e : ℕ × Piece) → Contains node.holding.pieces e → e.1.state ≡ state.Settled → (entry : Entry)
        → entry_at entry.grain e.1.entries ≡ Some entry → HasRow entry.activation.silo
    entry_row e among settled entry found =
        let h = m.hash entry.grain in
        let at = piece_found m.hash f facts silo node there e among h (entry_inside m.hash f facts silo node there e among entry found) in
        let holding = (node_shown m f w silo node here).holding in
        let serves : w.settled silo h ≡ true =
        holding.settled h ∙ ap (λ o. is_settled_piece o && nat_lt h circle) at ∙ ap (λ s. is_settled s && nat_lt h circle) settled
        ∙ lt-ltb h circle (grain_below m f w silo node here entry.grain) in
        let has : w.table silo entry.grain ≡ Some entry.activation = holding.table entry.grain e.1 at settled ∙ ap activation_in found in
        let right = kept.backed.entries.right silo entry.grain (alive m f w silo node here) serves in
        let held = kept.backed.entries.held_there entry.grain entry.activation (sym right ∙ has) in
        holder_row entry.activation.silo entry.grain held.0 held.1

    piece_rows : (e : ℕ × Piece) → Contains node.holding.pieces e → All (λ entry. HasRow entry.activation.silo) (entries_of e.1.entries)
    piece_rows e among = by e.1.state refl
      where
        bare : ¬ (e.1.state ≡ state.Settled) → All (λ (entry : Entry). HasRow entry.activation.silo) (entries_of e.1.entries)
        bare unsettled =
            subst (λ table. All (λ (entry : Entry). HasRow entry.activation.silo) (entries_of table))
            (sym ((piece_is m.hash f facts silo node there e among).empty unsettled))
            (All-nil (λ (entry : Entry). HasRow entry.activation.silo))

        by : (its : PieceState) → e.1.state ≡ its → All (λ (entry : Entry). HasRow entry.activation.silo) (entries_of e.1.entries)
        by state.Settled is =
            each_found (λ entry. HasRow entry.activation.silo) e.1.entries (piece_is m.hash f facts silo node there e among).table
            (λ entry found. entry_row e among is entry found)
        by (state.Awaiting from) is = bare (λ settled. absurd (cc (is, settled)))
        by state.Recovering is = bare (λ settled. absurd (cc (is, settled)))

    -- all that the dump's node names
    pub named_rows : All (Contains (keys_of f.views.rows)) (activation_silos (dump_node silo node))
    named_rows =
        All-append HasRow (map (λ held. held.activation.silo) (dump_node silo node).held)
        (map (λ entry. entry.activation.silo) (node_entries (dump_node silo node)))
        (All-map HasRow (λ held. held.activation.silo) (dump_node silo node).held
        (All-map (λ held. HasRow held.activation.silo) (λ (e : Grain × Held). dump_held silo e.0 e.1) node.host.held
        (λ k d below. joined m.hash f facts silo node there)))
        (All-map HasRow (λ (entry : Entry). entry.activation.silo) (node_entries (dump_node silo node))
        (all_flat_map (λ piece. piece.entries) (λ (entry : Entry). HasRow entry.activation.silo) (dump_node silo node).pieces
        (All-map (λ piece. All (λ (entry : Entry). HasRow entry.activation.silo) piece.entries) (λ (e : ℕ × Piece). dump_piece e.1)
        node.holding.pieces
        (All-weaker (Contains node.holding.pieces) (λ (e : ℕ × Piece). All (λ (entry : Entry). HasRow entry.activation.silo)
        (entries_of e.1.entries)) piece_rows
        node.holding.pieces (All-contains_itself node.holding.pieces)))))
