-- All is right in a world's dump: no grain is firm on two silos, each firm activation is entered where it has to be, and no other
-- is. This is the headline, told of the dump.
use Rattle.std.proofs.Common.{◌≡◌, ◌≢◌, ◌⊎◌, inl, inr, ℕ, List, [], ◌∷◌, refl, sym, ap, subst, ◌∙◌}
use Rattle.std.specs.Prelude.{◌==◌, true, map, filter, All, AllPairs, Contains, Some}
use Rattle.std.specs.BTreeMap.{is_at}
use Rattle.std.specs.Map.{lookup}
use Rattle.std.proofs.lemmas.Bool.{eq-eqb, eqb-true}
use Rattle.std.proofs.lemmas.List.Elements.{All-head, All-tail, All-map, All-contains}
use Rattle.std.proofs.lemmas.Map.Views.{Contains-from_lookup}
use Rattle.silo_address.specs.Silo.{Silo}
use Rattle.silo_address.specs.Grain.{Grain, grain_cmp}
use Rattle.silo_address.specs.declared.Entry.{Entry}
use Rattle.silo_address.proofs.Order.{grain_cmp_total, grain_cmp_exact}
use Rattle.ring_range.specs.Range.{holds}
use Rattle.hash_ring.specs.Hash.{hash_grain}
use Rattle.directory_protocol.specs.Setting.{Setting}
use Rattle.directory_rules.specs.declared.held.Held.{Held}
use Rattle.directory_rules.specs.declared.held.Phase.{Phase}
use Rattle.directory_rules.specs.declared.held.Phase.TheVariants as phase
use Rattle.directory_rules.specs.declared.piece_state.PieceState.{PieceState}
use Rattle.directory_rules.specs.declared.piece_state.PieceState.TheVariants as state
use Rattle.directory_rules.specs.Table.{entries_of}
use Rattle.directory_rules.specs.State.{Piece, Node, World}
use Rattle.directory_rules.specs.Happens.{node_of}
use Rattle.directory_rules.specs.Settled.{IsFirmOn, IsHeld, IsSettledAt, IsRightTable, OwnsIn}
use Rattle.directory_facts.proofs.Entries.{same_key}
use Rattle.directory_headline.specs.Setting.{IsSettingOf}
use Rattle.directory_headline.proofs.Facts.{WorldFacts}
use Rattle.directory_facts.proofs.Lookups.{lookup_first, lookup_later}
use Rattle.directory_headline.proofs.HashPieces.{is_hashed_so}
use Rattle.directory_headline.proofs.Promises.{headline, owns_in, piece_right}
use Rattle.directory_headline.proofs.Viewed.{Carried}
use Rattle.dump_rules.specs.Dump.{DumpHeld, DumpPiece, DumpNode, dump_phase, dump_state, dump_held, dump_piece, dump_node, dump_of}
use Rattle.dump_rules.specs.Verdict.{is_firm_phase, is_settled_state, entry_of_held, firm_held, firm_grains, live_nodes, held_entries, current_pieces}
use Rattle.dump_rules.specs.RightDump.{HasItsRing, HasRightPieces, IsFirmOnTwo, IsMissing, IsStrange, NoGrain, IsRightDump}
use Rattle.dump_rules.proofs.Contained.{contains_nothing, first_or_later, in_map, to_map, in_filter, to_filter, pairs_head, pairs_tail}
use Rattle.dump_headline.proofs.Listed.{in_flat_map, to_flat_map}
use Rattle.dump_headline.proofs.Nodes.{IsDumped, OfOthers, each_live, dumped, live_there, live_apart}
use Rattle.dump_headline.proofs.Rings.{has_its_ring}
use Rattle.dump_headline.proofs.RightPieces.{has_its_ranges, entries_inside}
use Rattle.dump_headline.proofs.Singles.{one_entry}
use Rattle.dump_headline.proofs.Found.{piece_is, piece_found}

-- what is firm in the dump is firm on the silo; what is settled there is settled
firm_is : (its : Phase) → is_firm_phase (dump_phase its) ≡ true → its ≡ phase.Firm
firm_is (phase.Asking number) is = absurd (cc (is))
firm_is phase.Firm is = refl
firm_is (phase.Closing number) is = absurd (cc (is))

settled_is : (its : PieceState) → is_settled_state (dump_state its) ≡ true → its ≡ state.Settled
settled_is state.Settled is = refl
settled_is (state.Awaiting from) is = absurd (cc (is))
settled_is state.Recovering is = absurd (cc (is))

-- an activation among those held, where no grain stands twice, is found
held_found : (held : List (Grain × Held)) (e : Grain × Held) → AllPairs (λ x later. x.0 ≢ later.0) held → Contains held e
    → lookup (is_at (grain_cmp e.0)) held ≡ Some e.1
held_found [] e once c = absurd (contains_nothing e c)
held_found (x ∷ xs) e once c =
    at (first_or_later x e xs c) (λ later. held_found xs e (pairs_tail (λ (y z : Grain × Held). y.0 ≢ z.0) x xs once) later)
  where
    at : (x ≡ e) ⊎ Contains xs e → (Contains xs e → lookup (is_at (grain_cmp e.0)) xs ≡ Some e.1)
        → lookup (is_at (grain_cmp e.0)) (x ∷ xs) ≡ Some e.1
    at (inl same) rest =
        subst (λ (y : Grain × Held). lookup (is_at (grain_cmp y.0)) (x ∷ xs) ≡ Some y.1) same
        (lookup_first grain_cmp grain_cmp_total x.0 x.1 xs)
    at (inr later) rest =
        let apart = All-contains (λ (z : Grain × Held). x.0 ≢ z.0) xs e (pairs_head (λ (y z : Grain × Held). y.0 ≢ z.0) x xs once) later in
        lookup_later grain_cmp grain_cmp_exact e.0 x.0 x.1 xs (λ same. apart (sym same)) ∙ rest later

module _ (m : Setting) (f : World) (setting : IsSettingOf m f) (facts : WorldFacts m.hash f) (carried : Carried m f) where
  own_facts : WorldFacts (hash_grain f.settings.hashing) f
  own_facts = subst (λ hash. WorldFacts hash f) setting.hash facts

  -- ---- firm activations
  -- whose activation an entry of the dump's held ones is
  record IsHeldBy (silo : Silo) (node : Node) (held : DumpHeld) : Type 0 where
    its : Grain × Held
    among : Contains node.host.held its
    is : dump_held silo its.0 its.1 ≡ held

  held_by : (silo : Silo) (node : Node) (held : DumpHeld) → Contains (dump_node silo node).held held → IsHeldBy silo node held
  held_by silo node held c =
      let found = in_map (λ (e : Grain × Held). dump_held silo e.0 e.1) node.host.held held c in
      record { its = found.0; among = found.1; is = found.2 }

  firm_here : (silo : Silo) (node : Node) → node_of f silo ≡ Some node → (held : DumpHeld) → Contains (firm_held (dump_node silo node)) held
      → (its : Held) × IsFirmOn f held.grain silo its ×
      (entry_of_held held ≡ record { grain = held.grain; activation = record { silo = silo; count = its.count } })
  firm_here silo node there held c =
      let kept = in_filter (λ (h : DumpHeld). is_firm_phase h.phase) (dump_node silo node).held held c in
      let by = held_by silo node held kept.0 in
      let e = by.its in
      let found = held_found node.host.held e (facts.nodes silo node there).own.once by.among in
      let firm : e.1.phase ≡ phase.Firm = firm_is e.1.phase (ap (λ (h : DumpHeld). is_firm_phase h.phase) by.is ∙ kept.1) in
      let on : IsFirmOn f e.0 silo e.1 = record { node = node; live = there; found = found; firm = firm } in (
        e.1,
        subst (λ (h : DumpHeld). IsFirmOn f h.grain silo e.1) by.is on,
        subst
            (λ (h : DumpHeld). entry_of_held h ≡ record { grain = h.grain; activation = record { silo = silo; count = e.1.count } }) by.is refl,
      )

  firm_of : (node : DumpNode) → IsDumped f node → (grain : Grain) → Contains (firm_grains node) grain
      → (its : Held) × IsFirmOn f grain node.silo its
  firm_of node is grain c =
      let at = subst (λ (n : DumpNode). Contains (firm_grains n) grain) (sym is.is) c in
      let found = in_map (λ (h : DumpHeld). h.grain) (firm_held (dump_node is.silo is.node)) grain at in
      let firm = firm_here is.silo is.node is.there found.0 found.1 in (
        firm.0,
        subst (λ (g : Grain). IsFirmOn f g node.silo firm.0) found.2
            (subst (λ (n : DumpNode). IsFirmOn f found.0.grain n.silo firm.0) is.is firm.1),
      )

  no_two : (nodes : List DumpNode) → All (IsDumped f) nodes → AllPairs (OfOthers m.hash f facts) nodes → (grain : Grain)
      → ¬ (IsFirmOnTwo grain nodes)
  no_two [] are apart grain never = never
  no_two (node ∷ nodes) are apart grain (inl two) =
      let others = All-tail (IsDumped f) node nodes are in
      let here = firm_of node (All-head (IsDumped f) node nodes are) grain two.0 in
      let there = firm_of two.1.0 (All-contains (IsDumped f) nodes two.1.0 others two.1.1) grain two.1.2 in
      All-contains (OfOthers m.hash f facts node) nodes two.1.0 (pairs_head (OfOthers m.hash f facts) node nodes apart) two.1.1
      ((headline m f setting facts carried).no_two_firm grain node.silo two.1.0.silo here.0 there.0 here.1 there.1)
  no_two (node ∷ nodes) are apart grain (inr later) =
      no_two nodes (All-tail (IsDumped f) node nodes are) (pairs_tail (OfOthers m.hash f facts) node nodes apart) grain later

  one_firm : NoGrain (λ grain. IsFirmOnTwo grain (live_nodes (dump_of f)))
  one_firm grain =
      no_two (live_nodes (dump_of f)) (each_live m.hash f facts (IsDumped f)
      (λ silo node found. record { silo = silo; node = node; there = found; is = refl })) (live_apart m.hash f facts) grain

  -- ---- settled pieces of silos that have seen the current version
  record IsCurrent (piece : DumpPiece) : Type 0 where
    silo : Silo
    node : Node
    there : node_of f silo ≡ Some node
    seen : node.view.version ≡ f.views.version
    its : ℕ × Piece
    among : Contains node.holding.pieces its
    settled : its.1.state ≡ state.Settled
    is : dump_piece its.1 ≡ piece

  -- a settled piece of the dump is one of the node's
  current_one : (silo : Silo) (node : Node) → node_of f silo ≡ Some node → node.view.version ≡ f.views.version → (piece : DumpPiece)
      → is_settled_state piece.state ≡ true
      → (e : ℕ × Piece) → Contains node.holding.pieces e → dump_piece e.1 ≡ piece → IsCurrent piece
  current_one silo node there seen piece settled e among is = record {
    silo = silo;
    node = node;
    there = there;
    seen = seen;
    its = e;
    among = among;
    settled = settled_is e.1.state (subst (λ (p : DumpPiece). is_settled_state p.state ≡ true) (sym is) settled);
    is = is;
  }

  current_on : (node : DumpNode) → IsDumped f node → node.seen ≡ f.views.version → (piece : DumpPiece)
      → Contains (filter (λ p. is_settled_state p.state) node.pieces) piece → IsCurrent piece
  current_on node of seen piece c =
      let settled = in_filter (λ (p : DumpPiece). is_settled_state p.state) node.pieces piece c in
      let there = subst (λ (n : DumpNode). Contains n.pieces piece) (sym of.is) settled.0 in
      let one = in_map (λ (e : ℕ × Piece). dump_piece e.1) of.node.holding.pieces piece there in
      current_one of.silo of.node of.there (subst (λ (n : DumpNode). n.seen ≡ f.views.version) (sym of.is) seen) piece settled.1 one.0 one.1
      one.2

  current : (piece : DumpPiece) → Contains (current_pieces (dump_of f)) piece → IsCurrent piece
  unfolding dump_of
  current piece c =
      let seen = λ (node : DumpNode). node.seen == (dump_of f).current in
      let from = in_flat_map (λ (node : DumpNode). filter (λ p. is_settled_state p.state) node.pieces) (filter seen (live_nodes (dump_of f))) piece c in
      let kept = in_filter seen (live_nodes (dump_of f)) from.0 from.1 in
      current_on from.0 (dumped m.hash f facts from.0 kept.0) (eqb-true from.0.seen f.views.version kept.1) piece from.2

  -- such a piece's entries of a hash that it has are right
  right_there : (piece : DumpPiece) (is : IsCurrent piece) (h : ℕ) → holds is.its.1.range h ≡ true
      → IsRightTable f h (filter (is_hashed_so m.hash h) (entries_of is.its.1.entries))
  right_there piece is h held =
      let found = piece_found m.hash f facts is.silo is.node is.there is.its is.among h held in
      let at : IsSettledAt f f.views.version h is.silo is.node = record {
        live = is.there;
        seen = is.seen;
        owner =
            subst (λ version. OwnsIn f version is.silo h) is.seen
            (owns_in m f setting facts carried is.silo is.node h is.its.1 is.there found);
        piece = is.its.1;
        found = found;
        settled = is.settled;
      } in
      piece_right m f setting facts carried f.views.version h is.silo is.node at refl

  -- a firm activation has its entry there
  entered_there : (silo : Silo) (node : Node) → node_of f silo ≡ Some node → (held : DumpHeld)
      → Contains (firm_held (dump_node silo node)) held → (piece : DumpPiece) (is : IsCurrent piece)
      → holds is.its.1.range (hash_grain f.settings.hashing held.grain) ≡ true → Contains piece.entries (entry_of_held held)
  entered_there silo node there held c piece is lies =
      let h = hash_grain f.settings.hashing held.grain in
      let firm = firm_here silo node there held c in
      let complete = (right_there piece is h lies).complete held.grain silo firm.0 refl firm.1 in
      let has = (in_filter (is_hashed_so m.hash h) (entries_of is.its.1.entries) _ complete).0 in
      subst (λ (p : DumpPiece). Contains p.entries (entry_of_held held)) is.is
      (subst (λ (e : Entry). Contains (entries_of is.its.1.entries) e) (sym firm.2) has)

  entered_by : (node : DumpNode) → IsDumped f node → (entry : Entry) → Contains (map entry_of_held (firm_held node)) entry
      → (piece : DumpPiece) (is : IsCurrent piece)
      → holds is.its.1.range (hash_grain f.settings.hashing entry.grain) ≡ true → Contains piece.entries entry
  entered_by node of entry c piece is lies =
      let there = subst (λ (n : DumpNode). Contains (map entry_of_held (firm_held n)) entry) (sym of.is) c in
      let held = in_map entry_of_held (firm_held (dump_node of.silo of.node)) entry there in
      subst (λ (e : Entry). Contains piece.entries e) held.2
      (entered_there of.silo of.node of.there held.0 held.1 piece is
      (subst (λ (e : Entry). holds is.its.1.range (hash_grain f.settings.hashing e.grain) ≡ true) (sym held.2) lies))

  entered : NoGrain (IsMissing (dump_of f))
  unfolding dump_of
  entered grain (entry, among, same, (piece, currently, (inside, absent))) =
      let of = in_flat_map (λ (node : DumpNode). map entry_of_held (firm_held node)) (live_nodes (dump_of f)) entry among in
      let is = current piece currently in
      absent (entered_by of.0 (dumped m.hash f facts of.0 of.1) entry of.2 piece is
      (ap (λ (p : DumpPiece). holds p.range (hash_grain f.settings.hashing entry.grain)) is.is ∙ inside))

  -- ---- entries
  held_listed : (entry : Entry) → IsHeld f entry.grain entry.activation → Contains (held_entries (dump_of f)) entry
  held_listed entry is =
      let silo = entry.activation.silo in
      let among =
      Contains-from_lookup {eq = λ a. is_at (grain_cmp a)} (λ x y at. same_key grain_cmp grain_cmp_exact x y at) entry.grain is.held
      is.node.host.held is.found in
      let listed = to_map (λ (e : Grain × Held). dump_held silo e.0 e.1) is.node.host.held (entry.grain, is.held) among in
      let one = to_map entry_of_held (dump_node silo is.node).held (dump_held silo entry.grain is.held) listed in
      let same : entry_of_held (dump_held silo entry.grain is.held) ≡ entry = ap (λ count. record { grain = entry.grain; activation = record { silo = silo; count = count } }) is.count in
      to_flat_map (λ (node : DumpNode). map entry_of_held node.held) (live_nodes (dump_of f)) (dump_node silo is.node) entry
      (live_there m.hash f facts silo is.node is.live)
      (subst (λ (e : Entry). Contains (map entry_of_held (dump_node silo is.node).held) e) same one)

  entry_held : (entry : Entry) (piece : DumpPiece) → IsCurrent piece → Contains piece.entries entry → IsHeld f entry.grain entry.activation
  entry_held entry piece is c =
      let h = m.hash entry.grain in
      let its = is.its.1 in
      let there = subst (λ (p : DumpPiece). Contains p.entries entry) (sym is.is) c in
      let inside = All-map (λ (e : Entry). holds its.range (m.hash e.grain) ≡ true) (λ (x : Grain × Entry). x.1) its.entries (piece_is m.hash f facts is.silo is.node is.there is.its is.among).inside in
      let lies = All-contains (λ (e : Entry). holds its.range (m.hash e.grain) ≡ true) (entries_of its.entries) entry inside there in
      All-contains (λ (e : Entry). IsHeld f e.grain e.activation) (filter (is_hashed_so m.hash h) (entries_of its.entries)) entry
      (right_there piece is h lies).held
      (to_filter (is_hashed_so m.hash h) (entries_of its.entries) entry there (eq-eqb h h refl))

  none_strange : NoGrain (IsStrange (dump_of f))
  none_strange grain (entry, among, same, stranger) =
      let of = in_flat_map (λ (piece : DumpPiece). piece.entries) (current_pieces (dump_of f)) entry among in
      stranger (held_listed entry (entry_held entry of.0 (current of.0 of.1) of.2))

  -- ---- all
  pub is_right_dump : IsRightDump (dump_of f)
  is_right_dump = record {
    rings = each_live m.hash f facts (HasItsRing (dump_of f)) (has_its_ring m.hash f facts);
    pieces = each_live m.hash f facts (HasRightPieces (dump_of f)) (λ silo node there. record {
      ranges = has_its_ranges m.hash f facts silo node there;
      inside = entries_inside f own_facts silo node there;
      single = one_entry m.hash f facts silo node there;
    });
    one_firm = one_firm;
    entered = entered;
    held = none_strange;
  }
