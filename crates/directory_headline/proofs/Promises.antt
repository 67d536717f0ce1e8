-- The headline, of a world that the protocol shows.
use Rattle.std.proofs.Common.{arith, ◌≡◌, ◌&&◌, ℕ, ◌<◌, List, IsSome, refl, sym, ap, subst, ◌∙◌}
use Rattle.std.specs.Prelude.{◌==◌, ◌≤◌, not, nat_lt, Bool, true, false, is_some, filter, flat_map, All, Contains, Option, Some, None, Result, Ok, Err}
use Rattle.std.specs.Option.{option_map}
use Rattle.std.specs.List.{slice_index_or}
use Rattle.std.specs.Ordering.{is_gt}
use Rattle.std.proofs.lemmas.Bool.{eqb-true, eq-eqb, lt-ltb}
use Rattle.std.proofs.lemmas.List.Elements.{All-contains, All-contains_itself, All-weaker}
use Rattle.silo_address.specs.Silo.{Silo, silo_cmp}
use Rattle.silo_address.specs.Grain.{Grain}
use Rattle.silo_address.specs.declared.ActivationId.{ActivationId}
use Rattle.silo_address.specs.declared.Entry.{Entry}
use Rattle.silo_address.proofs.Same.{same_entry}
use Rattle.membership_view.specs.declared.status.Status.{Status}
use Rattle.membership_view.specs.View.{status_of}
use Rattle.membership_view.specs.Views.{view_at, status_at}
use Rattle.membership_view.proofs.Said.{views_say_statuses}
use Rattle.ring_range.specs.Range.{circle, IsRange}
use Rattle.hash_ring.specs.declared.point.Point.{Point}
use Rattle.hash_ring.specs.Point.{back, HaveSamePoints}
use Rattle.hash_ring.specs.Owner.{IsOwner}
use Rattle.hash_ring.specs.Ring.{points_of, sorted_ring, IsSortedAnew}
use Rattle.hash_ring.proofs.Lawful.{is_sorted_anew}
use Rattle.hash_ring.proofs.PlacesKept.{IsRing-anew}
use Rattle.directory_protocol.specs.Setting.{Setting}
use Rattle.directory_protocol.specs.Letters.{activation_on}
use Rattle.directory_protocol.specs.World as protocol
use Rattle.directory_protocol.specs.Safety as safe
use Rattle.directory_protocol.proofs.Runs.{holds_where_reached}
use Rattle.directory_protocol.proofs.All.{one_silo_settles, settled_tables_are_right, no_two_firm}
use Rattle.directory_rules.specs.declared.held.Held.{Held}
use Rattle.directory_rules.specs.declared.held.Phase.{Phase}
use Rattle.directory_rules.specs.declared.held.Phase.TheVariants as phase
use Rattle.directory_rules.specs.declared.reply.Why.{Why}
use Rattle.directory_rules.specs.Members.{is_known_dead}
use Rattle.directory_rules.specs.Table.{entry_at, entries_of}
use Rattle.directory_rules.specs.State.{Piece, Node, World}
use Rattle.directory_rules.specs.Sight.{is_settled}
use Rattle.directory_rules.specs.Answer.{piece_with, serving_piece, answered_from}
use Rattle.directory_rules.specs.Host.{entry_on, held_of}
use Rattle.directory_rules.specs.Happens.{node_of}
use Rattle.directory_rules.specs.Settled.{HasNode, OwnsIn, IsSettledAt, entries_with, IsHeld, IsFirmOn, AreComplete, IsRightTable, IsRightOnLive}
use Rattle.directory_rules.specs.Headline.{RingsAreSortedAnew, IsRetry, UnsettledRangesRetry, NoTwoFirm, OneSettles, Headline}
use Rattle.directory_rules.proofs.People.{live_said}
use Rattle.directory_rules.proofs.Retried.{unsettled_retries}
use Rattle.directory_facts.proofs.Hashes.{grains_have_hashes}
use Rattle.directory_facts.proofs.Served.{serves}
use Rattle.directory_headline.specs.Setting.{IsSettingOf}
use Rattle.directory_headline.specs.Shown.{held_in, held_as, activation_in, is_settled_piece}
use Rattle.directory_headline.proofs.Facts.{WorldFacts, IsPiece}
use Rattle.directory_headline.proofs.Frame.{Here, node_shown, seen_is, hash_is, alive}
use Rattle.directory_headline.proofs.Viewed.{Carried}
use Rattle.directory_headline.proofs.Statuses.{alive_live}
use Rattle.directory_headline.proofs.PieceAt.{of_found}
use Rattle.directory_headline.proofs.HighHashes.{hash_for, hash_below, is_hash, owns_by, found_hash, found_owned, held_once}
use Rattle.directory_headline.proofs.HashPieces.{is_hashed_so, only_piece}
use Rattle.directory_headline.proofs.TableEntries.{found_own, picked_found, picked_all, picked_once}

-- ---- owners by the same points
owner_same : (one other : List Point) (hash : ℕ) (owner : Point) → HaveSamePoints one other → IsOwner one hash owner
    → IsOwner other hash owner
owner_same one other hash owner same is = record {
  there = same.forth owner is.there;
  nearest = everywhere (λ p. back hash owner.place ≤ back hash p.place) is.nearest;
  first_silo = everywhere (λ p. p.place ≡ owner.place → is_gt (silo_cmp owner.silo p.silo) ≡ false) is.first_silo;
  first_index = everywhere (λ p. p.place ≡ owner.place → p.silo ≡ owner.silo → owner.index ≤ p.index) is.first_index;
}
  where
    everywhere : (P : Point → Type 0) → All P one → All P other
    everywhere P all =
        λ k d below. All-contains P one (slice_index_or other k d) all
        (same.back (slice_index_or other k d) (All-contains_itself other k d below))

-- ---- activations
held_count : (its : Phase) (count : ℕ) (previous : Option ActivationId) → protocol.count_of (held_in its count previous) ≡ count
held_count (phase.Asking number) count previous = refl
held_count phase.Firm count previous = refl
held_count (phase.Closing number) count previous = refl

some_node : (o : Option Node) → is_some o ≡ true → (node : Node) × (o ≡ Some node)
some_node None is = absurd (cc (is))
some_node (Some node) is = (node, refl)

module _ (m : Setting) (f : World) (setting : IsSettingOf m f) (facts : WorldFacts m.hash f) (carried : Carried m f) where
  abbrev w : protocol.World
  w = carried.world

  here : (silo : Silo) (node : Node) → node_of f silo ≡ Some node → Here m f w silo node
  here silo node there = record { setting = setting; facts = facts; there = there; reached = carried.reached; shown = carried.shown }

  -- ---- rings
  points_are : (silo : Silo) (node : Node) → HasNode f silo node
      → node.ring.points ≡ sorted_ring (view_at f.views node.view.version) f.places
  points_are silo node has =
      let sees = (facts.nodes silo node has).sees in
      ap (λ r. r.points) sees.ring_is ∙ ap (λ view. sorted_ring view f.places) sees.view_is

  rings_are_sorted_anew : RingsAreSortedAnew f
  rings_are_sorted_anew silo node has =
      subst (λ points. IsSortedAnew points (points_of (view_at f.views node.view.version) f.places)) (sym (points_are silo node has))
      (is_sorted_anew (points_of (view_at f.views node.view.version) f.places))

  -- ---- firm activations
  firm_on : (grain : Grain) (silo : Silo) (held : Held) → IsFirmOn f grain silo held → safe.IsFirmOn m w grain silo held.count
  firm_on grain silo held is = record {
    alive = alive m f w silo is.node (here silo is.node is.live);
    firm =
        (node_shown m f w silo is.node (here silo is.node is.live)).host.held grain ∙ ap (option_map held_as) is.found
        ∙ ap (λ p. Some (held_in p held.count held.previous)) is.firm;
  }

  no_two_are_firm : NoTwoFirm f
  no_two_are_firm grain s t x y one other =
      ap (λ a. a.silo) (holds_where_reached safe.OneFirm no_two_firm m w carried.reached grain s t x.count y.count (firm_on grain s x one)
      (firm_on grain t y other))

  -- what the protocol says that a live silo holds, its node holds
  node_holds : (grain : Grain) (a : ActivationId) (node : Node) → HasNode f a.silo node → (x : protocol.Held) → w.held a.silo grain ≡ Some x
      → protocol.count_of x ≡ a.count → IsHeld f grain a
  node_holds grain a node has x there count = by (held_of node.host grain) refl
    where
      by : (o : Option Held) → held_of node.host grain ≡ o → IsHeld f grain a
      by None found =
          let none = (node_shown m f w a.silo node (here a.silo node has)).host.held grain ∙ ap (option_map held_as) found in
          absurd (cc (none, there))
      by (Some held) found =
          let some : w.held a.silo grain ≡ Some (held_as held) = (node_shown m f w a.silo node (here a.silo node has)).host.held grain ∙ ap (option_map held_as) found in
          let same : held_as held ≡ x = cc (some, there) in
          record {
            node = node;
            live = has;
            held = held;
            found = found;
            count = sym (held_count held.phase held.count held.previous)
                ∙ ap protocol.count_of same ∙ count;
          }

  -- a silo that isn't dead and holds something has a node
  holder_there : (silo : Silo) (grain : Grain) (x : protocol.Held) → m.alive w.now silo ≡ true → w.held silo grain ≡ Some x
      → (node : Node) × HasNode f silo node
  holder_there silo grain x lives there =
      let known : not (is_known_dead (status_of (view_at f.views f.views.version) silo)) ≡ true =
      sym (ap (λ version. m.alive version silo) carried.shown.now ∙ setting.alive f.views.version silo (omega arith)) ∙ lives in
      some_node (node_of f silo) (facts.peopled.live silo
      ∙ sym (live_said f.views facts.peopled.whole f.views.version (omega arith) silo)
      ∙ alive_live (status_of (view_at f.views f.views.version) silo) listed known)
    where
      row : (status : Option Status) → status_at f.views f.views.version silo ≡ status → IsSome (status_at f.views f.views.version silo)
      row None none = let first = ap (λ s. s.held grain) (carried.shown.absent silo none) in absurd (cc (first, there))
      row (Some status) is = subst (λ o. IsSome o) (sym is) refl

      there_now : IsSome (status_at f.views f.views.version silo)
      there_now = row (status_at f.views f.views.version silo) refl

      listed : IsSome (status_of (view_at f.views f.views.version) silo)
      listed = subst (λ o. IsSome o) (sym (views_say_statuses f.views facts.peopled.whole silo f.views.version (omega arith) there_now)) there_now

  -- ---- settled hashes
  module _ (version number : ℕ) (silo : Silo) (node : Node) (at : IsSettledAt f version number silo node) where
    pieces_ranged : All (λ e. IsRange e.1.range) node.holding.pieces
    pieces_ranged =
        All-weaker (λ e. IsPiece m.hash e.1) (λ (e : ℕ × Piece). IsRange e.1.range) (λ e is. is.range) node.holding.pieces
        (facts.nodes silo node at.live).pieces.each

    piece_is : IsPiece m.hash at.piece
    piece_is =
        (of_found (λ e. IsPiece m.hash e.1) number node.holding.pieces at.piece (facts.nodes silo node at.live).pieces.each at.found).1

    is_settled_so : safe.IsSettledAt m w (hash_for number) silo
    is_settled_so =
        let so = found_hash node.ring.points node.host.silo node.holding.pieces (facts.nodes silo node at.live).once pieces_ranged number at.piece at.found in
        record {
          alive = alive m f w silo node (here silo node at.live);
          settled =
              (node_shown m f w silo node (here silo node at.live)).holding.settled (hash_for number)
              ∙ ap (λ o. is_settled_piece o && nat_lt (hash_for number) circle) so
              ∙ ap (λ s. is_settled s && nat_lt (hash_for number) circle) at.settled ∙ lt-ltb (hash_for number) circle (is_hash number);
        }

    -- of a grain that is hashed to it
    module _ (grain : Grain) (hashed : m.hash grain ≡ number) where
      hash_so : hash_for number ≡ m.hash grain
      hash_so =
          let below : m.hash grain < circle = subst (λ hash. hash grain < circle) (sym setting.hash) (grains_have_hashes f.settings.hashing grain) in
          ap hash_for (sym hashed) ∙ hash_below (m.hash grain) below

      right : safe.IsRight m w silo grain
      right =
          holds_where_reached safe.SettledIsRight settled_tables_are_right m w carried.reached grain silo
          (subst (λ h. safe.IsSettledAt m w h silo) hash_so is_settled_so)

      table_is : w.table silo grain ≡ activation_in (entry_at grain at.piece.entries)
      table_is =
          (node_shown m f w silo node (here silo node at.live)).holding.table grain at.piece
          (ap (λ h. piece_with h node.holding.pieces) hashed ∙ at.found) at.settled

    abbrev its : Entry → Bool
    its = is_hashed_so m.hash number

    entries_are : entries_with number node ≡ filter its (entries_of at.piece.entries)
    entries_are =
        ap (λ hash. filter (λ e. hash e.grain == number) (flat_map (λ p. entries_of p.1.entries) node.holding.pieces))
        (sym (hash_is m f w silo node (here silo node at.live)))
        ∙ only_piece m.hash number node.holding.pieces at.piece (facts.nodes silo node at.live).pieces.each
        (held_once node.ring.points node.host.silo node.holding.pieces (facts.nodes silo node at.live).once pieces_ranged number) at.found

    is_complete : AreComplete f number (filter its (entries_of at.piece.entries))
    is_complete grain t held hashed firm =
        let so : m.hash grain ≡ number = ap (λ hash. hash grain) setting.hash ∙ hashed in
        by so (entry_at grain at.piece.entries) refl (sym (table_is grain so)
        ∙ (right grain so).complete t held.count (firm_on grain t held firm))
      where
        by : m.hash grain ≡ number → (o : Option Entry) → entry_at grain at.piece.entries ≡ o
            → activation_in (entry_at grain at.piece.entries) ≡ Some (activation_on t held.count)
            → Contains (filter its (entries_of at.piece.entries)) (entry_on t grain held)
        by so None found is = let none = ap activation_in found in absurd (cc (is))
        by so (Some e) found is =
            let some : Some e.activation ≡ Some (activation_on t held.count) = sym (ap activation_in found) ∙ is in
            let one : e.activation ≡ activation_on t held.count = cc (some) in
            let own : e.grain ≡ grain = found_own grain at.piece.entries e piece_is.table.own_grain found in
            let passes : its e ≡ true = eq-eqb (m.hash e.grain) number (ap m.hash own ∙ so) in
            subst (Contains (filter its (entries_of at.piece.entries))) (same_entry e (entry_on t grain held) own one)
            (picked_found its grain at.piece.entries e found passes)

    -- what is so of each entry that is found in the piece, under the hash
    each_entry : (P : Entry → Type 0) → ((e : Entry) → m.hash e.grain ≡ number → w.table silo e.grain ≡ Some e.activation → P e)
        → All P (filter its (entries_of at.piece.entries))
    each_entry P so =
        picked_all its P at.piece.entries piece_is.table
        (λ e found passes. let hashed = eqb-true (m.hash e.grain) number passes in
        so e hashed (table_is e.grain hashed ∙ ap activation_in found))

    pub right_on_live : IsRightOnLive f number (entries_with number node)
    right_on_live = subst (IsRightOnLive f number) (sym entries_are) (record {
      complete = is_complete;
      held =
          each_entry (λ e. (other : Node) → HasNode f e.activation.silo other → IsHeld f e.grain e.activation) (λ e hashed there other has.
          let holds = (right e.grain hashed).held e.activation there (alive m f w e.activation.silo other (here e.activation.silo other has)) in
          node_holds e.grain e.activation other has holds.0 holds.1 holds.2);
      one_a_grain = picked_once its at.piece.entries piece_is.table;
    })

    -- so is the piece's own, at the current version
    pub piece_right : version ≡ f.views.version → IsRightTable f number (filter its (entries_of at.piece.entries))
    piece_right current = record {
      complete = is_complete;
      held = each_entry (λ e. IsHeld f e.grain e.activation) (λ e hashed there.
          let lives = (right e.grain hashed).live e.activation there (seen_is m f w silo node (here silo node at.live) ∙ at.seen ∙ current ∙ sym carried.shown.now) in
          let holds = (right e.grain hashed).held e.activation there lives in
          let one = holder_there e.activation.silo e.grain holds.0 lives holds.1 in
          node_holds e.grain e.activation one.0 one.1 holds.0 holds.1 holds.2);
      one_a_grain = picked_once its at.piece.entries piece_is.table;
    }

    pub right_now : version ≡ f.views.version → IsRightTable f number (entries_with number node)
    right_now current = subst (IsRightTable f number) (sym entries_are) (piece_right current)

  one_silo_has_it : OneSettles f
  one_silo_has_it v u number s t x y one other =
      holds_where_reached safe.OneSettles one_silo_settles m w carried.reached (hash_for number) s t (is_settled_so v number s x one)
      (is_settled_so u number t y other)

  -- ---- retries
  pub owns_in : (silo : Silo) (node : Node) (number : ℕ) (piece : Piece) → HasNode f silo node
      → piece_with number node.holding.pieces ≡ Some piece → OwnsIn f node.view.version silo number
  owns_in silo node number piece has found =
      let own = facts.nodes silo node has in
      let ranged = All-weaker (λ e. IsPiece m.hash e.1) (λ (e : ℕ × Piece). IsRange e.1.range) (λ e is. is.range) node.holding.pieces own.pieces.each in
      let points = points_are silo node has in
      let ring = IsRing-anew (view_at f.views node.view.version) f.places facts.places node.ring.version node.ring.points points in
      let owner = owns_by node.ring.points number node.host.silo ring.on_circle (found_owned node.ring.points node.host.silo node.holding.pieces own.once ranged number piece found) in
      let same = (rings_are_sorted_anew silo node has).same in (
        owner.0,
        owner_same node.ring.points (points_of (view_at f.views node.view.version) f.places) number owner.0 same owner.1,
        owner.2
            ∙ own.own.host_is,
      )

  unsettled_ranges_retry : UnsettledRangesRetry f
  unsettled_ranges_retry silo node request has current nowhere = by (serving_piece node.holding request) refl
    where
      by : (serving : Result Piece Why) → serving_piece node.holding request ≡ serving
          → IsRetry (answered_from serving node.holding request).reply
      by (Err why) is = (why, refl)
      by (Ok piece) is =
          let so = serves node.holding request piece is in
          let seen : node.view.version ≡ f.views.version = sym (facts.nodes silo node has).of_one_version.holding ∙ sym so.version ∙ current in
          let at : IsSettledAt f f.views.version request.hash silo node = record {
            live = has;
            seen = seen;
            owner = subst (λ version. OwnsIn f version silo request.hash) seen (owns_in silo node request.hash piece has so.found);
            piece = piece;
            found = so.found;
            settled = so.settled;
          } in
          absurd (nowhere (silo, node, at))

  pub headline : Headline f
  headline = record {
    rings = rings_are_sorted_anew;
    settled = λ number silo node at. right_now f.views.version number silo node at refl;
    earlier = λ version number silo node at. right_on_live version number silo node at;
    unsettled = unsettled_ranges_retry;
    pieces = λ silo node request piece has found not. unsettled_retries node.holding request piece found not;
    no_two_firm = no_two_are_firm;
    none_firm_twice = λ silo node has i j d less below firm later. (facts.nodes silo node has).own.once i j d less below;
    one_settles = one_silo_has_it;
  }
