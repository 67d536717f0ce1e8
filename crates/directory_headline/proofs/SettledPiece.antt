-- A piece that wasn't settled is settled: what an installation and a recovery have in common.
use Rattle.std.proofs.Common.{arith, ◌≡◌, ℕ, ◌<◌, refl, sym, ap, subst, ◌∙◌}
use Rattle.std.specs.Prelude.{◌&&◌, nat_lt, Bool, true, false, cond, Option, Some}
use Rattle.std.specs.Ordering.{nat_cmp}
use Rattle.std.specs.BTreeMap.{is_at}
use Rattle.silo_address.specs.Silo.{Silo}
use Rattle.silo_address.specs.Grain.{Grain}
use Rattle.silo_address.specs.declared.ActivationId.{ActivationId}
use Rattle.texts.proofs.Decided.{both}
use Rattle.ring_range.specs.Range.{circle, Range, holds}
use Rattle.directory_protocol.specs.Setting.{Setting}
use Rattle.directory_protocol.specs.World as protocol
use Rattle.directory_protocol.specs.Actions.{Settling, MaySettle}
use Rattle.directory_protocol.specs.Effects.{after_settling}
use Rattle.directory_protocol.proofs.Changes.{put_same}
use Rattle.directory_rules.specs.declared.piece_state.PieceState.{PieceState}
use Rattle.directory_rules.specs.declared.piece_state.PieceState.TheVariants as state
use Rattle.directory_rules.specs.State.{Table, Piece, Gathering, Recovery, Node, World}
use Rattle.directory_rules.specs.Table.{entry_at}
use Rattle.directory_rules.specs.Answer.{piece_with}
use Rattle.directory_rules.specs.Sight.{is_settled}
use Rattle.directory_rules.specs.Transfer.{with_state, with_settled}
use Rattle.directory_rules.proofs.Cases.{on_bool}
use Rattle.directory_facts.proofs.Entries.{all_removed}
use Rattle.directory_facts.proofs.Hashes.{grains_have_hashes}
use Rattle.directory_facts.proofs.Ways.{HasPiece}
use Rattle.directory_headline.specs.SiloState.{state_of}
use Rattle.directory_headline.specs.Shown.{IsShownNode, IsShownHolding, IsShownGathering, IsShownRecovery, is_settled_piece, has_settled, activation_in}
use Rattle.directory_headline.proofs.PieceSet.{looked_counted, looked_found, set_found, set_elsewhere}
use Rattle.directory_headline.proofs.Stands.{Stands, stands}
use Rattle.directory_headline.proofs.Frame.{Here}

pub lt_true : (a b : ℕ) → nat_lt a b ≡ true → a < b
lt_true a b is = grind arith

lt_from : (a b : ℕ) → a < b → nat_lt a b ≡ true
lt_from a b less = grind arith

-- the hashes of the circle that the range holds
abbrev pub part_of_range : Range → (hash : ℕ) → Bool
part_of_range range h = holds range h && nat_lt h circle

module _ (m : Setting) (w : protocol.World) (silo : Silo) (node : Node) (stands : Stands m w silo node) where
  -- the hash of a grain is a hash
  hash_below : (grain : Grain) → m.hash grain < circle
  hash_below grain = subst (λ hash. hash grain < circle) (sym stands.hash) (grains_have_hashes node.settings.hashing grain)

  pub part_grain : (range : Range) (grain : Grain) → part_of_range range (m.hash grain) ≡ holds range (m.hash grain)
  part_grain range grain =
      on_bool (λ b. (b && nat_lt (m.hash grain) circle) ≡ b) (holds range (m.hash grain))
      (λ t. lt_from (m.hash grain) circle (hash_below grain)) (λ f. refl)

  module _ (version : ℕ) (range : Range) (piece : Piece) (has : HasPiece node version range piece) where
    held_by_piece : (h : ℕ) → holds range h ≡ true → holds piece.range h ≡ true
    held_by_piece h held = ap (λ r. holds r h) has.same ∙ held

    -- what lies in the piece is the silo's
    owns_piece : (h : ℕ) → h < circle → holds range h ≡ true → m.owner (w.seen silo) h ≡ Some silo
    owns_piece h below held =
        let counted = looked_counted range.start h node.holding.pieces piece has.found (held_by_piece h held) in
        ap (λ v. m.owner v h) stands.shown.seen ∙ stands.owns h below counted

    piece_has : (h : ℕ) → h < circle → holds range h ≡ true → piece_with h node.holding.pieces ≡ Some piece
    piece_has h below held = looked_found range.start h node.holding.pieces piece has.found (held_by_piece h held) (stands.in_one h)

    -- the piece with another state and table
    abbrev changed : PieceState → Table → Piece
    changed its table = record { range = range; state = its; entries = table }

    pub changed_has : (its : PieceState) (table : Table) (h : ℕ) → h < circle → holds range h ≡ true
        → piece_with h (with_state node range its table).holding.pieces ≡ Some (changed its table)
    changed_has its table h below held =
        set_found range.start h node.holding.pieces piece (changed its table) has.found (sym has.same) (held_by_piece h held)
        (stands.in_one h)

    pub others_have : (its : PieceState) (table : Table) (h : ℕ) → holds range h ≡ false
        → piece_with h (with_state node range its table).holding.pieces ≡ piece_with h node.holding.pieces
    others_have its table h apart =
        set_elsewhere range.start h node.holding.pieces piece (changed its table) has.found (sym has.same)
        (ap (λ r. holds r h) has.same ∙ apart)

    above : (b c : Bool) (h : ℕ) → nat_lt h circle ≡ false → (b && nat_lt h circle) ≡ (c && nat_lt h circle)
    above b c h is = ap (λ l. b && l) is ∙ never b ∙ sym (never c) ∙ ap (λ l. c && l) (sym is)
      where
        never : (d : Bool) → (d && false) ≡ false
        never true = refl
        never false = refl

    -- which hashes are settled then
    pub settled_changed : (its : PieceState) (table : Table) → is_settled its ≡ is_settled piece.state → (h : ℕ)
        → has_settled (with_state node range its table).holding.pieces h ≡ has_settled node.holding.pieces h
    settled_changed its table same h =
        on_bool (λ b. nat_lt h circle ≡ b → has_settled (with_state node range its table).holding.pieces h ≡ has_settled node.holding.pieces
        h) (nat_lt h circle)
        (λ t below. on_bool (λ b. holds range h ≡ b → has_settled (with_state node range its table).holding.pieces h ≡ has_settled
        node.holding.pieces h) (holds range h)
        (λ t held.
        ap (λ p. is_settled_piece p && nat_lt h circle) (changed_has its table h (lt_true h circle below) held)
        ∙ ap (λ b. b && nat_lt h circle) same
        ∙ ap (λ p. is_settled_piece p && nat_lt h circle) (sym (piece_has h (lt_true h circle below) held)))
        (λ f apart. ap (λ p. is_settled_piece p && nat_lt h circle) (others_have its table h apart)) refl)
        (λ f is. above (is_settled_piece (piece_with h (with_state node range its table).holding.pieces))
        (is_settled_piece (piece_with h node.holding.pieces)) h is) refl

    settled_more : (table : Table) → (h : ℕ) → has_settled (with_state node range state.Settled table).holding.pieces h ≡ cond
        (part_of_range range h) true (has_settled node.holding.pieces h)
    settled_more table h =
        on_bool (λ b. nat_lt h circle ≡ b → has_settled (with_state node range state.Settled table).holding.pieces h ≡ cond
        (part_of_range range h) true (has_settled node.holding.pieces h)) (nat_lt h circle)
        (λ t below. on_bool (λ b. holds range h ≡ b → has_settled (with_state node range state.Settled table).holding.pieces h ≡ cond
        (b && nat_lt h circle) true (has_settled node.holding.pieces h)) (holds range h)
        (λ t held.
        ap (λ p. is_settled_piece p && nat_lt h circle) (changed_has state.Settled table h (lt_true h circle below) held) ∙ below
        ∙ ap (λ b. cond b true (has_settled node.holding.pieces h)) (sym below))
        (λ f apart. ap (λ p. is_settled_piece p && nat_lt h circle) (others_have state.Settled table h apart)) refl)
        (λ f is.
        above (is_settled_piece (piece_with h (with_state node range state.Settled table).holding.pieces))
        (is_settled_piece (piece_with h node.holding.pieces)) h is
        ∙ ap (λ b. cond b true (has_settled node.holding.pieces h)) (sym (nothing (holds range h) h is))) refl
      where
        nothing : (b : Bool) (h : ℕ) → nat_lt h circle ≡ false → (b && nat_lt h circle) ≡ false
        nothing true h is = is
        nothing false h is = refl

    module _ (waits : is_settled piece.state ≡ false) (entries : Grain → Option ActivationId) (table : Table)
        (says : (grain : Grain) → holds range (m.hash grain) ≡ true → entries grain ≡ activation_in (entry_at grain table)) where
      abbrev pub settling : Settling
      settling = record { silo = silo; part = part_of_range range; entries = entries }

      pub may_settle : MaySettle m w settling
      may_settle = record {
        alive = stands.lives;
        owned = λ h is. let so = both (holds range h) (nat_lt h circle) is in owns_piece h (lt_true h circle so.1) so.0;
        unsettled = λ h is.
            let so = both (holds range h) (nat_lt h circle) is in
            stands.shown.holding.settled h
            ∙ ap (λ p. is_settled_piece p && nat_lt h circle) (piece_has h (lt_true h circle so.1) so.0)
            ∙ ap (λ b. b && nat_lt h circle) waits;
      }

      abbrev pub settled_world : protocol.World
      settled_world = after_settling m w settling

      holding_settled : IsShownHolding m.hash (with_settled node range table).holding (state_of settled_world silo)
      holding_settled =
          let was = stands.shown.holding in
          record {
            settled = λ h.
                ap (λ s. s h) (put_same silo (λ k. cond (part_of_range range k) true (w.settled silo k)) w.settled)
                ∙ ap (λ b. cond (part_of_range range h) true b) (was.settled h) ∙ sym (settled_more table h);
            table = λ grain its found is.
                ap (λ t. t grain) (put_same silo (λ g. cond (part_of_range range (m.hash g)) (entries g) (w.table silo g)) w.table)
                ∙ ap (λ b. cond b (entries grain) (w.table silo grain)) (part_grain range grain)
                ∙ on_bool (λ b. holds range (m.hash grain) ≡ b
                → cond b (entries grain) (w.table silo grain) ≡ activation_in (entry_at grain its.entries)) (holds range (m.hash grain))
                (λ t held.
                let one : Some (changed state.Settled table) ≡ Some its = sym (changed_has state.Settled table (m.hash grain) (hash_below grain) held) ∙ found in
                let same : changed state.Settled table ≡ its = cc (one) in
                says grain held ∙ ap (λ (p : Piece). activation_in (entry_at grain p.entries)) same)
                (λ f apart. was.table grain its (sym (others_have state.Settled table (m.hash grain) apart) ∙ found) is) refl;
            served = was.served;
          }

      -- the node with the piece settled
      pub node_settled : IsShownNode m settled_world (with_settled node range table) (state_of settled_world silo)
      node_settled =
          let was = stands.shown in
          record {
            seen = was.seen;
            host = record { held = was.host.held; next_number = was.host.next_number; next_count = was.host.next_count };
            holding = holding_settled;
            shelf = was.shelf;
            gatherings =
                all_removed (λ (e : ℕ × Gathering). IsShownGathering m.hash w.snapshots e.1) (is_at (nat_cmp range.start)) node.gatherings
                was.gatherings;
            recoveries =
                all_removed (λ (e : ℕ × Recovery). IsShownRecovery m w.reports e.1) (is_at (nat_cmp range.start)) node.recoveries
                was.recoveries;
          }

pub grain_below :
    (m : Setting) (f : World) (w : protocol.World) (silo : Silo) (node : Node) → Here m f w silo node → (grain : Grain)
    → m.hash grain < circle
grain_below m f w silo node here = hash_below m w silo node (stands m f w silo node here)
