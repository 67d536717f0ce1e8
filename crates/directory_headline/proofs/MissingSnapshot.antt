-- A piece whose snapshot is missing recovers from now on.
use Rattle.std.proofs.Common.{◌≡◌, ℕ, [], refl, sym, ap, ◌∙◌}
use Rattle.std.specs.Prelude.{false, Option, Some, None}
use Rattle.std.specs.Ordering.{nat_cmp}
use Rattle.std.specs.BTreeMap.{is_at}
use Rattle.std.proofs.lemmas.Map.Lookups.{exact_unsigned}
use Rattle.std.proofs.lemmas.List.Elements.{All-map}
use Rattle.silo_address.specs.Silo.{Silo}
use Rattle.ring_range.specs.Range.{Range, holds}
use Rattle.directory_protocol.specs.Setting.{Setting}
use Rattle.directory_protocol.specs.World as protocol
use Rattle.directory_rules.specs.declared.piece_state.PieceState.{PieceState}
use Rattle.directory_rules.specs.declared.piece_state.PieceState.TheVariants as state
use Rattle.directory_rules.specs.Table.{entry_at}
use Rattle.directory_rules.specs.State.{Piece, Gathering, Recovery, Letter, Node, World}
use Rattle.directory_rules.specs.Recovery.{new_recovery}
use Rattle.directory_rules.specs.Sight.{is_settled}
use Rattle.directory_rules.specs.Sent.{query_to, recovery_of}
use Rattle.directory_rules.specs.Transfer.{querying, turned_to_recovery, with_state}
use Rattle.directory_rules.proofs.Cases.{on_bool}
use Rattle.directory_facts.proofs.Entries.{all_put, all_removed}
use Rattle.directory_facts.proofs.Ways.{HasPiece}
use Rattle.directory_headline.specs.SiloState.{state_of}
use Rattle.directory_headline.specs.Shown.{activation_in, IsShownHolding, IsShownLetter, IsShownGathering, IsShownRecovery}
use Rattle.directory_headline.proofs.Frame.{Here, Moves, stays}
use Rattle.directory_headline.proofs.Stands.{stands}
use Rattle.directory_headline.proofs.SettledPiece.{grain_below, changed_has, others_have, settled_changed}
use Rattle.directory_headline.proofs.NewRecoveries.{recovery_begins}

module _ (m : Setting) (f : World) (w : protocol.World) (silo : Silo) (node : Node) (here : Here m f w silo node) where
  holding_turned : (version : ℕ) (range : Range) (piece : Piece) → HasPiece node version range piece → is_settled piece.state ≡ false
      → IsShownHolding m.hash (with_state node range state.Recovering []).holding (state_of w silo)
  holding_turned version range piece has waits =
      let it = stands m f w silo node here in
      let was = it.shown.holding in
      record {
        settled = λ h. was.settled h ∙ sym (settled_changed m w silo node it version range piece has state.Recovering [] (sym waits) h);
        table = λ grain its found is.
            on_bool (λ b. holds range (m.hash grain) ≡ b → w.table silo grain ≡ activation_in (entry_at grain its.entries))
            (holds range (m.hash grain))
            (λ t held.
            let changed = sym (changed_has m w silo node it version range piece has state.Recovering [] (m.hash grain) (grain_below m f w silo node here grain) held) ∙ found in
            let its_state : state.Recovering ≡ its.state = ap (state_or state.Recovering) changed in
            absurd (cc (its_state ∙ is)))
            (λ no apart. was.table grain its (sym (others_have m w silo node it version range piece has state.Recovering []
            (m.hash grain) apart) ∙ found) is) refl;
        served = was.served;
      }
    where
      state_or : PieceState → Option Piece → PieceState
      state_or other None = other
      state_or other (Some p) = p.state

  pub turns : (letter : Letter) (range : Range) (piece : Piece) → HasPiece node letter.version range piece
      → piece.state ≡ state.Awaiting letter.from → Moves m w silo (querying range (turned_to_recovery node range))
  turns letter range piece has awaits =
      let it = stands m f w silo node here in
      let was = it.shown in
      let its = turned_to_recovery node range in
      stays m w silo (querying range its) (record {
        seen = was.seen;
        host = was.host;
        holding = holding_turned letter.version range piece has (ap is_settled awaits);
        shelf = was.shelf;
        gatherings =
            all_removed (λ (e : ℕ × Gathering). IsShownGathering m.hash w.snapshots e.1) (is_at (nat_cmp range.start)) node.gatherings
            was.gatherings;
        recoveries =
            all_put nat_cmp exact_unsigned (λ (e : ℕ × Recovery). IsShownRecovery m w.reports e.1) range.start
            (new_recovery node.view range) node.recoveries was.recoveries
            (recovery_begins m w silo node it range);
      }) (All-map (IsShownLetter m.hash w) (query_to its range) (recovery_of its range).awaiting (λ k d below. tt))
