-- The pieces after a sight, without their entries, are pieces made of the arcs.
use Rattle.std.proofs.Common.{◌≡◌, refl, ap, ℕ, List, [], ◌∷◌}
use Rattle.std.specs.Prelude.{Bool, true, false, cond, map, filter}
use Rattle.silo_address.specs.Silo.{Silo}
use Rattle.membership_view.specs.View.{ViewValue}
use Rattle.hash_ring.specs.declared.Hashing.{Hashing}
use Rattle.range_moves.specs.declared.RingArc.{RingArc}
use Rattle.directory_rules.specs.declared.PieceState.{PieceState}
use Rattle.directory_rules.specs.declared.PieceState.TheVariants.{Settled}
use Rattle.directory_rules.specs.State.{Piece}
use Rattle.directory_rules.specs.Sight.{is_owner, kept_entries, missing_state, piece_of, was_settled}
use Rattle.directory_rules.proofs.Pieces.{piece_range}
use Rattle.grain_partition.specs.Holdings.{ArePieces}
use Rattle.grain_partition.specs.Seen.{emptied, pieces_seen}
use Rattle.grain_partition.specs.Sight.{AreApart}
use Rattle.grain_partition.proofs.FromArcs.{made, pieces-made}

module _ (next : Bool) (hashing : Hashing) (view : ViewValue) (silo : Silo) (pieces : List (ℕ × Piece)) where
  -- the piece of an arc, without its entries
  abbrev pub piece_seen : RingArc → Piece
  piece_seen arc = record (piece_of next hashing view silo pieces arc) { entries = [] }

  abbrev pub is_owned : RingArc → Bool
  is_owned arc = is_owner silo arc.to

  pub same_range : (arc : RingArc) → (piece_seen arc).range ≡ arc.range
  same_range arc = piece_range next hashing view silo pieces arc

  -- its range and its state tell it
  pub told : (arc : RingArc) (state : PieceState) → state ≡ cond (was_settled pieces arc.range) Settled
      (missing_state next view silo arc.from)
      → record { range = arc.range; state = state; entries = [] } ≡ piece_seen arc
  told arc state is = by (was_settled pieces arc.range) is
    where
      by : (b : Bool) → state ≡ cond b Settled (missing_state next view silo arc.from)
          → record { range = arc.range; state = state; entries = [] }
          ≡ record (cond {A = Piece} b (record { range = arc.range; state = Settled; entries = kept_entries hashing view pieces arc.range })
          (record { range = arc.range; state = missing_state next view silo arc.from; entries = [] })) { entries = [] }
      by true is = ap (λ s. record { range = arc.range; state = s; entries = [] }) is
      by false is = ap (λ s. record { range = arc.range; state = s; entries = [] }) is

  pub seen_are : (arcs : List RingArc) → made piece_seen is_owned arcs ≡ pieces_seen next hashing view silo pieces arcs
  seen_are arcs = emptied_back (filter is_owned arcs)
    where
      emptied_back : (arcs : List RingArc) → map (λ arc. (arc.range.start, piece_seen arc)) arcs ≡ emptied
          (map (λ arc. (arc.range.start, piece_of next hashing view silo pieces arc)) arcs)
      emptied_back [] = refl
      emptied_back (arc ∷ arcs) = ap (λ l. (arc.range.start, piece_seen arc) ∷ l) (emptied_back arcs)

  pub seen_keep : (arcs : List RingArc) → AreApart arcs → ArePieces (made piece_seen is_owned arcs)
  seen_keep arcs apart = pieces-made piece_seen is_owned same_range arcs apart
