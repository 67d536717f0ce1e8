-- What a sight keeps, awaits and seals names silos, grains and counts in their ranges.
use Rattle.std.proofs.Common.{◌≡◌, refl, ℕ, List, [], ◌∷◌, ◌++◌}
use Rattle.std.specs.Prelude.{Bool, true, false, cond, not, ◌||◌, All, Option, Some, None, filter, flat_map}
use Rattle.std.specs.List.{slice_index_or, cons_option}
use Rattle.std.proofs.lemmas.List.Elements.{All-nil, All-cons, All-append, All-map, All-filter}
use Rattle.silo_address.specs.Silo.{Silo, IsSilo, silo_eq}
use Rattle.silo_address.specs.Grain.{Grain}
use Rattle.silo_address.specs.declared.Entry.{Entry}
use Rattle.membership_view.specs.View.{ViewValue}
use Rattle.ring_range.specs.Range.{Range}
use Rattle.hash_ring.specs.declared.Hashing.{Hashing}
use Rattle.hash_ring.specs.declared.point.Point.{Point}
use Rattle.range_moves.specs.declared.RingArc.{RingArc}
use Rattle.range_moves.specs.Arcs.{arc_of, arcs_of, circle_cut_at, all_places}
use Rattle.directory_rules.specs.declared.piece_state.PieceState.{PieceState}
use Rattle.directory_rules.specs.declared.piece_state.PieceState.TheVariants as state
use Rattle.directory_rules.specs.Members.{is_dead_in}
use Rattle.directory_rules.specs.State.{Piece, Snapshot, Gathering, Recovery}
use Rattle.directory_rules.specs.Sight.{is_owner, was_settled, kept_entries, state_from, missing_state, piece_of, pieces_after, is_handed_over, snapshot_for, sealed, shelf_after}
use Rattle.directory_rules.specs.Gatherings.{new_gathering}
use Rattle.directory_rules.specs.Recovery.{new_recovery}
use Rattle.directory_rules.specs.Step as at
use Rattle.directory_rules.proofs.Cases.{on_bool}
use Rattle.directory_facts.specs.Named.{IsNamed, AreNamed, AwaitsSilo}
use Rattle.directory_facts.proofs.NamedTables.{AllNamed, entries_named, kept_named}
use Rattle.directory_facts.proofs.Names.{OfSilos, owner_named}

-- ---- the pieces of a sight
abbrev pub TablesNamed : List (ℕ × Piece) → Type 0
TablesNamed pieces = All (λ e. AreNamed e.1.entries) pieces

abbrev pub AwaitSilos : List (ℕ × Piece) → Type 0
AwaitSilos pieces = All (λ e. AwaitsSilo e.1.state) pieces

-- whose the arc was is a silo
abbrev pub FromSilo : Option Silo → Type 0
FromSilo from = (owner : Silo) → from ≡ Some owner → IsSilo owner

pub arcs_from : (old new : List Point) → OfSilos old → All (λ arc. FromSilo arc.from) (arcs_of old new)
arcs_from old new silos =
    All-map (λ (arc : RingArc). FromSilo arc.from) (arc_of old new) (circle_cut_at (all_places old new))
    (λ k d below owner is. owner_named old _ silos owner is)

from_awaits : (view : ViewValue) (silo : Silo) (from : Option Silo) → FromSilo from → AwaitsSilo (state_from view silo from)
from_awaits view silo None is = tt
from_awaits view silo (Some owner) is =
    on_bool (λ b. AwaitsSilo (cond b state.Recovering (state.Awaiting owner))) (silo_eq owner silo || is_dead_in view owner) (λ t. tt)
    (λ f. is owner refl)

missing_awaits : (next : Bool) (view : ViewValue) (silo : Silo) (from : Option Silo) → FromSilo from
    → AwaitsSilo (missing_state next view silo from)
missing_awaits true view silo from is = from_awaits view silo from is
missing_awaits false view silo from is = tt

module _ (next : Bool) (hashing : Hashing) (view : ViewValue) (silo : Silo) (pieces : List (ℕ × Piece)) (tables : TablesNamed pieces) where
  abbrev settled : RingArc → Piece
  settled arc = record { range = arc.range; state = state.Settled; entries = kept_entries hashing view pieces arc.range }

  abbrev unsettled : RingArc → Piece
  unsettled arc = record { range = arc.range; state = missing_state next view silo arc.from; entries = [] }

  piece_named : (arc : RingArc) → AreNamed (piece_of next hashing view silo pieces arc).entries
  piece_named arc =
      on_bool (λ b. AreNamed (cond b (settled arc) (unsettled arc)).entries) (was_settled pieces arc.range)
      (λ t. kept_named hashing view pieces arc.range tables) (λ f. All-nil (λ (e : Grain × Entry). IsNamed e.1))

  piece_awaits : (arc : RingArc) → FromSilo arc.from → AwaitsSilo (piece_of next hashing view silo pieces arc).state
  piece_awaits arc from =
      on_bool (λ b. AwaitsSilo (cond b (settled arc) (unsettled arc)).state) (was_settled pieces arc.range) (λ t. tt)
      (λ f. missing_awaits next view silo arc.from from)

  pub pieces_named : (arcs : List RingArc) → TablesNamed (pieces_after next hashing view silo pieces arcs)
  pieces_named arcs =
      All-map (λ (e : ℕ × Piece). AreNamed e.1.entries) (λ (arc : RingArc). (arc.range.start, piece_of next hashing view silo pieces arc))
      (filter (λ arc. is_owner silo arc.to) arcs) (λ k d below. piece_named
      (slice_index_or (filter (λ arc. is_owner silo arc.to) arcs) k d))

  pub pieces_await : (arcs : List RingArc) → All (λ arc. FromSilo arc.from) arcs
      → AwaitSilos (pieces_after next hashing view silo pieces arcs)
  pieces_await arcs from =
      All-map (λ (e : ℕ × Piece). AwaitsSilo e.1.state) (λ (arc : RingArc). (arc.range.start, piece_of next hashing view silo pieces arc))
      (filter (λ arc. is_owner silo arc.to) arcs)
      (λ k d below. piece_awaits (slice_index_or (filter (λ arc. is_owner silo arc.to) arcs) k d)
      (All-filter (λ (arc : RingArc). is_owner silo arc.to) (λ (arc : RingArc). FromSilo arc.from) arcs from k d below))

  -- what is sealed
  abbrev pub AllShelved : List Snapshot → Type 0
  AllShelved shelf = All (λ s. AllNamed s.entries) shelf

  snapshot_named : (to : Option Silo) (range : Range) → AllShelved (snapshot_for to hashing view silo pieces range)
  snapshot_named None range = All-nil (λ (s : Snapshot). AllNamed s.entries)
  snapshot_named (Some to) range =
      All-cons (λ (s : Snapshot). AllNamed s.entries) _ []
      (entries_named (kept_entries hashing view pieces range) (kept_named hashing view pieces range tables))
      (All-nil (λ (s : Snapshot). AllNamed s.entries))

  snapshots_named : (arcs : List RingArc) → AllShelved (flat_map (λ arc. snapshot_for arc.to hashing view silo pieces arc.range) arcs)
  snapshots_named [] = All-nil (λ (s : Snapshot). AllNamed s.entries)
  snapshots_named (arc ∷ arcs) =
      All-append (λ (s : Snapshot). AllNamed s.entries) (snapshot_for arc.to hashing view silo pieces arc.range)
      (flat_map (λ a. snapshot_for a.to hashing view silo pieces a.range) arcs)
      (snapshot_named arc.to arc.range) (snapshots_named arcs)

  pub shelf_named : (shelf : List Snapshot) (arcs : List RingArc) → AllShelved shelf
      → AllShelved (shelf_after next view shelf (sealed hashing view silo pieces arcs))
  shelf_named shelf arcs before =
      on_bool (λ b. AllShelved (cond b (filter (λ s. not (is_dead_in view s.to)) shelf ++ sealed hashing view silo pieces arcs) [])) next
      (λ t. All-append (λ (s : Snapshot). AllNamed s.entries) (filter (λ s. not (is_dead_in view s.to)) shelf)
      (sealed hashing view silo pieces arcs)
      (All-filter (λ (s : Snapshot). not (is_dead_in view s.to)) (λ (s : Snapshot). AllNamed s.entries) shelf before)
      (snapshots_named (filter (is_handed_over silo pieces) arcs)))
      (λ f. All-nil (λ (s : Snapshot). AllNamed s.entries))

-- ---- what begins anew
pub gatherings_anew : (view : ViewValue) (pieces : List (ℕ × Piece)) → All (λ e. AllNamed e.1.entries) (at.new_gatherings view pieces)
gatherings_anew view [] = All-nil (λ (e : ℕ × Gathering). AllNamed e.1.entries)
gatherings_anew view (e ∷ es) = by e.1.state (gatherings_anew view es)
  where
    by : (its : PieceState) → All (λ x. AllNamed x.1.entries) (at.new_gatherings view es)
        → All (λ x. AllNamed x.1.entries) (cons_option (at.gathering_in its view e.1) (at.new_gatherings view es))
    by state.Settled later = later
    by (state.Awaiting from) later =
        All-cons (λ (x : ℕ × Gathering). AllNamed x.1.entries) (e.1.range.start, new_gathering view.version e.1.range)
        (at.new_gatherings view es) (All-nil IsNamed) later
    by state.Recovering later = later

pub recoveries_anew : (view : ViewValue) (pieces : List (ℕ × Piece)) → All (λ e. AreNamed e.1.gathered) (at.new_recoveries view pieces)
recoveries_anew view [] = All-nil (λ (e : ℕ × Recovery). AreNamed e.1.gathered)
recoveries_anew view (e ∷ es) = by e.1.state (recoveries_anew view es)
  where
    by : (its : PieceState) → All (λ x. AreNamed x.1.gathered) (at.new_recoveries view es)
        → All (λ x. AreNamed x.1.gathered) (cons_option (at.recovery_in its view e.1) (at.new_recoveries view es))
    by state.Settled later = later
    by (state.Awaiting from) later = later
    by state.Recovering later =
        All-cons (λ (x : ℕ × Recovery). AreNamed x.1.gathered) (e.1.range.start, new_recovery view e.1.range) (at.new_recoveries view es)
        (All-nil (λ (x : Grain × Entry). IsNamed x.1)) later
