-- Pieces stay pieces: those of a sight are, and a piece that is changed keeps its range.
use Rattle.std.proofs.Common.{◌≡◌, refl, sym, subst, ℕ, ◌<◌, List, [], ◌∷◌, map, arith}
use Rattle.std.specs.Prelude.{Bool, true, cond, not, All, AllPairs, Some, Result, Ok, Err, filter, fold, flat_map}
use Rattle.std.specs.List.{slice_index_or}
use Rattle.std.specs.Ordering.{nat_cmp}
use Rattle.std.specs.Map.{lookup}
use Rattle.std.specs.BTreeMap.{is_at}
use Rattle.std.proofs.lemmas.List.Elements.{All-nil, All-cons, All-head, All-tail, All-filter, All-weaker, All-map, filter_passes}
use Rattle.std.proofs.lemmas.List.Kept.{AllPairs-cons, AllPairs-filter}
use Rattle.texts.proofs.Decided.{both}
use Rattle.silo_address.specs.Silo.{Silo}
use Rattle.silo_address.specs.declared.Entry.{Entry}
use Rattle.membership_view.specs.View.{ViewValue}
use Rattle.ring_range.specs.Range.{Range, IsRange, holds}
use Rattle.hash_ring.specs.declared.Hashing.{Hashing}
use Rattle.hash_ring.specs.Hash.{hash_grain}
use Rattle.hash_ring.specs.declared.Point.{Point}
use Rattle.range_moves.specs.declared.RingArc.{RingArc}
use Rattle.range_moves.specs.Arcs.{AreArcs}
use Rattle.directory_rules.specs.declared.act.Act.{Act}
use Rattle.directory_rules.specs.declared.act.Act.TheVariants.{Register, Deregister, Find}
use Rattle.directory_rules.specs.declared.act.Request.{Request}
use Rattle.directory_rules.specs.declared.piece_state.PieceState.TheVariants.{Settled}
use Rattle.directory_rules.specs.declared.reply.Why.{Why}
use Rattle.directory_rules.specs.Members.{is_dead_in}
use Rattle.directory_rules.specs.State.{Table, Piece, Holding}
use Rattle.directory_rules.specs.Table.{with_entry, entries_of}
use Rattle.directory_rules.specs.Sight.{is_owner, is_kept, kept_entries, all_entries, was_settled, missing_state, piece_of, pieces_after}
use Rattle.directory_rules.specs.Host.{grain_of}
use Rattle.directory_rules.specs.Answer.{with_piece, turned, serving_piece, served_by, answered_from, answered}
use Rattle.directory_rules.proofs.Cases.{on_bool}
use Rattle.directory_rules.proofs.Pieces.{under, piece_range}
use Rattle.directory_rules.proofs.Ranges.{ranges, Rising, changed_ranges, stands_at, rising_arcs}
use Rattle.directory_facts.specs.Pieces.{IsHashedInto, IsTableOf, IsPiece, ArePieces}
use Rattle.directory_facts.proofs.Entries.{all_set, found_so}
use Rattle.directory_facts.proofs.Tables.{InOrder, order_nil, order_put, order_filtered, in_range, table_nil, table_turned}
use Rattle.directory_facts.proofs.Served.{serves, found_holds}

-- what a piece has
pub record HasTable (hashing : Hashing) (piece : Piece) : Type 0 where
  pub table : IsTableOf hashing piece.range piece.entries
  pub bare : ¬ (piece.state ≡ Settled) → piece.entries ≡ []

-- the range has a hash, and none twice
pub record Spans (range : Range) : Type 0 where
  pub range_is : IsRange range
  pub present : 0 < range.size

-- pieces, by their ranges and their tables
pub record Pieces (hashing : Hashing) (pieces : List (ℕ × Piece)) : Type 0 where
  pub spans : All (λ r. Spans r.1) (ranges pieces)
  pub rising : Rising (ranges pieces)
  pub tables : All (λ e. HasTable hashing e.1) pieces

-- ---- as they are told
each_piece : (hashing : Hashing) (pieces : List (ℕ × Piece)) → All (λ r. Spans r.1) (ranges pieces) → Rising (ranges pieces)
    → All (λ e. HasTable hashing e.1) pieces → All (λ e. IsPiece hashing e.0 e.1) pieces
each_piece hashing [] spans rising tables = All-nil _
each_piece hashing (e ∷ es) spans rising tables =
    let here = All-head (λ (r : ℕ × Range). Spans r.1) (e.0, e.1.range) (ranges es) spans in
    let has = All-head (λ (x : ℕ × Piece). HasTable hashing x.1) e es tables in
    All-cons (λ x. IsPiece hashing x.0 x.1) e es
    (record { under = rising.0; range_is = here.range_is; present = here.present; table = has.table; bare = has.bare })
    (each_piece hashing es (All-tail (λ (r : ℕ × Range). Spans r.1) (e.0, e.1.range) (ranges es) spans) rising.2
    (All-tail (λ (x : ℕ × Piece). HasTable hashing x.1) e es tables))

above_keys : (low : ℕ) (pieces : List (ℕ × Piece)) → All (λ r. low < r.1.start) (ranges pieces) → Rising (ranges pieces)
    → All (λ e. low < e.0) pieces
above_keys low [] above rising = All-nil _
above_keys low (e ∷ es) above rising =
    All-cons (λ x. low < x.0) e es (subst (λ n. low < n) (sym rising.0)
    (All-head (λ (r : ℕ × Range). low < r.1.start) (e.0, e.1.range) (ranges es) above))
    (above_keys low es (All-tail (λ (r : ℕ × Range). low < r.1.start) (e.0, e.1.range) (ranges es) above) rising.2)

rising_keys : (pieces : List (ℕ × Piece)) → Rising (ranges pieces) → AllPairs (λ e later. e.0 < later.0) pieces
rising_keys [] rising = λ i j d less below. absurd (omega arith)
rising_keys (e ∷ es) rising = AllPairs-cons (λ x later. x.0 < later.0) e es (above_keys e.0 es rising.1 rising.2) (rising_keys es rising.2)

pub are_pieces : (hashing : Hashing) (pieces : List (ℕ × Piece)) → Pieces hashing pieces → ArePieces hashing pieces
are_pieces hashing pieces is =
    record { each = each_piece hashing pieces is.spans is.rising is.tables; rising = rising_keys pieces is.rising }

pub no_pieces : (hashing : Hashing) → Pieces hashing []
no_pieces hashing = record { spans = All-nil _; rising = tt; tables = All-nil _ }

-- ---- the pieces of a sight
-- entries that are put in, one after the other
pub all_ordered : (entries : List Entry) (table : Table) → InOrder table → InOrder (fold with_entry table entries)
all_ordered [] table is = is
all_ordered (entry ∷ entries) table is = all_ordered entries (with_entry table entry) (order_put table entry is)

kept_table : (hashing : Hashing) (view : ViewValue) (pieces : List (ℕ × Piece)) (range : Range)
    → IsTableOf hashing range (kept_entries hashing view pieces range)
kept_table hashing view pieces range =
    in_range hashing range (kept_entries hashing view pieces range)
    (order_filtered (λ e. is_kept hashing view range e.1) (all_entries pieces)
    (all_ordered (flat_map (λ e. entries_of e.1.entries) pieces) [] order_nil))
    (All-weaker (λ e. is_kept hashing view range e.1 ≡ true) (λ e. IsHashedInto hashing range e.1)
    (λ e kept. (both (holds range (hash_grain hashing e.1.grain)) (not (is_dead_in view e.1.activation.silo)) kept).0)
    (kept_entries hashing view pieces range)
    (filter_passes (λ e. is_kept hashing view range e.1) (all_entries pieces)))

pub bare_table : (hashing : Hashing) (piece : Piece) → piece.entries ≡ [] → HasTable hashing piece
bare_table hashing piece none =
    record { table = subst (IsTableOf hashing piece.range) (sym none) (table_nil hashing piece.range); bare = λ not. none }

piece_has : (next : Bool) (hashing : Hashing) (view : ViewValue) (silo : Silo) (pieces : List (ℕ × Piece)) (arc : RingArc)
    → HasTable hashing (piece_of next hashing view silo pieces arc)
piece_has next hashing view silo pieces arc =
    on_bool (λ b. HasTable hashing (cond {A = Piece} b
    (record { range = arc.range; state = Settled; entries = kept_entries hashing view pieces arc.range })
    (record { range = arc.range; state = missing_state next view silo arc.from; entries = [] })))
    (was_settled pieces arc.range) (λ t. record { table = kept_table hashing view pieces arc.range; bare = λ not. absurd (not refl) })
    (λ f. bare_table hashing _ refl)

arcs_span : (next : Bool) (hashing : Hashing) (view : ViewValue) (silo : Silo) (pieces : List (ℕ × Piece)) (arcs : List RingArc)
    → All (λ arc. Spans arc.range) arcs → All (λ r. Spans r.1) (ranges (map (under next hashing view silo pieces) arcs))
arcs_span next hashing view silo pieces [] all = All-nil _
arcs_span next hashing view silo pieces (arc ∷ arcs) all =
    All-cons (λ (r : ℕ × Range). Spans r.1) (arc.range.start, (piece_of next hashing view silo pieces arc).range)
    (ranges (map (under next hashing view silo pieces) arcs))
    (subst Spans (sym (piece_range next hashing view silo pieces arc)) (All-head (λ a. Spans a.range) arc arcs all))
    (arcs_span next hashing view silo pieces arcs (All-tail (λ a. Spans a.range) arc arcs all))

pub pieces_made : (next : Bool) (hashing : Hashing) (view : ViewValue) (silo : Silo) (pieces : List (ℕ × Piece)) (old new : List Point)
    (arcs : List RingArc) → AreArcs old new arcs → Pieces hashing (pieces_after next hashing view silo pieces arcs)
pieces_made next hashing view silo pieces old new arcs are =
    let mine = filter (λ arc. is_owner silo arc.to) arcs in
    record {
      spans =
          arcs_span next hashing view silo pieces mine (All-filter (λ arc. is_owner silo arc.to) (λ arc. Spans arc.range) arcs
          (λ k d below. record { range_is = are.ranges k d below; present = are.present k d below }));
      rising =
          rising_arcs next hashing view silo pieces mine
          (AllPairs-filter (λ (arc later : RingArc). arc.range.start < later.range.start) (λ arc. is_owner silo arc.to) arcs
          are.in_order);
      tables =
          All-map (λ e. HasTable hashing e.1) (under next hashing view silo pieces) mine
          (λ k d below. piece_has next hashing view silo pieces (slice_index_or mine k d));
    }

-- ---- a piece that is changed
pub pieces_changed : (hashing : Hashing) (pieces : List (ℕ × Piece)) (found changed : Piece) → Pieces hashing pieces
    → lookup (is_at (nat_cmp changed.range.start)) pieces ≡ Some found → found.range ≡ changed.range → HasTable hashing changed
    → Pieces hashing (with_piece changed pieces)
pieces_changed hashing pieces found changed are there same has =
    let stay = changed_ranges (is_at (nat_cmp changed.range.start)) pieces found changed there same in
    record {
      spans = subst (All (λ r. Spans r.1)) (sym stay) are.spans;
      rising = subst Rising (sym stay) are.rising;
      tables = all_set (λ e. HasTable hashing e.1) (is_at (nat_cmp changed.range.start)) changed pieces (λ key old at so. has) are.tables;
    }

-- a request that names its grain's hash is served
turned_pieces : (hashing : Hashing) (act : Act) (pieces : List (ℕ × Piece)) (piece : Piece) → Pieces hashing pieces
    → lookup (is_at (nat_cmp piece.range.start)) pieces ≡ Some piece → piece.state ≡ Settled
    → holds piece.range (hash_grain hashing (grain_of act)) ≡ true
    → Pieces hashing (with_piece (record piece { entries = (turned act piece.entries).table }) pieces)
turned_pieces hashing act pieces piece are there settled held =
    let has = (found_so (λ e. HasTable hashing e.1) (is_at (nat_cmp piece.range.start)) piece pieces are.tables there).2 in
    pieces_changed hashing pieces piece (record piece { entries = (turned act piece.entries).table }) are there refl
    (record { table = table_turned hashing piece.range act piece.entries has.table held; bare = λ not. absurd (not settled) })

served_pieces : (hashing : Hashing) (act : Act) (piece : Piece) (holding : Holding) (request : Request) → Pieces hashing holding.pieces
    → lookup (is_at (nat_cmp piece.range.start)) holding.pieces ≡ Some piece → piece.state ≡ Settled
    → holds piece.range (hash_grain hashing (grain_of act)) ≡ true → Pieces hashing (served_by act piece holding request).holding.pieces
served_pieces hashing (Register entry previous) piece holding request are there settled held =
    turned_pieces hashing (Register entry previous) holding.pieces piece are there settled held
served_pieces hashing (Deregister entry) piece holding request are there settled held =
    turned_pieces hashing (Deregister entry) holding.pieces piece are there settled held
served_pieces hashing (Find grain) piece holding request are there settled held = are

answered_by : (hashing : Hashing) (serving : Result Piece Why) (holding : Holding) (request : Request) → Pieces hashing holding.pieces
    → request.hash ≡ hash_grain hashing (grain_of request.act) → serving_piece holding request ≡ serving
    → Pieces hashing (answered_from serving holding request).holding.pieces
answered_by hashing (Ok piece) holding request are named is =
    let so = serves holding request piece is in
    let there = stands_at request.hash holding.pieces piece are.rising so.found in
    served_pieces hashing request.act piece holding request are there so.settled
    (subst (λ hash. holds piece.range hash ≡ true) named (found_holds request.hash holding.pieces piece so.found))
answered_by hashing (Err why) holding request are named is = are

pub pieces_answered : (hashing : Hashing) (holding : Holding) (request : Request) → Pieces hashing holding.pieces
    → request.hash ≡ hash_grain hashing (grain_of request.act) → Pieces hashing (answered holding request).holding.pieces
pieces_answered hashing holding request are named = answered_by hashing (serving_piece holding request) holding request are named refl
