-- Tables, and what is made of their entries, cross.
use denote.Array.{Array}
use denote.Builtin.{u8, u32}
use Rattle.silo_workers.proofs.Parts.{Crosses, fields, structure, modelled, variants, array, byte, number32, number64, truth}
use Rattle.silo_workers.proofs.Holders.{heap_field_crosses, optional, listed, mapped, gathered}
use Rattle.silo_workers.proofs.Names.{silo_crosses, grain_crosses, entry_crosses, range_crosses, arc_crosses}
use Rattle.silo_workers.proofs.Members.{hashing_crosses}
use Rattle.std.specs.contracts.alloc.Global as Heap
use Rattle.std.specs.contracts.prelude.GlobalAllocator.TheImpl.{ghosts}
use Rattle.std.specs.contracts.boxed.BoxedSlice as text
use Rattle.sha2.specs.contracts.Sha256 as hasher
use Rattle.sha2.specs.contracts.block256.Core256 as digest
use Rattle.silo_address.specs.contracts.grain.GrainId as grain
use Rattle.silo_address.specs.contracts.entry.Entry as entry
use Rattle.range_moves.specs.contracts.arc.RingArc as arc
use Rattle.directory_rules.specs.contracts.piece_state.PieceState as state
use Rattle.grain_table.specs.contracts.hashed_map.slot.Slot as slot
use Rattle.grain_table.specs.contracts.hashed_map.slot.Slot.TheInside as slot_inside
use Rattle.grain_table.specs.contracts.hashed_map.bucket.Bucket as bucket
use Rattle.grain_table.specs.contracts.hashed_map.bucket.Bucket.TheInside as bucket_inside
use Rattle.grain_table.specs.contracts.hashed_map.HashedMap as hashed_map
use Rattle.grain_table.specs.contracts.hashed_map.HashedMap.TheInside as hashed_map_inside
use Rattle.grain_table.specs.contracts.short_entry.ShortEntry as short
use Rattle.grain_table.specs.contracts.short_entry.ShortEntry.TheInside as short_inside
use Rattle.grain_table.specs.contracts.table.Table as table
use Rattle.grain_table.specs.contracts.table.Table.TheInside as table_inside
use Rattle.range_recovery.specs.contracts.awaited.Awaited as awaited
use Rattle.range_recovery.specs.contracts.silos.AwaitedSilos as silos
use Rattle.range_recovery.specs.contracts.silos.AwaitedSilos.TheInside as silos_inside
use Rattle.range_recovery.specs.contracts.recovery.Recovery as recovery
use Rattle.range_recovery.specs.contracts.recovery.Recovery.TheInside as recovery_inside
use Rattle.range_recovery.specs.contracts.report.Report as report
use Rattle.range_recovery.specs.contracts.report.Report.TheInside as report_inside
use Rattle.seal_snapshot.specs.contracts.snapshot.Snapshot as snapshot
use Rattle.seal_snapshot.specs.contracts.snapshot.Snapshot.TheInside as snapshot_inside
use Rattle.seal_snapshot.specs.contracts.page.Page as page
use Rattle.seal_snapshot.specs.contracts.page.Page.TheInside as page_inside
use Rattle.seal_snapshot.specs.contracts.shelf.Shelf as shelf
use Rattle.seal_snapshot.specs.contracts.shelf.Shelf.TheInside as shelf_inside
use Rattle.seal_snapshot.specs.contracts.whole.Whole as whole
use Rattle.seal_snapshot.specs.contracts.gatherings.Gathering as gathering
use Rattle.seal_snapshot.specs.contracts.gatherings.Gathering.TheInside as gathering_inside
use Rattle.grain_partition.specs.contracts.own_arcs.OwnArcs as own_arcs
use Rattle.grain_partition.specs.contracts.own_arcs.OwnArcs.TheInside as own_arcs_inside
use Rattle.grain_partition.specs.contracts.by_silo.ArcsBySilo as by_silo
use Rattle.grain_partition.specs.contracts.by_silo.ArcsBySilo.TheInside as by_silo_inside
use Rattle.grain_partition.specs.contracts.piece.Piece as piece
use Rattle.grain_partition.specs.contracts.piece.Piece.TheInside as piece_inside
use Rattle.grain_partition.specs.contracts.holdings.Holding as holding
use Rattle.grain_partition.specs.contracts.holdings.Holding.TheInside as holding_inside

-- ---- tables
text_crosses : Crosses (text.the_field u8 Heap.the_row ghosts).row
text_crosses = fields (text.the_type u8 Heap.the_row ghosts) (listed u8 byte, tt)

slot_crosses : Crosses slot.the_row
slot_crosses = modelled slot_inside.the_type _ _ _ _ (number32, (silo_crosses, (number64, (text_crosses, tt))))

bucket_crosses : Crosses bucket.the_row
bucket_crosses = modelled bucket_inside.the_type _ _ _ _ (listed slot.the_row slot_crosses, tt)

hashed_map_crosses : Crosses hashed_map.the_row
hashed_map_crosses =
    modelled hashed_map_inside.the_type _ _ _ _
    (heap_field_crosses, (number64, (listed u32 number32, (listed bucket.the_row bucket_crosses, tt))))

pub table_crosses : Crosses table.the_row
table_crosses = modelled table_inside.the_type _ _ _ _ (hashing_crosses, (hashed_map_crosses, (search (gathered, silo_crosses), tt)))

-- ---- recoveries
awaited_crosses : Crosses awaited.the_row
awaited_crosses = structure awaited.the_type (fields awaited.the_type (silo_crosses, (truth, tt)))

silos_cross : Crosses silos.the_row
silos_cross = modelled silos_inside.the_type _ _ _ _ (listed awaited.the_row awaited_crosses, (number64, tt))

pub recovery_crosses : Crosses recovery.the_row
recovery_crosses =
    modelled recovery_inside.the_type _ _ _ _ (
      heap_field_crosses,
      (
        number64,
        (range_crosses, (silos_cross, (search (mapped, silo_crosses, grain_crosses), (table_crosses, tt)))),
      ),
    )

pub report_crosses : Crosses report.the_row
report_crosses =
    modelled report_inside.the_type _ _ _ _ (
      number64,
      (
        range_crosses,
        (silo_crosses, (optional grain.the_row grain_crosses, (listed entry.the_row entry_crosses, (truth, tt)))),
      ),
    )

-- ---- snapshots
short_crosses : Crosses short.the_row
short_crosses = modelled short_inside.the_type _ _ _ _ (silo_crosses, (number64, (text_crosses, tt)))

bytes_crosses : Crosses (Array u8 32)
bytes_crosses = array u8 32 byte

pub snapshot_crosses : Crosses snapshot.the_row
snapshot_crosses =
    modelled snapshot_inside.the_type _ _ _ _ (
      number64,
      (
        range_crosses,
        (silo_crosses, (silo_crosses, (listed short.the_row short_crosses, (optional (Array u8 32) bytes_crosses, tt)))),
      ),
    )

pub page_crosses : Crosses page.the_row
page_crosses =
    modelled page_inside.the_type _ _ _ _ (
      number64,
      (range_crosses, (number64, (number64, (array u8 32 byte, (listed entry.the_row entry_crosses, tt))))),
    )

pub shelf_crosses : Crosses shelf.the_row
shelf_crosses = modelled shelf_inside.the_type _ _ _ _ (listed snapshot.the_row snapshot_crosses, tt)

whole_crosses : Crosses whole.the_row
whole_crosses = structure whole.the_type (fields whole.the_type (number64, (array u8 32 byte, tt)))

hasher_crosses : Crosses (hasher.the_field).row
hasher_crosses = fields hasher.the_type (fields digest.the_type (array u32 8 number32, (array u8 64 byte, (number64, tt))), tt)

pub gathering_crosses : Crosses gathering.the_row
gathering_crosses =
    modelled gathering_inside.the_type _ _ _ _ (
      heap_field_crosses,
      (
        number64,
        (range_crosses, (number64, (optional whole.the_row whole_crosses, (listed short.the_row short_crosses, (hasher_crosses, tt))))),
      ),
    )

-- ---- pieces
own_arcs_cross : Crosses own_arcs.the_row
own_arcs_cross = modelled own_arcs_inside.the_type _ _ _ _ (listed arc.the_row arc_crosses, tt)

pub by_silo_crosses : Crosses by_silo.the_row
by_silo_crosses =
    modelled by_silo_inside.the_type _ _ _ _ (
      listed arc.the_row arc_crosses,
      (search (mapped, silo_crosses, own_arcs_cross), (search (mapped, silo_crosses, own_arcs_cross), tt)),
    )

state_crosses : Crosses (state.the_field).row
state_crosses = variants state.the_type (tt, ((silo_crosses, tt), (tt, tt)))

piece_crosses : Crosses piece.the_row
piece_crosses = modelled piece_inside.the_type _ _ _ _ (range_crosses, (state_crosses, (table_crosses, tt)))

pub holding_crosses : Crosses holding.the_row
holding_crosses =
    modelled holding_inside.the_type _ _ _ _ (
      number64,
      (search (mapped, silo_crosses, number64), (search (mapped, number32, piece_crosses), tt)),
    )
