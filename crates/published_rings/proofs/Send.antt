-- A reader may go to another thread.
use denote.Param.Send.{IsSend, IsSync, sendable}
use denote.RattleType.{RattleType}
use denote.Struct.Owning.{shape}
use denote.Struct.Struct.{Struct}
use Rattle.core.proofs.once.Sent.{once_sync}
use Rattle.core.proofs.snapshot.Sent.{snapshot_send, snapshot_sync}
use Rattle.left_right.proofs.reader.Reader.TheSendSync as reading
use Rattle.logbook.proofs.Fields.{seen_keyless}
use Rattle.logbook.specs.Kept.{rules}
use Rattle.logbook.specs.contracts.tokens.Seen as seen
use Rattle.logbook.specs.declared.tokens.Rule.{Ghosts}
use Rattle.std.proofs.Crossing as crossing
use Rattle.std.proofs.Crossing.{crosses}
use Rattle.left_right.specs.contracts.reader.Reader as Reader
use Rattle.std.specs.contracts.alloc.Global as Heap
use Rattle.std.specs.contracts.prelude.GlobalAllocator.TheImpl.{ghosts}
use Rattle.hash_ring.specs.contracts.ring.Ring as ring
use Rattle.published_rings.specs.contracts.log.Front as front
use Rattle.published_rings.specs.contracts.origin.Mark as mark
use Rattle.published_rings.specs.contracts.origin.Origin as origin
use Rattle.published_rings.specs.contracts.shown.Edition as edition
use Rattle.published_rings.specs.contracts.shown.Shown as shown
use Rattle.published_rings.specs.contracts.rule.Known as known
use Rattle.published_rings.specs.contracts.rule.Rings as rings
use Rattle.published_rings.specs.contracts.rule.RingsProtocolShownKnown.TheImpl as rule
use Rattle.published_rings.specs.contracts.reader.RouteReader as route_reader

-- what is shown may be shared with other threads
ring_sends : IsSend ring.the_row
ring_sends = search (sendable, crosses) depth 20

ring_syncs : IsSync ring.the_row
ring_syncs = search (sendable, crosses) depth 20

mark_syncs : IsSync mark.the_row
mark_syncs = search (once_sync, snapshot_sync, sendable) depth 16

module _ (E A P : RattleType) (g : Ghosts P.Denot E.Denot A.Denot) where
  seen_sends : IsSend (seen.the_row E A P g)
  seen_sends =
      record {
        owned = λ d vs. (
          (λ vss. (tt, ((λ uss. (tt, tt)), tt))),
          seen_keyless E.coded.code (rules g.holds g.shows g.keeps) d.book
              d.names d.log,
        );
        leaving = λ k f vs. tt;
      }

  seen_syncs : IsSync (seen.the_row E A P g)
  seen_syncs =
      let fields : IsSync (Struct (shape (seen.the_type E A P g))) = search sendable depth 20 in
      record {
        shared = λ d b o ν. (
          fields.shared (tt, tt) b o ν,
          seen_keyless E.coded.code (rules g.holds g.shows g.keeps) d.book d.names
              d.log,
        );
      }

front_sends : IsSend front.the_row
front_sends = search (seen_sends, sendable) depth 16

front_syncs : IsSync front.the_row
front_syncs = search (seen_syncs, sendable) depth 16

edition_syncs : IsSync edition.the_row
edition_syncs = search (front_syncs, ring_sends, ring_syncs, crosses, sendable) depth 16

shown_syncs : IsSync shown.the_row
shown_syncs = search (mark_syncs, edition_syncs, sendable) depth 16

-- what a reader is made of
ring_reader_sends : IsSend (Reader.the_field shown.the_row known.the_row rings.the_row Heap.the_row rule.ghosts ghosts).row
ring_reader_sends =
    reading.the_field_send shown.the_row known.the_row rings.the_row Heap.the_row rule.ghosts ghosts crossing.send shown_syncs crossing.sync
    crossing.frees

origin_sends : IsSend (origin.the_field).row
origin_sends = search (snapshot_send, sendable) depth 16

pub reader_sends : IsSend route_reader.the_row
reader_sends = search (ring_reader_sends, origin_sends, front_sends, crosses, sendable) depth 20
