-- Marks, and where they are made, may go to another thread, whatever they are of.
use Rattle.std.proofs.Common.{rules}
use denote.RattleType.{RattleType}
use denote.Param.Send.{IsSend, sendable}
use Rattle.boxcar.specs.contracts.slot.OnceSlot as once_slot
use Rattle.boxcar.specs.contracts.slot.Written as written
use Rattle.cluster_board.specs.declared.mark.Names as names
use Rattle.cluster_board.specs.contracts.mark.Mark as mark
use Rattle.cluster_board.specs.contracts.mark_maker.Marks as marks
use Rattle.cluster_board.specs.contracts.mark_maker.Block as block
use Rattle.cluster_board.specs.contracts.slots.AnyValue as rule
use Rattle.cluster_board.specs.contracts.slots.AnyValueSlotRuleSnapshot.TheImpl as impl
use Rattle.cluster_board.specs.contracts.slots.Slots as slots
use Rattle.std.specs.contracts.snapshot.Snapshot as snapshot
use Rattle.std.specs.contracts.vec.Vec as Vec
use Rattle.std.specs.contracts.alloc.Global as Heap
use Rattle.std.specs.contracts.prelude.GlobalAllocator.TheImpl.{ghosts}
use Rattle.std.proofs.Crossing as crossing

module _ (X : RattleType) where
  -- one slot
  abbrev pub slot_of : RattleType
  slot_of = once_slot.the_row (snapshot.the_row X) rule.the_row (impl.ghosts X)

  slot_sends : IsSend slot_of
  slot_sends = search (rules, sendable)

  vec_sends : IsSend (Vec.the_row slot_of Heap.the_row ghosts)
  vec_sends = crossing.Vec-send slot_of slot_sends

  pub slots_send : IsSend (slots.the_row X)
  slots_send = search (vec_sends, sendable) depth 16

  pub slots_field_sends : IsSend (slots.the_field X).row
  slots_field_sends = search (vec_sends, sendable) depth 16

  shown_sends : IsSend (written.the_field (snapshot.the_row (slots.the_row X))).row
  shown_sends = search (rules, sendable) depth 16

  block_field_sends : IsSend (block.the_field X).row
  block_field_sends = search (slots_field_sends, shown_sends, sendable) depth 16

module _ (X : RattleType) (T : RattleType) (g : names.Ghosts T.Denot) where
  pub mark_sends : IsSend T → IsSend (mark.the_row X T g)
  mark_sends s = search (rules, sendable) depth 16

  pub mark_field_sends : IsSend T → IsSend (mark.the_field X T g).row
  mark_field_sends s = search (rules, sendable) depth 16

  pub marks_send : IsSend T → IsSend (marks.the_row X T g)
  marks_send s = search (block_field_sends, slots_field_sends, sendable) depth 20

  pub marks_field_sends : IsSend T → IsSend (marks.the_field X T g).row
  marks_field_sends s = search (block_field_sends, slots_field_sends, sendable) depth 20
