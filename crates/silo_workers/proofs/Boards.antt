-- A board, work that it lends and work that is prepared may be moved to another thread.
use denote.RattleType.{RattleType}
use denote.Struct.Declared as S
use denote.Enum.Declared as E
use denote.Model.{View}
use base.Stored.{Coded}
use denote.Param.Send.{IsSend, AllSend, struct_send, enum_send, recorded_send, view_send}
use Rattle.core.proofs.ledger.Sent.{book_send, share_send}
use Rattle.std.proofs.Crossing as crossing
use Rattle.std.proofs.MapsCrossing as maps
use Rattle.cluster_journal.proofs.LogSend as logging
use Rattle.cluster_board.proofs.Send as marking
use Rattle.silo_workers.proofs.Parts.{number64, truth}
use Rattle.silo_workers.proofs.Holders.{heap_field_crosses}
use Rattle.silo_workers.proofs.Names.{silo_crosses}
use Rattle.silo_workers.proofs.Letters.{letter_crosses}
use Rattle.silo_workers.proofs.Nodes.{shared_crosses, plan_crosses}
use Rattle.silo_workers.proofs.Events.{entry_crosses}
use Rattle.silo_workers.proofs.Worlds.{world_crosses}
use Rattle.std.specs.declared.sync.ledger.Ledger as ledger
use Rattle.cluster_board.specs.declared.mark.Names as names
use Rattle.cluster_journal.specs.declared.log.LogName as log
use Rattle.cluster_board.specs.declared.hand.Charter as charter
use Rattle.std.specs.contracts.option.Option as Option
use Rattle.std.specs.contracts.alloc.Global as Heap
use Rattle.std.specs.contracts.prelude.GlobalAllocator.TheImpl.{ghosts}
use Rattle.std.specs.contracts.collections.BTreeMap as BTreeMap
use Rattle.silo_address.specs.contracts.silo.SiloAddress as silo
use Rattle.silo_address.specs.contracts.silo.SiloAddressOrd.TheImpl as ord
use Rattle.silo_address.specs.contracts.silo.SiloAddressPartialEq.TheImpl as eq
use Rattle.silo_address.specs.contracts.silo.SiloAddressPartialOrd.TheImpl as partial
use Rattle.cluster_board.specs.contracts.mark.Mark as mark
use Rattle.cluster_board.specs.contracts.mark_maker.Marks as marks
use Rattle.directory_node.specs.contracts.shared.SharedNode as shared
use Rattle.cluster_journal.specs.contracts.entry.JournalEntry as entry
use Rattle.cluster_board.specs.contracts.board.Board as board
use Rattle.cluster_board.specs.contracts.hand.Hand as hand
use Rattle.cluster_board.specs.contracts.board.Board.TheInside as board_inside
use Rattle.cluster_board.specs.contracts.work.Job as job
use Rattle.cluster_board.specs.contracts.work.Job.TheInside as job_inside
use Rattle.cluster_board.specs.contracts.work.Prepared as prepared
use Rattle.cluster_board.specs.contracts.work.Prepared.TheInside as prepared_inside

-- a struct with a model
pub sent : (T : S.Declared) (D : Type 0) (code : Coded D) (view : T.D → D) (holds : T.D → Type 0) → AllSend (S.fields T)
    → IsSend (View (S.row T) D code view holds)
sent T D code view holds s = view_send (S.row T) D code view holds (recorded_send _ T.D T.to T.to_one (struct_send (S.shape T) s))

module _ (T : RattleType) (g : names.Ghosts T.Denot) (s : IsSend T) where
  mark_sends : IsSend (mark.the_row shared.the_row T g)
  mark_sends = marking.mark_sends shared.the_row T g s

  pub job_sends : IsSend (job.the_row T g)
  job_sends =
      sent (job_inside.the_type T g) _ _ _ _ (
        number64.moved,
        (
          letter_crosses.moved,
          (
            shared_crosses.moved,
            (
              enum_send (E.shape (Option.the_type (mark.the_row shared.the_row T g)))
                  (tt, ((mark_sends, tt), tt)),
              tt,
            ),
          ),
        ),
      )

  pub prepared_sends : IsSend (prepared.the_row T g)
  prepared_sends = sent (prepared_inside.the_type T g) _ _ _ _ (job_sends, (plan_crosses.moved, tt))

  marks_send : IsSend (Option.the_field (marks.the_row shared.the_row T g)).row
  marks_send =
      enum_send (E.shape (Option.the_type (marks.the_row shared.the_row T g))) (tt, ((marking.marks_send shared.the_row T g s, tt), tt))

  marked_sends : IsSend (BTreeMap.the_field silo.the_row (mark.the_row shared.the_row T g) Heap.the_row ord.ghosts eq.ghosts partial.ghosts
      ghosts).row
  marked_sends =
      maps.BTreeMap-send silo.the_row (mark.the_row shared.the_row T g) ord.ghosts eq.ghosts partial.ghosts silo_crosses.moved mark_sends

module _ (T : RattleType) (c : charter.Ghosts T.Denot) (l : ledger.Ghosts T.Denot) (g : names.Ghosts T.Denot) (n : log.Ghosts T.Denot)
    (s : IsSend T) where
  pub board_sends : IsSend (board.the_row T c l g n)
  board_sends =
      sent (board_inside.the_type T c l g n) _ _ _ _ (
        heap_field_crosses.moved,
        (
          world_crosses.moved,
          (
            crossing.Vec-send entry.the_row entry_crosses.moved,
            (
              book_send T l,
              (
                logging.keeper_sends entry.the_row entry_crosses.moved T n s,
                (marks_send T g s, (marked_sends T g s, (truth.moved, (truth.moved, tt)))),
              ),
            ),
          ),
        ),
      )

  pub hand_field_sends : IsSend (hand.the_field T l n).row
  hand_field_sends =
      struct_send (S.shape (hand.the_type T l n)) (share_send T l, (logging.front_sends entry.the_row entry_crosses.moved T n s, tt))
