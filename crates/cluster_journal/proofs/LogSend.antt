-- The keeper of a log and its fronts may go to another thread, if entries may.
use denote.RattleType.{RattleType}
use denote.Builtin.{u64}
use denote.Struct.Declared as S
use denote.Param.Send.{IsSend, recorded_send, sendable, struct_send, view_send}
use Rattle.atomic_table.specs.contracts.owned.Table as table
use Rattle.atomic_table.specs.contracts.send_lease.SendLease as lease
use Rattle.atomic_table.specs.contracts.shared.Seat as seat
use Rattle.atomic_table.specs.contracts.shared.Shared as shared
use Rattle.atomic_table.specs.declared.shared.TableRule as rule
use Rattle.atomic_table.proofs.Rights.{right_send}
use Rattle.atomic_table.proofs.Sent.{seat_keyless, owns_keyless}
use Rattle.std.proofs.Crossing as crossing
use Rattle.std.specs.contracts.alloc.Global as Heap
use Rattle.std.specs.contracts.prelude.GlobalAllocator.TheImpl.{ghosts}
use Rattle.cluster_journal.specs.declared.log.LogName as name
use Rattle.cluster_journal.specs.contracts.log_rule.Known as known
use Rattle.cluster_journal.specs.contracts.log.Front as front
use Rattle.cluster_journal.specs.contracts.log.Keeper as keeper
use Rattle.cluster_journal.specs.contracts.log.Keeper.TheInside as inside

lease_sends : (T : RattleType) → IsSend (lease.the_row T Heap.the_row ghosts)
lease_sends T = right_send T Heap.the_row ghosts crossing.frees

module _ (E : RattleType) (s : IsSend E) where
  seat_sends : IsSend (seat.the_row E (known.the_row E))
  seat_sends = record {
    owned = λ d vs. ((λ vss. (tt, ((λ uss. (tt, tt)), tt))), seat_keyless E s (known.the_row E).coded.code d.table_id d.id d.me);
    leaving = λ k f vs. tt;
  }

  shared_sends : (K P : RattleType) (g : rule.Ghosts P.Denot E.Denot (known.the_row E).Denot K.Denot)
      → IsSend (shared.the_row E (known.the_row E) K P g)
  shared_sends K P g = record {
    owned =
        λ d vs. (
          (λ vss. (tt, (tt, (tt, ((λ uss. (tt, tt)), tt))))),
          owns_keyless E s (known.the_row E).coded.code d.table_id
              (g.holds d.key) d.words d.slots,
        );
    leaving = λ k f vs. tt;
  }

  table_field_sends : (K P : RattleType) (g : rule.Ghosts P.Denot E.Denot (known.the_row E).Denot K.Denot)
      → IsSend (table.the_field E (known.the_row E) K P Heap.the_row g ghosts).row
  table_field_sends K P g =
      struct_send (S.shape (table.the_type E (known.the_row E) K P Heap.the_row g ghosts))
      (shared_sends K P g, (search sendable, (search sendable, (lease_sends u64, (lease_sends E, (crossing.send, tt))))))

  module _ (J : RattleType) (n : name.Ghosts J.Denot) where
    pub front_sends : IsSend J → IsSend (front.the_row E J n)
    front_sends j = search (seat_sends, sendable) depth 16

    pub keeper_sends : IsSend J → IsSend (keeper.the_row E J n)
    keeper_sends j =
        let k = inside.the_type E J n in
        view_send (S.row k) _ _ _ _ (recorded_send _ k.D k.to k.to_one
        (struct_send (S.shape k) (search (table_field_sends, sendable), (seat_sends, (search sendable, tt)))))
