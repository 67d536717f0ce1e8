-- What holds others crosses as they do: each of the standard library's, at the heap.
use denote.RattleType.{RattleType}
use denote.Param.Send.{sendable}
use Rattle.silo_workers.proofs.Parts.{Crosses, variants}
use Rattle.std.proofs.Crossing as crossing
use Rattle.std.proofs.MapsCrossing as maps
use Rattle.std.proofs.MapsCrossingOver as sets
use Rattle.std.specs.declared.cmp.Ord as ord
use Rattle.std.specs.declared.cmp.PartialEq as eq
use Rattle.std.specs.declared.cmp.PartialOrd as partial
use Rattle.std.specs.declared.hash.Hash as hash
use Rattle.std.specs.declared.hash.Hasher as hasher
use Rattle.std.specs.declared.hash.BuildHasher as builder
use Rattle.std.specs.contracts.alloc.Global as Heap
use Rattle.std.specs.contracts.prelude.GlobalAllocator.TheImpl.{ghosts}
use Rattle.std.specs.contracts.boxed.Box as Box
use Rattle.std.specs.contracts.collections.BTreeMap as BTreeMap
use Rattle.std.specs.contracts.collections.BTreeSet as BTreeSet
use Rattle.std.specs.contracts.collections.VecDeque as Deque
use Rattle.std.specs.contracts.collections.HashMap as HashMap
use Rattle.std.specs.contracts.option.Option as Option
use Rattle.std.specs.contracts.sync.Arc as Arc
use Rattle.std.specs.contracts.vec.Vec as Vec

pub heap_field_crosses : Crosses (Heap.the_field).row
heap_field_crosses = record { moved = search sendable depth 20; shared = search sendable depth 20 }

pub heap_crosses : Crosses Heap.the_row
heap_crosses = record { moved = crossing.send; shared = crossing.sync }

module _ (R : RattleType) where
  pub optional : Crosses R → Crosses (Option.the_field R).row
  optional c = variants (Option.the_type R) (tt, ((c, tt), tt))

  pub boxed : Crosses R → Crosses (Box.the_row R Heap.the_row ghosts)
  boxed c = record { moved = crossing.Box-send R c.moved; shared = crossing.Box-sync R c.shared }

  pub listed : Crosses R → Crosses (Vec.the_row R Heap.the_row ghosts)
  listed c = record { moved = crossing.Vec-send R c.moved; shared = crossing.Vec-sync R c.shared }

  pub queued : Crosses R → Crosses (Deque.the_row R Heap.the_row ghosts)
  queued c = record { moved = crossing.Deque-send R c.moved; shared = crossing.Deque-sync R c.shared }

  pub counted : Crosses R → Crosses (Arc.the_row R Heap.the_row ghosts)
  counted c = record { moved = crossing.Arc-send R c.moved c.shared; shared = crossing.Arc-sync R c.moved c.shared }

module _ (K V : RattleType) (o : ord.Ghosts K.Denot) (e : eq.Ghosts K.Denot) (p : partial.Ghosts K.Denot) where
  pub mapped : Crosses K → Crosses V → Crosses (BTreeMap.the_field K V Heap.the_row o e p ghosts).row
  mapped k v = record { moved = maps.BTreeMap-send K V o e p k.moved v.moved; shared = maps.BTreeMap-sync K V o e p k.shared v.shared }

module _ (K V S T : RattleType) (e : eq.Ghosts K.Denot) (h : hash.Ghosts K.Denot) (b : builder.Ghosts S.Denot T.Denot)
    (w : hasher.Ghosts T.Denot) where
  pub hashed : Crosses K → Crosses V → Crosses S → Crosses (HashMap.the_field K V S Heap.the_row T e h b w ghosts).row
  hashed k v s =
      record {
        moved = maps.HashMap-send K V S T e h b w k.moved v.moved s.moved;
        shared = maps.HashMap-sync K V S T e h b w k.shared
            v.shared s.shared;
      }

module _ (K : RattleType) (o : ord.Ghosts K.Denot) (e : eq.Ghosts K.Denot) (p : partial.Ghosts K.Denot) where
  pub gathered : Crosses K → Crosses (BTreeSet.the_field K Heap.the_row o e p ghosts).row
  gathered k =
      record {
        moved = sets.BTreeSet-send K Heap.the_row o e p ghosts k.moved crossing.send crossing.frees;
        shared = sets.BTreeSet-sync K
            Heap.the_row o e p ghosts k.shared crossing.sync;
      }
