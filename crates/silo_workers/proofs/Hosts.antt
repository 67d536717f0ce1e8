-- What a silo hosts, and what it knows of others' activations, crosses.
use denote.RattleType.{RattleType}
use denote.Builtin.{RawPtr, u8, u32}
use denote.Param.Send.{sendable}
use Rattle.silo_workers.proofs.Parts.{Crosses, fields, structure, modelled, inverted, variants, choice, array, byte, number32, number64, nothing}
use Rattle.silo_workers.proofs.Holders.{heap_crosses, heap_field_crosses, listed, mapped, hashed}
use Rattle.silo_workers.proofs.Names.{silo_crosses, grain_crosses, activation_crosses}
use Rattle.silo_workers.proofs.Members.{hashing_crosses}
use Rattle.std.proofs.Crossing.{frees}
use Rattle.std.specs.declared.cmp.Eq as total
use Rattle.std.specs.declared.cmp.PartialEq as eq
use Rattle.std.specs.declared.hash.BuildHasher as builder
use Rattle.std.specs.declared.hash.Hash as hash
use Rattle.std.specs.declared.hash.Hasher as hasher
use Rattle.std.specs.contracts.alloc.Global as Heap
use Rattle.std.specs.contracts.prelude.GlobalAllocator.TheImpl.{ghosts}
use Rattle.std.specs.contracts.boxed.BoxedStr as name
use Rattle.std.specs.contracts.num.NonZeroUsize as non_zero
use Rattle.std.specs.contracts.string.String as text
use Rattle.std.specs.contracts.hash.BuildHasherDefault as maker
use Rattle.std.specs.contracts.hash.FoldHasher as folding
use Rattle.lru.proofs.Crosses as cached
use Rattle.lru.specs.contracts.cache.LruCache as lru
use Rattle.lru.specs.contracts.cache.LruCache.TheInside as lru_inside
use Rattle.lru.specs.contracts.entry.Deed as deed
use Rattle.lru.specs.contracts.entry.NodePtr as node_at
use Rattle.lru.specs.contracts.entry.Slot as slot
use Rattle.lru.specs.contracts.key_ref.KeyRef as key_ref
use Rattle.lru.specs.contracts.list.List as list
use Rattle.lru.specs.contracts.nodes.Nodes as nodes
use Rattle.indexmap.specs.contracts.columns.Columns as columns
use Rattle.indexmap.specs.contracts.columns.Columns.TheInside as columns_inside
use Rattle.indexmap.specs.contracts.index_table.Bucket as bucket
use Rattle.indexmap.specs.contracts.index_table.IndexTable as table
use Rattle.indexmap.specs.contracts.index_table.IndexTable.TheInside as table_inside
use Rattle.indexmap.specs.contracts.index_table.group.Group as group
use Rattle.indexmap.specs.contracts.map.IndexMap as index_map
use Rattle.indexmap.specs.contracts.map.IndexMap.TheInside as index_map_inside
use Rattle.lookup_cache.specs.contracts.cache.Cache as cache
use Rattle.lookup_cache.specs.contracts.cache.Cache.TheInside as cache_inside
use Rattle.grain_names.specs.contracts.grain_map.GrainMap as grain_map
use Rattle.grain_names.specs.contracts.grain_map.GrainMap.TheInside as grain_map_inside
use Rattle.host_activations.specs.contracts.kept.Kept as kept
use Rattle.host_activations.specs.contracts.kept.Kept.TheInside as kept_inside
use Rattle.host_activations.specs.contracts.kept.Previous as previous
use Rattle.host_activations.specs.contracts.kept.Previous.TheInside as previous_inside
use Rattle.host_activations.specs.contracts.kept.Stage as stage
use Rattle.host_activations.specs.contracts.kept.State as state
use Rattle.host_activations.specs.contracts.by_hash.HashedCount as hashed_count
use Rattle.host_activations.specs.contracts.activations.Activations as activations
use Rattle.host_activations.specs.contracts.activations.Activations.TheInside as activations_inside
use Rattle.host_activations.specs.contracts.under_way.UnderWay as under_way
use Rattle.host_activations.specs.contracts.asked.OutstandingRequest as asked
use Rattle.host_activations.specs.contracts.outstanding.OutstandingRequests as outstanding
use Rattle.host_activations.specs.contracts.outstanding.OutstandingRequests.TheInside as outstanding_inside
use Rattle.host_activations.specs.contracts.outstanding.by_grain.FindKey as find_key
use Rattle.host_activations.specs.contracts.host.Host as host
use Rattle.host_activations.specs.contracts.host.Host.TheInside as host_inside
use Rattle.host_activations.specs.contracts.host.renewal.Renewal as renewal
use Rattle.host_activations.specs.contracts.host.renewal.Renewal.TheInside as renewal_inside

-- ---- the hasher of all maps
folding_field_crosses : Crosses (folding.the_field).row
folding_field_crosses = fields folding.the_type (number64, tt)

folding_crosses : Crosses folding.the_row
folding_crosses = structure folding.the_type folding_field_crosses

maker_field_crosses : Crosses (maker.the_field folding.the_row).row
maker_field_crosses = fields (maker.the_type folding.the_row) (folding_crosses, tt)

maker_crosses : Crosses (maker.the_row folding.the_row)
maker_crosses = structure (maker.the_type folding.the_row) maker_field_crosses

-- ---- maps in insertion order
group_crosses : Crosses group.the_row
group_crosses = structure group.the_type (fields group.the_type (array u8 16 byte, (array u32 12 number32, tt)))

bucket_crosses : Crosses bucket.the_row
bucket_crosses = structure bucket.the_type (fields bucket.the_type (number32, (number32, tt)))

table_crosses : Crosses (table.the_row Heap.the_row ghosts)
table_crosses =
    modelled (table_inside.the_type Heap.the_row ghosts) _ _ _ _
    (listed group.the_row group_crosses, (listed bucket.the_row bucket_crosses, (number64, tt)))

module _ (K V : RattleType) where
  columns_cross : Crosses K → Crosses V → Crosses (columns.the_row K V Heap.the_row ghosts)
  columns_cross k v = modelled (columns_inside.the_type K V Heap.the_row ghosts) _ _ _ _ (listed K k, (listed V v, tt))

module _ (K V S T : RattleType) (e : eq.Ghosts K.Denot) (h : hash.Ghosts K.Denot) (b : builder.Ghosts S.Denot T.Denot)
    (w : hasher.Ghosts T.Denot) where
  index_map_crosses : Crosses K → Crosses V → Crosses S → Crosses (index_map.the_row K V S Heap.the_row T e h b w ghosts)
  index_map_crosses k v s =
      modelled (index_map_inside.the_type K V S Heap.the_row T e h b w ghosts) _ _ _ _ (columns_cross K V k v, (table_crosses, (s, tt)))

pub name_field_crosses : Crosses (name.the_field Heap.the_row ghosts).row
name_field_crosses = fields (name.the_type Heap.the_row ghosts) (fields (text.the_type Heap.the_row ghosts) (listed u8 byte, tt), tt)

name_crosses : Crosses (name.the_row Heap.the_row ghosts)
name_crosses = structure (name.the_type Heap.the_row ghosts) name_field_crosses

pub grain_map_crosses : (V : RattleType) → Crosses V → Crosses (grain_map.the_row V)
grain_map_crosses V v =
    modelled (grain_map_inside.the_type V) _ _ _ _ (
      heap_field_crosses,
      (
        index_map_crosses (name.the_row Heap.the_row ghosts) V (maker.the_row folding.the_row) folding.the_row _ _ _ _ name_crosses v
            maker_crosses,
        tt,
      ),
    )

-- ---- activations
previous_crosses : Crosses previous.the_row
previous_crosses =
    inverted previous_inside.the_type _ _ previous.the_inverse previous.the_view previous.the_invariant
    (silo_crosses, (array u8 8 byte, tt))

stage_crosses : Crosses (stage.the_field).row
stage_crosses = variants stage.the_type (tt, (tt, (tt, tt)))

state_crosses : Crosses (state.the_field).row
state_crosses = variants state.the_type ((stage_crosses, tt), ((stage_crosses, (previous_crosses, tt)), tt))

kept_crosses : Crosses kept.the_row
kept_crosses =
    inverted kept_inside.the_type _ _ kept.the_inverse kept.the_view kept.the_invariant (number64, (number64, (state_crosses, tt)))

hashed_count_crosses : Crosses hashed_count.the_row
hashed_count_crosses = structure hashed_count.the_type (fields hashed_count.the_type (number32, (number64, tt)))

under_way_crosses : Crosses (under_way.the_field).row
under_way_crosses = fields under_way.the_type (number64, (number64, tt))

activations_cross : Crosses activations.the_row
activations_cross =
    modelled activations_inside.the_type _ _ _ _ (
      number64,
      (
        grain_map_crosses kept.the_row kept_crosses,
        (
          under_way_crosses,
          (hashing_crosses, (listed u32 number32, (search (mapped, hashed_count_crosses, number64), tt))),
        ),
      ),
    )

asked_crosses : Crosses asked.the_row
asked_crosses = choice asked.the_type (variants asked.the_type ((grain_crosses, tt), ((grain_crosses, tt), tt)))

find_key_crosses : Crosses find_key.the_row
find_key_crosses = structure find_key.the_type (fields find_key.the_type (grain_crosses, (number64, tt)))

outstanding_crosses : Crosses outstanding.the_row
outstanding_crosses =
    modelled outstanding_inside.the_type _ _ _ _ (
      search (mapped, number64, asked_crosses),
      (search (mapped, find_key_crosses, nothing), tt),
    )

pub host_crosses : Crosses host.the_row
host_crosses = modelled host_inside.the_type _ _ _ _ (silo_crosses, (number64, (activations_cross, (outstanding_crosses, tt))))

pub renewal_crosses : Crosses renewal.the_row
renewal_crosses = modelled renewal_inside.the_type _ _ _ _ (outstanding_crosses, tt)

-- ---- caches
pointer : Crosses RawPtr
pointer = record { moved = search sendable; shared = search sendable }

module _ (K V : RattleType) (k : Crosses K) (v : Crosses V) where
  key_ref_crosses : Crosses (key_ref.the_row K)
  key_ref_crosses = record { moved = cached.KeyRef-send K k.shared; shared = cached.KeyRef-sync K k.shared }

  list_crosses : Crosses (list.the_row K V)
  list_crosses = record { moved = cached.List-send K V k.moved k.shared v.moved; shared = cached.List-sync K V k.shared v.shared }

  deed_crosses : Crosses (deed.the_row K V Heap.the_row ghosts)
  deed_crosses = record { moved = cached.Deed-send K V Heap.the_row ghosts frees; shared = cached.Deed-sync K V Heap.the_row ghosts }

  slot_field_crosses : Crosses (slot.the_field K V Heap.the_row ghosts).row
  slot_field_crosses = fields (slot.the_type K V Heap.the_row ghosts) (fields (node_at.the_type K V) (pointer, tt), (deed_crosses, tt))

  slot_crosses : Crosses (slot.the_row K V Heap.the_row ghosts)
  slot_crosses = structure (slot.the_type K V Heap.the_row ghosts) slot_field_crosses

  module _ (S T : RattleType) (q : total.Ghosts K.Denot) (e : eq.Ghosts K.Denot) (h : hash.Ghosts K.Denot)
      (b : builder.Ghosts S.Denot T.Denot) (w : hasher.Ghosts T.Denot) where
    nodes_cross : Crosses S → Crosses (nodes.the_field K V S Heap.the_row T q e h b w ghosts).row
    nodes_cross s =
        fields (nodes.the_type K V S Heap.the_row T q e h b w ghosts) (
          hashed (key_ref.the_row K) (slot.the_row K V Heap.the_row ghosts) S T _ _ b w key_ref_crosses slot_crosses s,
          (slot_field_crosses, (slot_field_crosses, (list_crosses, (heap_crosses, tt)))),
        )

    lru_crosses : Crosses S → Crosses (lru.the_row K V S Heap.the_row T q e h b w ghosts)
    lru_crosses s =
        modelled (lru_inside.the_type K V S Heap.the_row T q e h b w ghosts) _ _ _ _
        (nodes_cross s, (fields non_zero.the_type (number64, tt), tt))

pub cache_crosses : Crosses cache.the_row
cache_crosses =
    modelled cache_inside.the_type _ _ _ _ (
      heap_field_crosses,
      (search (lru_crosses, grain_crosses, activation_crosses, maker_crosses), tt),
    )
