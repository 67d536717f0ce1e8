use Rattle.std.proofs.Common.{◌≡◌, ◌++◌, drop, filter, map, not, take}
use Rattle.directory_rules.specs.Members.{is_dead_in}
use Rattle.grain_table.specs.Hashed.{Hashed}
use Rattle.grain_table.proofs.hashed_map.keep.remove_each_dead.Given as goal

-- the buckets so far have what stays
abbrev pub invariant-buckets : goal.invariant-buckets
invariant-buckets l =
    l.bucket-items ≡ map (λ (bucket : Hashed). filter (λ e. not (is_dead_in l.view e.1.silo)) bucket)
    (take l.bucket-index l.fn.buckets.items) ++ drop l.bucket-index l.fn.buckets.items
