use Rattle.std.proofs.Common.{◌≡◌, length, take}
use Rattle.grain_table.specs.Buckets.{joined}
use Rattle.grain_table.proofs.hashed_map.keep.count.Given as goal

abbrev pub invariant-buckets : goal.invariant-buckets
invariant-buckets l = l.count ≡ length (joined (take l.bucket-index l.buckets))
