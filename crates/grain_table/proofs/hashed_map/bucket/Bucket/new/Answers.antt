use Rattle.std.proofs.Common.{subst, sym}
use Rattle.std.specs.List.Sorted.{IsStrictlySortedBy}
use Rattle.std.specs.Map.{keys_of}
use Rattle.texts.proofs.Entries.{sorted-nil}
use Rattle.grain_table.specs.Hashed.{Hashed, hashed_cmp}
use Rattle.grain_table.proofs.hashed_map.bucket.Bucket.new.Goals as goal

pub invariant_of-result : goal.invariant_of-result
invariant_of-result c =
    subst (λ (es : Hashed). IsStrictlySortedBy hashed_cmp (keys_of es)) (sym c.new.ensures.items) (sorted-nil hashed_cmp)
