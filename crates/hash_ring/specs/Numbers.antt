-- The numbers by which users know the refusals.
use Rattle.std.specs.Prelude.{ℕ, Option, Some, None}
use Rattle.hash_ring.specs.declared.error.RingError.{RingError}
use Rattle.hash_ring.specs.declared.error.RingError.TheVariants.{NotNextView, PointCount, PointsMissing, AlreadyAdded, OutOfMemory}

-- the stated number of a refusal; out of memory has none
abbrev pub ring_error_number : RingError → Option ℕ
ring_error_number NotNextView = Some 401
ring_error_number PointCount = Some 402
ring_error_number PointsMissing = Some 403
ring_error_number AlreadyAdded = Some 404
ring_error_number OutOfMemory = None
