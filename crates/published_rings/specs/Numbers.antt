-- The numbers by which users know the refusals.
use Rattle.std.specs.Prelude.{ℕ, Option, Some, None}
use Rattle.hash_ring.specs.declared.error.RingError.{RingError}
use Rattle.hash_ring.specs.declared.error.RingError.TheVariants as ring
use Rattle.published_rings.specs.declared.error.RouteError.{RouteError}
use Rattle.published_rings.specs.declared.error.RouteError.TheVariants.{PointsMissing, NoReader, NotLetIn, OutOfMemory}

-- the stated number of a refusal; out of memory has none
abbrev pub route_error_number : RouteError → Option ℕ
route_error_number PointsMissing = Some 403
route_error_number NoReader = Some 952
route_error_number NotLetIn = Some 954
route_error_number OutOfMemory = None

-- what the refusal of a ring is to one who publishes it
abbrev pub route_error_of : RingError → RouteError
route_error_of ring.PointsMissing = PointsMissing
route_error_of _ = OutOfMemory
