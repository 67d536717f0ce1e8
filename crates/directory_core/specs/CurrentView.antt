-- The ring of the current view.
use Rattle.hash_ring.specs.Ring.{RingValue, ring_of}
use Rattle.directory_rules.specs.State.{World}
use Rattle.directory_rules.specs.World.{current_view}

-- the view's ring, which has its version
abbrev pub ring_of_current_view : World → RingValue
ring_of_current_view world = ring_of (current_view world) world.places
