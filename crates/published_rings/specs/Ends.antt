-- What a publisher and a reader are to their callers.
use Rattle.std.specs.Prelude.{◌≡◌, ℕ, List, [], ◌∷◌, ◌++◌, true}
use Rattle.membership_view.specs.View.{ViewValue}
use Rattle.hash_ring.specs.Owner.{owner_of}
use Rattle.hash_ring.specs.Places.{PlacesValue}
use Rattle.hash_ring.specs.Ring.{RingValue, are_added, ring_of, sorted_ring}
use Rattle.published_rings.specs.Shown.{Publication}
use Rattle.published_rings.specs.declared.route.Route.{Route}

-- its publication, the rings that were published before the last one, oldest first, the last one, and how many readers are left to be
-- handed out
pub record PublisherValue : Type 0 where
  pub of : Publication
  pub earlier : List RingValue
  pub last : RingValue
  pub left : ℕ

-- a publisher that has published one ring, and handed out no reader
abbrev pub first_publisher : Publication → RingValue → (readers : ℕ) → PublisherValue
first_publisher of ring readers = record { of = of; earlier = []; last = ring; left = readers }

-- the publisher after one more publication
abbrev pub after_publishing : PublisherValue → RingValue → PublisherValue
after_publishing publisher ring = record publisher { earlier = publisher.earlier ++ publisher.last ∷ []; last = ring }

-- all rings that were published, oldest first
abbrev pub published_by : PublisherValue → List RingValue
published_by publisher = publisher.earlier ++ publisher.last ∷ []

-- the publication that shows it rings, those that had been published when the reader answered last, oldest first, and the newest version
-- that it was told of
pub record ReaderValue : Type 0 where
  pub of : Publication
  pub seen : List RingValue
  pub told : ℕ

-- a reader that has seen nothing, and was told of nothing
abbrev pub first_reader : Publication → ReaderValue
first_reader of = record { of = of; seen = []; told = 0 }

-- the route of a hash by the newest of the rings that were seen, which is that of a view: the view's version, and who owns the hash by it
pub record IsRouteOf (seen : List RingValue) (hash : ℕ) (route : Route) : Type 0 where
  pub earlier : List RingValue
  pub view : ViewValue
  pub places : PlacesValue
  pub added : are_added view places ≡ true
  pub newest : seen ≡ earlier ++ ring_of view places ∷ []
  pub version : route.version ≡ view.version
  pub owner : route.owner ≡ owner_of (sorted_ring view places) hash
