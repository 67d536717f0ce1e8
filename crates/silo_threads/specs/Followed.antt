-- What follows an event that was accepted: at a join a worker, at each change of membership a publication.
use Rattle.std.specs.Prelude.{◌≡◌, ℕ, ◌++◌, ◌<◌, ◌≤◌, ◌⊎◌, IfSome, List, [], ◌∷◌, Option, Some, None, Result, Ok, Err, length}
use Rattle.silo_address.specs.Silo.{Silo}
use Rattle.membership_view.specs.View.{ViewValue}
use Rattle.hash_ring.specs.Places.{PlacesValue}
use Rattle.hash_ring.specs.Ring.{ring_of}
use Rattle.directory_rules.specs.Event.{Event, Join, Leave, Kill, See, Do, Deliver, Lose}
use Rattle.directory_rules.specs.declared.outcome.Happening.{Happening}
use Rattle.directory_rules.specs.declared.outcome.Happening.TheVariants.{Joined, Left, Died}
use Rattle.directory_rules.specs.State.{World}
use Rattle.directory_rules.specs.World.{current_view}
use Rattle.cluster_journal.specs.declared.entry.Receipt.{Receipt}
use Rattle.published_rings.specs.Ends.{PublisherValue, after_publishing}
use Rattle.silo_threads.specs.Cluster.{ClusterValue}
use Rattle.silo_threads.specs.declared.cluster.TheConstants.{MOST_WORKERS}
use Rattle.silo_threads.specs.declared.fault.Lack.{Lack}
use Rattle.silo_threads.specs.declared.fault.Lack.TheVariants.{Thread, Publication}

-- the event is the silo's join
abbrev pub Joins : Event → Silo → Type 0
Joins (Join its places) silo = its ≡ silo
Joins other silo = ⊥

-- the ring of the view is published, unless that of its version or a later one was
abbrev pub Shows : ViewValue → PlacesValue → PublisherValue → PublisherValue → Type 0
Shows view places before after =
    ((before.last.version < view.version) × (after ≡ after_publishing before (ring_of view places))) ⊎ ((view.version ≤ before.last.version) × (after ≡ before))

-- the view and the places are those of the world
abbrev pub IsLeftIn : World → ViewValue × PlacesValue → Type 0
IsLeftIn world newest = (newest.0 ≡ current_view world) × (newest.1 ≡ world.places)

-- the version up to which rings are published is behind the world's
abbrev pub IsBehind : (published : ℕ) → World → Type 0
IsBehind published world = published < world.views.version

-- what is to be published of a world: nothing, where a ring of its version or of a later one was; else the ring of its view and places,
-- which may be lacking
abbrev pub IsToShow : {E : Type 0} → World → (published : ℕ) → Result (Option (ViewValue × PlacesValue)) E → Type 0
IsToShow world published (Ok None) = world.views.version ≤ published
IsToShow world published (Ok (Some newest)) = IsBehind published world × IsLeftIn world newest
IsToShow world published (Err failure) = IsBehind published world

-- that is published
abbrev pub ShowsNewest : {E : Type 0} → Result (Option (ViewValue × PlacesValue)) E → PublisherValue → PublisherValue → Type 0
ShowsNewest (Ok None) before after = after ≡ before
ShowsNewest (Ok (Some newest)) before after = after ≡ after_publishing before (ring_of newest.0 newest.1)
ShowsNewest (Err failure) before after = ⊥

-- the version of the view that an event made; none where it made none
abbrev pub version_made : Happening → Option ℕ
version_made (Joined version silo replaced) = Some version
version_made (Left version silo) = Some version
version_made (Died version silo) = Some version
version_made other = None

-- the newest ring is of the version that the receipt tells, or of a later one
abbrev pub IsUpTo : Receipt → PublisherValue → Type 0
IsUpTo receipt publisher = IfSome (version_made receipt.entry.outcome.happening) (λ version. version ≤ publisher.last.version)

-- the ring of the current view of the world that the event left is published, and so the newest ring is up to the receipt
pub record HasPublished (world : World) (receipt : Receipt) (before after : PublisherValue) : Type 0 where
  pub shown : Shows (current_view world) world.places before after
  pub up_to_date : IsUpTo receipt after

-- a silo has a worker too, behind those of the silos before
abbrev pub with_worker : List Silo → Silo → List Silo
with_worker workers silo = workers ++ silo ∷ []

-- the silo's worker lacks its thread: it is one more, but has ended; or there were as many as may ever be, and none is more
abbrev pub LacksThread : Silo → List Silo → List Silo → Type 0
LacksThread silo before after = (after ≡ with_worker before silo) ⊎ ((MOST_WORKERS ≤ length before) × (after ≡ before))

-- after a join the silo has a worker, and there is a publication, but for what lacks; only a newer ring can be lacking, and without a
-- thread nothing is published
abbrev pub HasJoined : World → Silo → Receipt → ClusterValue → ClusterValue → Option Lack → Type 0
HasJoined world silo receipt before after None = (after.workers ≡ with_worker before.workers silo) × HasPublished world receipt before.published after.published
HasJoined world silo receipt before after (Some Publication) =
    (after ≡ record before { workers = with_worker before.workers silo }) × IsBehind before.published.last.version world
HasJoined world silo receipt before after (Some Thread) = LacksThread silo before.workers after.workers × (after.published ≡ before.published)

-- after a leave or a death there is a publication, unless it lacks, as only a newer ring can; no worker more or less
abbrev pub HasChanged : World → Receipt → ClusterValue → ClusterValue → Option Lack → Type 0
HasChanged world receipt before after None = (after.workers ≡ before.workers) × HasPublished world receipt before.published after.published
HasChanged world receipt before after (Some Publication) = (after ≡ before) × IsBehind before.published.last.version world
HasChanged world receipt before after (Some Thread) = ⊥

-- after any other event nothing
abbrev pub HasStayed : ClusterValue → ClusterValue → Option Lack → Type 0
HasStayed before after lack = (after ≡ before) × (lack ≡ None)

-- what follows the event that the receipt is of, and that left this world
abbrev pub HasFollowed : World → Event → Receipt → ClusterValue → ClusterValue → Option Lack → Type 0
HasFollowed world (Join silo places) receipt before after lack = HasJoined world silo receipt before after lack
HasFollowed world (Leave silo) receipt before after lack = HasChanged world receipt before after lack
HasFollowed world (Kill silo) receipt before after lack = HasChanged world receipt before after lack
HasFollowed world (See silo version) receipt before after lack = HasStayed before after lack
HasFollowed world (Do silo step) receipt before after lack = HasStayed before after lack
HasFollowed world (Deliver number) receipt before after lack = HasStayed before after lack
HasFollowed world (Lose number) receipt before after lack = HasStayed before after lack
