-- What is shown to readers.
use Rattle.std.specs.Prelude.{◌≡◌, ℕ, List, [], ◌∷◌, ◌++◌, Bool, true, if◌then◌else◌}
use Rattle.logbook.specs.Pages.{Book}
use Rattle.membership_view.specs.View.{ViewValue}
use Rattle.hash_ring.specs.Places.{PlacesValue}
use Rattle.hash_ring.specs.Ring.{RingValue, are_added, ring_of}
use Rattle.published_rings.specs.Log.{FrontValue}

-- the names of two locks that nothing else has
abbrev pub Marks : Type 0
Marks = ℕ × ℕ

-- the name of one of the two
abbrev pub lock_of : (second : Bool) → Marks → ℕ
lock_of second marks = if second then marks.1 else marks.0

-- which publication something is of: its two marks, and the log of its rings
pub record Publication : Type 0 where
  pub marks : Marks
  pub log : Book

-- an edition: a ring, the rings that were published before it, oldest first, and the log in which they all stand
pub record EditionValue : Type 0 where
  pub log : Book
  pub earlier : List RingValue
  pub ring : RingValue

-- all rings up to that of an edition
abbrev pub all_of : EditionValue → List RingValue
all_of edition = edition.earlier ++ edition.ring ∷ []

-- the beginning of the log that an edition shows
abbrev pub front_of : EditionValue → FrontValue
front_of edition = record { log = edition.log; all = all_of edition }

-- the edition of one more ring, after another one
abbrev pub edition_after : EditionValue → RingValue → EditionValue
edition_after edition ring = record { log = edition.log; earlier = all_of edition; ring = ring }

-- an edition, and the marks of the publication that shows it
pub record ShownValue : Type 0 where
  pub marks : Marks
  pub edition : EditionValue

-- which publication shows it
abbrev pub publication_of : ShownValue → Publication
publication_of shown = record { marks = shown.marks; log = shown.edition.log }

-- what is shown once that edition is
abbrev pub showing : ShownValue → EditionValue → ShownValue
showing shown edition = record shown { edition = edition }

-- the second is what the first publication shows after one more ring
abbrev pub FollowsOn : ShownValue → ShownValue → Type 0
FollowsOn shown next = next ≡ showing shown (edition_after shown.edition next.edition.ring)

-- the ring is that of a view, whose Active silos all have their places
pub record IsOfView (ring : RingValue) : Type 0 where
  pub view : ViewValue
  pub places : PlacesValue
  pub added : are_added view places ≡ true
  pub made : ring ≡ ring_of view places
