-- What holds of all views, told by views and statuses alone.
use Rattle.std.specs.Prelude.{None, ◌≡◌, ◌≢◌, ◌↔◌, ◌⊎◌, ℕ, ◌+◌, ◌<◌, ◌≤◌, ◌^◌, [], IsTrue, IsSome, Some, Ok, Err}
use Rattle.silo_address.specs.Silo.{Silo, IsSameEndpoint}
use Rattle.membership_view.specs.declared.status.Status.TheVariants.{Dead}
use Rattle.membership_view.specs.View.{ViewValue, status_of}
use Rattle.membership_view.specs.declared.status.Status.{Status}
use Rattle.membership_view.specs.Views.{ViewsValue, most_known, views_from, view_at, status_at, joining_version}
use Rattle.membership_view.specs.Beginning.{after_listing}
use Rattle.membership_view.specs.Changes.{Change, after, is_newest, occupant}
use Rattle.membership_view.specs.Whole.{IsViews}
use Rattle.membership_view.specs.Step.{MembershipStep}

-- an accepted change takes these views to the next ones
pub record Accepts (views : ViewsValue) (change : Change) (next : ViewsValue) : Type 0 where
  pub whole : IsViews views
  pub is : after views change ≡ Ok next

-- each accepted change makes one version, one higher
abbrev pub VersionsRise : Type 0
VersionsRise = (views : ViewsValue) (change : Change) (next : ViewsValue) → Accepts views change next → next.version ≡ views.version + 1

-- each accepted change is one membership step from the current view to the next one
abbrev pub ChangesAreSteps : Type 0
ChangesAreSteps = (views : ViewsValue) (change : Change) (next : ViewsValue) → Accepts views change next
    → MembershipStep (view_at views views.version) change (view_at next next.version)

-- a view never changes
abbrev pub ViewsStay : Type 0
ViewsStay = (views : ViewsValue) (change : Change) (next : ViewsValue) → Accepts views change next
    → (version : ℕ) → version ≤ views.version → view_at next version ≡ view_at views version

-- what the views so far keep holds before any change, and of views that begin with a later version
abbrev pub ViewsStart : Type 0
ViewsStart = (limit version : ℕ) → 0 < limit → limit < most_known → version < most_known → IsViews (views_from limit version)

-- and once a silo is listed
abbrev pub ListingsAreKept : Type 0
ListingsAreKept = (views : ViewsValue) (silo : Silo) (status : Status) (next : ViewsValue) → IsViews views → after_listing views silo status ≡ Ok next → IsViews next

-- what the views so far keep they keep for good
abbrev pub ViewsAreKept : Type 0
ViewsAreKept = (views : ViewsValue) (change : Change) (next : ViewsValue) → Accepts views change next → IsViews next

-- a version is below 2^64, and so is the next one
abbrev pub VersionsFit : Type 0
VersionsFit = (views : ViewsValue) → IsViews views → views.version + 1 < 2 ^ 64

-- nobody is in the first view
abbrev pub FirstIsEmpty : Type 0
FirstIsEmpty = (views : ViewsValue) → IsViews views → (view_at views 0).rows ≡ []

-- Dead stays Dead
abbrev pub DeadStaysDead : Type 0
DeadStaysDead = (views : ViewsValue) → IsViews views → (silo : Silo) (earlier later : ℕ) → earlier ≤ later → later ≤ views.version
    → status_at views earlier silo ≡ Some Dead → status_at views later silo ≡ Some Dead

-- a row never goes
abbrev pub RowsStay : Type 0
RowsStay = (views : ViewsValue) → IsViews views → (silo : Silo) (earlier later : ℕ) → earlier ≤ later → later ≤ views.version
    → IsSome (status_at views earlier silo) → IsSome (status_at views later silo)

-- a silo is in the views from the version in which it joined on, and in no other
abbrev pub JoinedFrom : Type 0
JoinedFrom = (views : ViewsValue) → IsViews views → (silo : Silo) (joined : ℕ) → joining_version views silo ≡ Some joined
    → (version : ℕ) → version ≤ views.version → IsSome (status_at views version silo) ↔ (joined ≤ version)

-- a silo that is in a view and isn't Dead there
abbrev pub IsLiveIn : ViewsValue → ℕ → Silo → Type 0
IsLiveIn views version silo = IsSome (status_at views version silo) × (status_at views version silo ≢ Some Dead)

-- in each view, at most one silo of an endpoint isn't Dead
abbrev pub OneIsLive : Type 0
OneIsLive = (views : ViewsValue) → IsViews views → (version : ℕ) (a b : Silo) → IsSameEndpoint a b
    → IsLiveIn views version a → IsLiveIn views version b → a ≡ b

-- a view says of each silo that it lists, and of each that it leaves out, what the silo's row says
abbrev pub ViewsSayStatuses : Type 0
ViewsSayStatuses = (views : ViewsValue) → IsViews views → (silo : Silo) (version : ℕ) → version ≤ views.version
    → IsSome (status_at views version silo) → status_of (view_at views version) silo ≡ status_at views version silo

-- and of any other that it isn't there, or is Dead, by a newer silo of its endpoint that is
pub record IsOutlivedIn (views : ViewsValue) (version : ℕ) (silo : Silo) : Type 0 where
  pub newer : Silo
  pub same : IsSameEndpoint newer silo
  pub later : silo.generation < newer.generation
  pub there : IsSome (status_at views version newer)

abbrev pub ViewsSayNoMore : Type 0
ViewsSayNoMore = (views : ViewsValue) → IsViews views → (silo : Silo) (version : ℕ) → status_at views version silo ≡ None
    → (status_of (view_at views version) silo ≡ None) ⊎ ((status_of (view_at views version) silo ≡ Some Dead) × IsOutlivedIn views version silo)

-- a silo is the newest of its endpoint where every silo of it that is known has a lower generation
abbrev pub NewestIs : Type 0
NewestIs = (views : ViewsValue) → IsViews views → (silo : Silo)
    → IsTrue (is_newest silo views.rows)
    ↔ ((other : Silo) → IsSameEndpoint silo other → IsSome (joining_version views other) → other.generation < silo.generation)

-- the silo that a join replaces is the one of its endpoint that is in the current view and isn't Dead
abbrev pub OccupantIs : Type 0
OccupantIs = (views : ViewsValue) → IsViews views → (silo old : Silo)
    → (occupant silo views.rows ≡ Some old) ↔ (IsSameEndpoint silo old × IsLiveIn views views.version old)

-- a membership step from the current view is accepted, and makes a view with these statuses; only a join may find no room
abbrev pub StepsAreChanges : Type 0
StepsAreChanges = (views : ViewsValue) → IsViews views → (change : Change) (view : ViewValue) → MembershipStep (view_at views views.version) change view
    → (after views change ≡ Err 205)
    ⊎ ((next : ViewsValue) × (after views change ≡ Ok next) × ((silo : Silo) → status_of (view_at next next.version) silo ≡ status_of view silo))
