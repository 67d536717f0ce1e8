-- The membership step: how one view follows another, told by the silos' statuses alone.
use Rattle.std.specs.Prelude.{◌≡◌, ◌≢◌, ◌+◌, ◌<◌, IsSome, Some}
use Rattle.silo_address.specs.Silo.{Silo, IsSameEndpoint}
use Rattle.membership_view.specs.declared.status.Status.TheVariants.{Active, Leaving, Dead}
use Rattle.membership_view.specs.View.{ViewValue, status_of}
use Rattle.membership_view.specs.Changes.{Change, Join, Leave, Die}

-- a silo newer than all others of its endpoint becomes Active; the older ones of its endpoint are Dead from then on, whether they ever
-- joined or not
pub record Joins (silo : Silo) (view next : ViewValue) : Type 0 where
  pub rises : next.version ≡ view.version + 1
  pub newest : (other : Silo) → IsSameEndpoint silo other → IsSome (status_of view other) → other.generation < silo.generation
  pub joined : status_of next silo ≡ Some Active
  pub older : (other : Silo) → IsSameEndpoint silo other → other.generation < silo.generation → status_of next other ≡ Some Dead
  pub others : (other : Silo) → other ≢ silo → ¬ (IsSameEndpoint silo other × (other.generation < silo.generation)) → status_of next other ≡ status_of view other

-- a silo that is Active becomes Leaving
pub record Leaves (silo : Silo) (view next : ViewValue) : Type 0 where
  pub rises : next.version ≡ view.version + 1
  pub was : status_of view silo ≡ Some Active
  pub left : status_of next silo ≡ Some Leaving
  pub others : (other : Silo) → other ≢ silo → status_of next other ≡ status_of view other

-- a silo that is there and isn't Dead becomes Dead
pub record Dies (silo : Silo) (view next : ViewValue) : Type 0 where
  pub rises : next.version ≡ view.version + 1
  pub was : IsSome (status_of view silo)
  pub was_not : status_of view silo ≢ Some Dead
  pub dead : status_of next silo ≡ Some Dead
  pub others : (other : Silo) → other ≢ silo → status_of next other ≡ status_of view other

-- a change takes one view to the next
abbrev pub MembershipStep : ViewValue → Change → ViewValue → Type 0
MembershipStep view (Join silo) next = Joins silo view next
MembershipStep view (Leave silo) next = Leaves silo view next
MembershipStep view (Die silo) next = Dies silo view next
