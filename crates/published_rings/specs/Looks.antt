-- What a reader makes of a look.
use Rattle.std.specs.Prelude.{◌≡◌, ℕ, ◌<◌, ◌≤◌, All, Option, Some, None}
use Rattle.hash_ring.specs.Owner.{owner_of}
use Rattle.published_rings.specs.declared.route.Route.{Route}
use Rattle.published_rings.specs.declared.rule.Known.{Known}
use Rattle.published_rings.specs.Log.{FrontValue}
use Rattle.published_rings.specs.Shown.{EditionValue, ShownValue, IsOfView, front_of}
use Rattle.published_rings.specs.Rule.{Begins, StaysOf, Looks}

-- the route of a hash by the ring of an edition, which is that of a view, newer than all before it and not older than was told; and the
-- front that the edition shows
pub record IsAnswer (edition : EditionValue) (told hash : ℕ) (answer : Route × FrontValue) : Type 0 where
  pub version : answer.0.version ≡ edition.ring.version
  pub owner : answer.0.owner ≡ owner_of edition.ring.points hash
  pub not_older : told ≤ answer.0.version
  pub newer : All (λ ring. ring.version < edition.ring.version) edition.earlier
  pub made : IsOfView edition.ring
  pub front : answer.1 ≡ front_of edition

-- with an answer, one looked at the edition that it is by; without one, as much or more was seen, of the same publication
abbrev pub IsLook : Known → Known → ℕ → ℕ → Option (Route × FrontValue) → Type 0
IsLook known now told hash None = Begins known.seen now.seen × StaysOf known now
IsLook known now told hash (Some answer) = (shown : ShownValue) × Looks known shown shown now × IsAnswer shown.edition told hash answer
