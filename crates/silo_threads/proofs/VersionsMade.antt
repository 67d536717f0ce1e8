-- The version that an accepted event tells is that of the view which it makes.
use Rattle.std.proofs.Common.{◌≡◌, ◌≤◌, ℕ, Option, Some, None, Result, Ok, IfOk, IfSome, refl, subst, sym}
use Rattle.directory_rules.specs.Event.{Event}
use Rattle.directory_rules.specs.declared.outcome.Outcome.{Outcome}
use Rattle.directory_rules.specs.Happens.{happens}
use Rattle.directory_rules.specs.State.{Accepted, World}
use Rattle.directory_rules.specs.World.{accepted_as}
use Rattle.directory_headline.proofs.Events.{by_event}
use Rattle.silo_threads.specs.Followed.{version_made}

abbrev IsVersionOf : World → Option ℕ → Type 0
IsVersionOf world told = IfSome told (λ version. version ≡ world.views.version)

abbrev TellsVersion : Accepted → Type 0
TellsVersion accepted = IsVersionOf accepted.world (version_made accepted.outcome.happening)

tells_version : (world : World) (event : Event) → IfOk (happens world event) TellsVersion
tells_version world event = by_event world TellsVersion
    (record {
      joins = λ silo given next added viewed placed. refl;
      leaves = λ silo changed. refl;
      dies = λ silo changed. refl;
      sees = λ silo version node stepped there sight is. tt;
      does = λ silo input node stepped own there is. tt;
      delivers = λ number letter node stepped found there is. tt;
      loses = λ number. tt;
    })
    event

pub version_left : (world : World) (event : Event) (after : World) (outcome : Outcome)
    → happens world event ≡ Ok (accepted_as after outcome) → IsVersionOf after (version_made outcome.happening)
version_left world event after outcome told =
    subst (λ (happened : Result Accepted ℕ). IfOk happened TellsVersion) told (tells_version world event)

pub up_to : (told : Option ℕ) (version bound : ℕ) → IfSome told (λ made. made ≡ version) → version ≤ bound
    → IfSome told (λ made. made ≤ bound)
up_to None version bound is within = tt
up_to (Some made) version bound is within = subst (λ (n : ℕ). n ≤ bound) (sym is) within
