-- What a silo's status says of it.
use Rattle.std.proofs.Common.{◌≡◌, IsSome, refl, ap}
use Rattle.std.specs.Prelude.{true, false, Option, Some, None, not}
use Rattle.membership_view.specs.declared.status.Status.{Status}
use Rattle.membership_view.specs.declared.status.Status.TheVariants.{Active, Leaving, Dead}
use Rattle.directory_rules.specs.Members.{is_known_dead}
use Rattle.directory_rules.specs.Laws.{is_live}

pub live_there : (status : Option Status) → is_live status ≡ true → IsSome status
live_there None is = absurd (cc (is))
live_there (Some status) is = refl

pub live_not_dead : (status : Option Status) → is_live status ≡ true → is_known_dead status ≡ false
live_not_dead None is = absurd (cc (is))
live_not_dead (Some Active) is = refl
live_not_dead (Some Leaving) is = refl
live_not_dead (Some Dead) is = absurd (cc (is))

pub live_alive : (status : Option Status) → is_live status ≡ true → not (is_known_dead status) ≡ true
live_alive status is = ap not (live_not_dead status is)

pub dead_not_live : (status : Option Status) → is_known_dead status ≡ true → is_live status ≡ false
dead_not_live None is = refl
dead_not_live (Some Active) is = absurd (cc (is))
dead_not_live (Some Leaving) is = absurd (cc (is))
dead_not_live (Some Dead) is = refl

-- who is there and isn't Dead is live
pub alive_live : (status : Option Status) → IsSome status → not (is_known_dead status) ≡ true → is_live status ≡ true
alive_live None there alive = absurd (cc (there))
alive_live (Some Active) there alive = refl
alive_live (Some Leaving) there alive = refl
alive_live (Some Dead) there alive = absurd (cc (alive))

pub there_live : (status : Option Status) → IsSome status → is_known_dead status ≡ false → is_live status ≡ true
there_live status there not_dead = alive_live status there (ap not not_dead)
