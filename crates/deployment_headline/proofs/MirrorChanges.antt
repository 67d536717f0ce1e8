-- A change that all changes decided accept, a silo that mirrors them accepts too, and then mirrors them still.
use Rattle.std.proofs.Common.{◌≡◌}
use Rattle.std.specs.Prelude.{Ok}
use Rattle.directory_rules.specs.Settings.{Settings}
use Rattle.directory_rules.specs.Membership.{Change, Join, Leave, Die, Membership, changed}
use Rattle.silo_rules.proofs.Whole.{Are}
use Rattle.deployment_headline.proofs.Mirrors.{Mirrors}
use Rattle.deployment_headline.proofs.MirrorJoins.{GoesOn, join_on}
use Rattle.deployment_headline.proofs.MirrorLeaves.{leave_on, die_on}

pub goes_on : (settings : Settings) (m d : Membership) → Are settings m → Are settings d → Mirrors m d → (c : Change) (next : Membership)
    → changed settings d c ≡ Ok next → GoesOn settings m next c
goes_on settings m d are all is (Join silo stated) next made = join_on settings m d are all is silo stated next made
goes_on settings m d are all is (Leave silo) next made = leave_on settings m d are all is silo next made
goes_on settings m d are all is (Die silo) next made = die_on settings m d are all is silo next made
