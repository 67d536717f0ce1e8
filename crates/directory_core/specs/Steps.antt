-- A step of a silo in the world.
use Rattle.std.specs.Prelude.{ℕ, ◌+◌, ◌==◌, ◌||◌, nat_le, if◌then◌else◌, List, Option, Some, None}
use Rattle.silo_address.specs.Silo.{Silo}
use Rattle.directory_rules.specs.declared.OwnStep.{OwnStep}
use Rattle.directory_rules.specs.declared.OwnStep.TheVariants.{Nudge, NudgeGrain, NudgeRanges}
use Rattle.directory_rules.specs.State.{Letter, Node, World}
use Rattle.directory_rules.specs.Mail.{with_sent}
use Rattle.directory_rules.specs.Happens.{with_node, counted}

-- the world after an event in which the silo's node became this one and these letters were sent
abbrev pub after_step : World → Silo → Node → List Letter → World
after_step world silo node letters = counted (with_sent (with_node world silo node) letters)

-- the number that refuses an event for so many letters, if any does: 909 where they are more than may ever be sent
abbrev pub letters_number : World → (count : ℕ) → Option ℕ
letters_number world count = if (count == 0) || nat_le (world.sent + count) world.settings.letters then None else Some 909

-- how many letters a step that lacks memory would send, as is known before they are made; of a nudge it isn't known
abbrev pub known_count : OwnStep → ℕ
known_count Nudge = 0
known_count (NudgeGrain grain) = 0
known_count NudgeRanges = 0
known_count step = 1
