-- What silos send one another may be said by lines.
use Rattle.std.specs.Prelude.{List, All}
use Rattle.directory_rules.specs.Event.{Event, IsEvent}
use Rattle.directory_rules.specs.Run.{run_from_start}
use Rattle.directory_rules.specs.Settings.{Settings, AreSettings}
use Rattle.deployment_headline.specs.Steps.{Step, IsStep, deployed}
use Rattle.process_rules.specs.Told.{IsSayable}

-- so is each letter of a world that events reach
abbrev pub LettersAreSayable : Type 0
LettersAreSayable =
    (settings : Settings) (events : List Event) → AreSettings settings → All IsEvent events → All (λ e. IsSayable settings.hashing e.1.letter) (run_from_start settings events).world.mail

-- and each that a deployment's processes wrote
abbrev pub WrittenIsSayable : Type 0
WrittenIsSayable = (settings : Settings) (steps : List Step) → AreSettings settings → All IsStep steps → All (IsSayable settings.hashing) (deployed settings steps).written
