-- The commands but for a join and a letter, and for the steps that its application asks of the silo: together with these, all that the
-- rule has.
use Rattle.std.specs.Prelude.{ℕ, List, [], ◌∷◌, codes}
use Rattle.script_rules.specs.Script.{Grammar, a_grain, no_word}
use Rattle.process_rules.specs.ReadLine.{Asked, Leaving, Dead, Owner, Figures, Show, Dump, a_version_and_a_silo, a_version, a_word, a_grain_and_a_policy}

abbrev pub other_commands : List (List ℕ × Grammar Asked)
other_commands =
    (codes "leaving", a_version_and_a_silo Leaving)
    ∷ (codes "dead", a_version_and_a_silo Dead)
    ∷ (codes "see", a_version)
    ∷ (codes "ping", a_word)
    ∷ (codes "owner", a_grain Owner)
    ∷ (codes "place", a_grain_and_a_policy)
    ∷ (codes "status", no_word Figures)
    ∷ (codes "show", no_word Show)
    ∷ (codes "dump", no_word Dump)
    ∷ []
