-- The steps of a silo by itself: those that the event rule has for it, on its own views, places and node. It takes none before it
-- was told of its own join, and none once it is Dead by what it was told.
use Rattle.std.specs.Prelude.{ℕ, nat_lt, not, if◌then◌else◌, Option, Some, None, Result, Ok, Err}
use Rattle.silo_address.specs.Silo.{silo_eq}
use Rattle.directory_rules.specs.declared.effect.Effect.TheVariants.{Ignored}
use Rattle.directory_rules.specs.State.{Letter}
use Rattle.directory_rules.specs.Step.{Stepped, silently}
use Rattle.directory_rules.specs.Input.{Input, Receives, sight_of, step}
use Rattle.directory_rules.specs.Membership.{barred_by, is_seeable}
use Rattle.silo_rules.specs.SiloValue.{SiloValue, own_status}

-- the number that bars the silo, by the last change that it was told
abbrev pub barred : SiloValue → Option ℕ
barred s = barred_by (own_status s)

-- refused by the number, if there is one
abbrev pub unless_barred : Option ℕ → Result Stepped ℕ → Result Stepped ℕ
unless_barred None outcome = outcome
unless_barred (Some number) outcome = Err number

-- the silo's node takes an input: 901, 902, and then as the step refuses
abbrev pub does : SiloValue → Input → Result Stepped ℕ
does s input = unless_barred (barred s) (step s.node input)

-- a version is seen: 903 where it isn't newer than the one seen, 904 where the silo wasn't told of it or joined later, then as the
-- step refuses
abbrev pub seen : SiloValue → (version : ℕ) → Result Stepped ℕ
seen s version =
    if not (nat_lt s.node.view.version version) then Err 903
    else (if not (is_seeable s.membership s.node.host.silo version) then Err 904
    else step s.node (sight_of s.membership version))

-- the silo sees a version: 901, 902, 903, 904, and then as the step refuses
abbrev pub sees : SiloValue → (version : ℕ) → Result Stepped ℕ
sees s version = unless_barred (barred s) (seen s version)

-- a letter comes: one to another silo is ignored; then 901, 902
abbrev pub receives : SiloValue → Letter → Result Stepped ℕ
receives s letter = if silo_eq letter.to s.node.host.silo then does s (Receives letter) else Ok (silently s.node Ignored)
