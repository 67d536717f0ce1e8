-- Deployments in which one step is wrong, and two silos have the grain firm.
use Rattle.std.specs.Prelude.{◌≡◌, ℕ, Bool, false, List, [], ◌∷◌, ◌++◌, map, filter, Option, Some, None}
use Rattle.std.specs.Option.{option_map_or}
use Rattle.silo_address.specs.Silo.{Silo}
use Rattle.silo_address.specs.Grain.{Grain}
use Rattle.directory_rules.specs.declared.reply.Reply.TheVariants as reply
use Rattle.directory_rules.specs.Host.{held_of, is_firm}
use Rattle.directory_rules.specs.State.{Letter, Reply_letter}
use Rattle.directory_rules.specs.declared.own_step.OwnStep.TheVariants.{Wake}
use Rattle.directory_rules.specs.Worked.{silo_a, silo_b, grain_a}
use Rattle.directory_rules.specs.Membership.{Change, Join, Die, Listed}
use Rattle.silo_rules.specs.SiloValue.{SiloValue}
use Rattle.silo_rules.specs.Told.{told}
use Rattle.silo_rules.specs.Begun.{told_view}
use Rattle.deployment_headline.specs.Deployment.{Deployment, process_of}
use Rattle.deployment_headline.specs.Steps.{Decide, Tell, See, Do, Receive, delivers, heard, begins, after, after_all, deployed}
use Rattle.deployment_headline.specs.Worked.{worked_settings, opening, joining, handing}

-- whether the silo has the grain firm
abbrev pub has_firm : Grain → SiloValue → Bool
has_firm grain s = option_map_or (λ held. is_firm held.phase) (held_of s.node.host grain) false

-- the silos at whose processes it is firm
abbrev pub firm_at : Grain → Deployment → List Silo
firm_at grain d = map (λ e. e.0) (filter (λ e. has_firm grain e.1) d.processes)

-- The wrong steps.

-- any letter comes to a silo's process, whether it was written or not
abbrev pub comes_unwritten : Option SiloValue → Deployment → Silo → Letter → Deployment
comes_unwritten None d silo letter = d
comes_unwritten (Some s) d silo letter = delivers (Some letter) d silo s

-- a silo dies, and its process goes on
abbrev pub dies_in_vain : Deployment → Silo → Deployment
dies_in_vain d silo = record (after d (Decide (Die silo))) { processes = d.processes }

-- a silo's process is told a change that wasn't decided
abbrev pub told_otherwise : Option SiloValue → Deployment → Silo → (version : ℕ) → Change → Deployment
told_otherwise None d silo version change = d
told_otherwise (Some s) d silo version change = heard (told s.node.settings s.membership version change) d silo s

-- a silo's process begins with a view that no changes decided made
abbrev pub begins_otherwise : Option SiloValue → Deployment → Silo → (version : ℕ) → List Listed → Deployment
begins_otherwise None d silo version rows = d
begins_otherwise (Some s) d silo version rows = begins (told_view s.node.settings s.membership silo version rows) d silo s

-- What they break.

-- the second silo is woken for the grain too; a reply that the owner never wrote says that it is entered
abbrev pub asking : Deployment
asking =
    deployed worked_settings
    (opening ++ Decide (Join silo_b (1000 ∷ [])) ∷ Tell silo_b 0 ∷ Tell silo_b 1 ∷ See silo_b 2 ∷ Do silo_b (Wake grain_a) ∷ [])

abbrev pub forged : Letter
forged = record {
  from = silo_a;
  to = silo_b;
  version = 2;
  body = Reply_letter 1 (reply.Registered (record { grain = grain_a; activation = record { silo = silo_b; count = 1 } }));
}

abbrev pub AForgedLetterConfirms : Type 0
AForgedLetterConfirms = firm_at grain_a (comes_unwritten (process_of asking silo_b) asking silo_b forged) ≡ silo_a ∷ silo_b ∷ []

-- the first silo is dead by the changes, and the second one, which owns the grain's hash, is told so and woken for the grain; but the
-- first one's activation goes on
abbrev pub ADeadSiloGoesOn : Type 0
ADeadSiloGoesOn =
    firm_at grain_a
    (after_all (dies_in_vain (deployed worked_settings (opening ++ joining ++ handing)) silo_a)
    (Tell silo_b 2 ∷ See silo_b 3 ∷ Do silo_b (Wake grain_a) ∷ Receive silo_b 8 ∷ Receive silo_b 9 ∷ []))
    ≡ silo_a ∷ silo_b ∷ []

-- the second silo is told that the first change was its own join: it finds itself alone, and owns the grain's hash
abbrev pub TwoSequencesAreTold : Type 0
TwoSequencesAreTold =
    firm_at grain_a
    (after_all
    (told_otherwise (process_of (deployed worked_settings (opening ++ Decide (Join silo_b (5 ∷ [])) ∷ [])) silo_b)
    (deployed worked_settings (opening ++ Decide (Join silo_b (5 ∷ [])) ∷ [])) silo_b 1 (Join silo_b (5 ∷ [])))
    (See silo_b 1 ∷ Receive silo_b 4 ∷ Receive silo_b 5 ∷ Do silo_b (Wake grain_a) ∷ Receive silo_b 6 ∷ Receive silo_b 7 ∷ []))
    ≡ silo_a ∷ silo_b ∷ []

-- the second silo begins with a view in which nobody is: once it has joined it finds itself alone, and owns the grain's hash
abbrev pub AnotherViewIsTold : Type 0
AnotherViewIsTold =
    firm_at grain_a
    (after_all
    (begins_otherwise (process_of (deployed worked_settings (opening ++ Decide (Join silo_b (5 ∷ [])) ∷ [])) silo_b)
    (deployed worked_settings (opening ++ Decide (Join silo_b (5 ∷ [])) ∷ [])) silo_b 1 [])
    (Tell silo_b 1 ∷ See silo_b 2 ∷ Receive silo_b 4 ∷ Receive silo_b 5 ∷ Do silo_b (Wake grain_a) ∷ Receive silo_b 6 ∷ Receive silo_b 7 ∷ []))
    ≡ silo_a ∷ silo_b ∷ []
