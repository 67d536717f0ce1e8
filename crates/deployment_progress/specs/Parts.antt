-- Nudges of a part, of a silo's process. One of a grain leaves each request about another grain its number, so that a reply to it still
-- counts; one of the ranges leaves all processes as they were.
use Rattle.std.specs.Prelude.{◌≡◌, Some, Ok}
use Rattle.silo_address.specs.Silo.{Silo}
use Rattle.silo_address.specs.Grain.{Grain}
use Rattle.directory_rules.specs.declared.own_step.OwnStep.TheVariants.{NudgeGrain, NudgeRanges}
use Rattle.directory_rules.specs.Input.{Does}
use Rattle.directory_rules.specs.Step.{Stepped}
use Rattle.silo_rules.specs.SiloValue.{SiloValue}
use Rattle.silo_rules.specs.Steps.{does}
use Rattle.progress_rules.specs.Parts.{LeavesOthers}
use Rattle.deployment_headline.specs.Deployment.{Deployment, process_of}
use Rattle.deployment_headline.specs.Steps.{Do, after}
use Rattle.deployment_headline.specs.Theorems.{AfterAnySteps}

-- a silo that is nudged about a grain, whatever happened before
abbrev pub GrainNudgesLeaveOthers : Type 0
GrainNudgesLeaveOthers = AfterAnySteps (λ d. (silo : Silo) (s : SiloValue) (grain : Grain) (nudged : Stepped)
    → process_of d silo ≡ Some s → does s (Does (NudgeGrain grain)) ≡ Ok nudged → LeavesOthers s.node nudged.node grain)

-- the processes, and what they were told, are as they were
pub record ChangesNoProcess (d after : Deployment) : Type 0 where
  pub membership : after.membership ≡ d.membership
  pub processes : (silo : Silo) → process_of after silo ≡ process_of d silo

-- wherever a silo is nudged about its ranges
abbrev pub RangeNudgesChangeNoProcess : Type 0
RangeNudgesChangeNoProcess = (d : Deployment) (silo : Silo) → ChangesNoProcess d (after d (Do silo NudgeRanges))
