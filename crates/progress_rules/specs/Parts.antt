-- Nudges of a part. One of a grain gives the requests about that grain new numbers, and leaves each other request its own: so a reply to
-- that counts as it would have. One of the ranges leaves the silo as it was.
use Rattle.std.specs.Prelude.{◌≡◌, ◌≢◌, ◌↔◌, ℕ, List, Some, Ok}
use Rattle.silo_address.specs.Silo.{Silo}
use Rattle.silo_address.specs.Grain.{Grain}
use Rattle.directory_rules.specs.declared.act.Act.{Act}
use Rattle.directory_rules.specs.declared.reply.Reply.{Reply}
use Rattle.directory_rules.specs.declared.effect.Effect.TheVariants.{Nudged}
use Rattle.directory_rules.specs.declared.own_step.OwnStep.TheVariants.{NudgeGrain, NudgeRanges}
use Rattle.directory_rules.specs.Settings.{Settings}
use Rattle.directory_rules.specs.Host.{grain_of}
use Rattle.directory_rules.specs.State.{Node}
use Rattle.directory_rules.specs.Sent.{all_wants}
use Rattle.directory_rules.specs.Event.{Event}
use Rattle.directory_rules.specs.Step.{Stepped}
use Rattle.directory_rules.specs.Input.{Does, step}
use Rattle.directory_rules.specs.Reply.{replied}
use Rattle.directory_rules.specs.Happens.{node_of}
use Rattle.directory_rules.specs.Run.{run_from_start}
use Rattle.progress_rules.specs.Owed.{Owes}

-- a request about another grain is outstanding afterwards, under its number, where it was before, and whatever reply comes to it does
-- what it would have done
pub record LeavesOthers (before after : Node) (grain : Grain) : Type 0 where
  pub same : (e : ℕ × Act) → grain_of e.1 ≢ grain → Owes before.host e ↔ Owes after.host e
  pub counts : (e : ℕ × Act) (version : ℕ) (answer : Reply) → grain_of e.1 ≢ grain → Owes before.host e → (replied after version e.0 answer).effect ≡ (replied before version e.0 answer).effect

-- so it is after a nudge of a grain, in every world that events reach
abbrev pub GrainNudgesLeaveOthers : Type 0
GrainNudgesLeaveOthers = (settings : Settings) (events : List Event) (silo : Silo) (node : Node) (grain : Grain) (nudged : Stepped)
    → node_of (run_from_start settings events).world silo ≡ Some node → step node (Does (NudgeGrain grain)) ≡ Ok nudged → LeavesOthers node nudged.node grain

-- a nudge of the ranges is never refused, changes nothing, and sends what the unsettled ranges want
abbrev pub RangeNudgesChangeNothing : Type 0
RangeNudgesChangeNothing = (node : Node) → step node (Does NudgeRanges) ≡ Ok (record { node = node; letters = all_wants node; effect = Nudged })
