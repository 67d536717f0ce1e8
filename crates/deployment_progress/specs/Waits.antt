-- For what a silo waits with its ranges, and that it only waits for less.
use Rattle.std.specs.Prelude.{◌≡◌, ◌≤◌, ◌⊎◌, true, Some}
use Rattle.silo_address.specs.Silo.{Silo}
use Rattle.ring_range.specs.Range.{Range}
use Rattle.hash_ring.specs.Hash.{hash_grain}
use Rattle.directory_rules.specs.State.{Node}
use Rattle.directory_rules.specs.Recovery.{told_by}
use Rattle.directory_rules.specs.Sent.{gathering_of, recovery_of}
use Rattle.directory_rules.specs.Sight.{is_settled}
use Rattle.directory_rules.specs.Transfer.{piece_at, has_range}
use Rattle.silo_rules.specs.SiloValue.{SiloValue}
use Rattle.progress_rules.specs.Waits.{Recovers, Awaits, IsUpTo}
use Rattle.progress_rules.specs.Gathers.{AwaitsFrom}
use Rattle.deployment_headline.specs.Deployment.{Deployment, process_of}
use Rattle.deployment_headline.specs.Steps.{after_all}
use Rattle.deployment_progress.specs.Quiet.{WhileQuiet}

-- the node has the range settled
abbrev pub HasSettled : Node → Range → Type 0
HasSettled node range = has_range is_settled range (piece_at node range) ≡ true

-- the silo has told as much, or further
abbrev pub HasToldOn : (before after : Node) → Range → Silo → Type 0
HasToldOn before after range silo =
    IsUpTo (hash_grain before.settings.hashing) range (told_by silo (recovery_of before range)) (told_by silo (recovery_of after range))

-- from the one node to the other, by the same settings, a silo only waits for less
pub record WaitsForLess (before after : Node) : Type 0 where
  pub settings : after.settings ≡ before.settings
  -- what is settled stays settled; a range that recovers goes on or is settled; one that awaits a snapshot goes on, recovers, or is
  -- settled; and no range begins to wait
  pub settled : (range : Range) → HasSettled before range → HasSettled after range
  pub recovers : (range : Range) → Recovers before range → Recovers after range ⊎ HasSettled after range
  pub awaits : (range : Range) (giver : Silo) → AwaitsFrom before range giver → AwaitsFrom after range giver ⊎ (Recovers after range ⊎ HasSettled after range)
  pub recovered : (range : Range) → Recovers after range → Recovers before range ⊎ ((giver : Silo) × AwaitsFrom before range giver)
  -- a silo that was struck off stays so while the range recovers, what another has told stays told, and pages that were had stay had
  pub reports : (range : Range) (silo : Silo) → Recovers before range → Awaits after range silo → Awaits before range silo
  pub told : (range : Range) (silo : Silo) → Recovers before range → Awaits after range silo → HasToldOn before after range silo
  pub pages : (range : Range) (giver : Silo) → AwaitsFrom after range giver → AwaitsFrom before range giver × ((gathering_of before range).next ≤ (gathering_of after range).next)

-- the silo has a process still, which has seen what the node had and only waits for less
pub record HasGoneOn (d : Deployment) (silo : Silo) (before : Node) : Type 0 where
  pub process : SiloValue
  pub there : process_of d silo ≡ Some process
  pub view : process.node.view ≡ before.view
  pub less : WaitsForLess before process.node

-- so it is with each silo, whatever happens in the quiet
abbrev pub SilosWaitForLess : Type 0
SilosWaitForLess = WhileQuiet (λ d later. (silo : Silo) (s : SiloValue) → process_of d silo ≡ Some s → HasGoneOn (after_all d later) silo s.node)
