-- A node's refusal that isn't out of memory has a number, so that whatever would have to hold of one without a number holds of it.
use Rattle.std.proofs.Common.{◌≢◌, refl}
use Rattle.std.specs.Prelude.{IfNone}
use Rattle.node_plans.specs.Numbers.{step_refusal_number}
use Rattle.node_plans.specs.declared.refusal.StepRefusal.{StepRefusal}
use Rattle.node_plans.specs.declared.refusal.StepRefusal.TheVariants as node

pub node_numbered : (Unnumbered : Type 0) (refusal : StepRefusal) → refusal ≢ node.OutOfMemory
    → IfNone (step_refusal_number refusal) Unnumbered
node_numbered Unnumbered node.AlreadyHere other = tt
node_numbered Unnumbered node.NotHere other = tt
node_numbered Unnumbered node.NotFirm other = tt
node_numbered Unnumbered node.NotAsking other = tt
node_numbered Unnumbered node.NotActiveSilo other = tt
node_numbered Unnumbered node.NumbersSpent other = tt
node_numbered Unnumbered node.HostFull other = tt
node_numbered Unnumbered node.NotATarget other = tt
node_numbered Unnumbered node.NotNewer other = tt
node_numbered Unnumbered node.OutOfMemory other = absurd (other refl)
