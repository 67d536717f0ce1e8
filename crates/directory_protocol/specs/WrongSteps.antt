-- Wrong protocols, second kind: the step is allowed as it should be, but does another thing.
use Rattle.std.specs.Prelude.{◌≡◌, ◌<◌, ℕ, true, Option, Some, None, ◌∷◌, option_map}
use Rattle.silo_address.specs.Silo.{Silo}
use Rattle.silo_address.specs.Grain.{Grain}
use Rattle.silo_address.specs.declared.activation.ActivationId.{ActivationId}
use Rattle.directory_protocol.specs.Change.{put, put_at}
use Rattle.directory_protocol.specs.Setting.{Setting}
use Rattle.directory_protocol.specs.Letters.{activation_on, Deregister}
use Rattle.directory_protocol.specs.World.{World, Asking, Firm, Closing, count_of}
use Rattle.directory_protocol.specs.Actions.{Sight, MaySee, MayClose}
use Rattle.directory_protocol.specs.Effects.{after_sight, asked, reported}

-- a silo reports at a version that it hasn't seen yet
abbrev pub QueryAnsweredAtAnotherVersion : Setting → World → World → Type 0
QueryAnsweredAtAnotherVersion m w after =
    (s : Silo) × (v : ℕ) × (m.alive w.now s ≡ true) × (w.seen s < v) × (after ≡ record w { reports = record { version = v; sender = s; firm = (reported w s).firm } ∷ w.reports })

-- a silo reports at a version that it has gone past
abbrev pub SkippedVersionStillReports : Setting → World → World → Type 0
SkippedVersionStillReports m w after =
    (s : Silo) × (v : ℕ) × (m.alive w.now s ≡ true) × (v < w.seen s) × (after ≡ record w { reports = record { version = v; sender = s; firm = (reported w s).firm } ∷ w.reports })

-- a silo reports the activations that ask, too
abbrev pub ReportHasAskingActivations : Setting → World → World → Type 0
ReportHasAskingActivations m w after =
    (s : Silo) × (m.alive w.now s ≡ true) × (after ≡ record w { reports = record { version = w.seen s; sender = s; firm = λ g. option_map count_of (w.held s g) } ∷ w.reports })

-- a silo that reports drops its activations
abbrev pub RecoveryDropsFirmActivations : Setting → World → World → Type 0
RecoveryDropsFirmActivations m w after =
    (s : Silo) × (m.alive w.now s ≡ true) × (after ≡ record w { held = put s (λ g. None) w.held; reports = reported w s ∷ w.reports })

-- a sight keeps and seals the entries on silos that are dead in its version, too
abbrev pub SnapshotKeepsDeadSilos : Setting → World → World → Type 0
SnapshotKeepsDeadSilos m w after =
    (x : Sight) × MaySee m w x × (after ≡ record (after_sight m w x) { table = w.table; snapshots = record { sealed_at = w.seen x.silo; covers = x.sealed; entries = w.table x.silo } ∷ w.snapshots })

-- a silo offers its firm activation, and keeps it firm
abbrev pub OfferLeavesFirm : Setting → World → World → Type 0
OfferLeavesFirm m w after =
    (s : Silo) × (g : Grain) × (count : ℕ) × MayClose m w s g (Firm count) × (after ≡ record w { offers = record { version = w.seen s; grain = g; activation = activation_on s count } ∷ w.offers })

-- a silo gives up an activation that asks, and holds it no more
abbrev pub CancelForgetsTheActivation : Setting → World → World → Type 0
CancelForgetsTheActivation m w after =
    (s : Silo) × (g : Grain) × (count number : ℕ) × (previous : Option ActivationId) × MayClose m w s g (Asking count number previous) × (after ≡ record w { held = put_at s g None w.held })

-- a silo gives up an activation that asks, by a deregistration under an older number than its registration's
abbrev pub CancelHasAnOlderNumber : Setting → World → World → Type 0
CancelHasAnOlderNumber m w after =
    (s : Silo) × (g : Grain) × (count number older : ℕ) × (previous : Option ActivationId) × MayClose m w s g (Asking count number previous) × (older < number) × (after ≡ record w { held = put_at s g (Some (Closing count older)) w.held; requests = record (asked w Deregister s g count None) { number = older } ∷ w.requests })
