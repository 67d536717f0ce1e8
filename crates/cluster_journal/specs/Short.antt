-- Entries kept short: most events of a cluster are deliveries, and mostly what a delivery does names no grain.
use Rattle.directory_rules.specs.declared.effect.Effect.{Effect}
use Rattle.directory_rules.specs.declared.effect.Effect.TheVariants as effects
use Rattle.directory_rules.specs.Event.{Event, Deliver}
use Rattle.directory_rules.specs.declared.outcome.Outcome.{Outcome}
use Rattle.directory_rules.specs.declared.outcome.Happening.{Happening}
use Rattle.directory_rules.specs.declared.outcome.Happening.TheVariants.{Delivered}
use Rattle.cluster_journal.specs.Entry.{EntryValue}
use Rattle.cluster_journal.specs.declared.short.Delivery.{Delivery}
use Rattle.cluster_journal.specs.declared.short.ShortEffect.{ShortEffect}
use Rattle.cluster_journal.specs.declared.short.ShortEffect.TheVariants as short
use Rattle.std.specs.Prelude.{◌≡◌}

-- the effect that is kept so
abbrev pub effect_by : ShortEffect → Effect
effect_by short.Next = effects.Next
effect_by short.Skip = effects.Skip
effect_by short.Nudged = effects.Nudged
effect_by short.Registered = effects.Registered
effect_by short.Taken = effects.Taken
effect_by short.Removed = effects.Removed
effect_by short.Absent = effects.Absent
effect_by short.Found = effects.Found
effect_by short.Nothing = effects.Nothing
effect_by (short.Retry why) = effects.Retry why
effect_by short.Firm = effects.Firm
effect_by short.Yielded = effects.Yielded
effect_by short.Ended = effects.Ended
effect_by short.Learnt = effects.Learnt
effect_by short.Noted = effects.Noted
effect_by short.Ignored = effects.Ignored
effect_by short.Page = effects.Page
effect_by short.Missing = effects.Missing
effect_by short.Behind = effects.Behind
effect_by short.Ahead = effects.Ahead
effect_by short.Installed = effects.Installed
effect_by short.Gathering = effects.Gathering
effect_by (short.Refused number) = effects.Refused number
effect_by short.Recovering = effects.Recovering
effect_by short.Deleted = effects.Deleted
effect_by short.Report = effects.Report
effect_by short.More = effects.More
effect_by short.Complete = effects.Complete

-- the effect names a grain
abbrev pub NamesGrain : Effect → Type 0
NamesGrain (effects.Started entry) = Unit {0}
NamesGrain (effects.Closing entry) = Unit {0}
NamesGrain (effects.Cancelled entry) = Unit {0}
NamesGrain (effects.Offered entry to) = Unit {0}
NamesGrain (effects.Cached entry) = Unit {0}
NamesGrain (effects.Finding grain) = Unit {0}
NamesGrain (effects.Forgot grain) = Unit {0}
NamesGrain (effects.NothingCached grain) = Unit {0}
NamesGrain _ = ⊥

-- what the delivery told
abbrev pub delivered : Delivery → Outcome
delivered delivery = record { happening = Delivered delivery.number delivery.kind (effect_by delivery.effect); sent = delivery.sent }

-- its entry
abbrev pub entry_by : Delivery → EntryValue
entry_by delivery = record { event = Deliver delivery.number; outcome = delivered delivery }

-- no delivery, or one whose effect names a grain
abbrev pub IsLong : Event → Happening → Type 0
IsLong (Deliver number) (Delivered its _ effect) = number ≡ its → NamesGrain effect
IsLong _ _ = Unit {0}
