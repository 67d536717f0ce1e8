-- How an event of the code is an event of the rule.
use Rattle.directory_rules.specs.Event as rule
use Rattle.directory_rules.specs.declared.event.Event.{Event}
use Rattle.directory_rules.specs.declared.event.Event.TheVariants.{Join, Leave, Kill, See, Do, Deliver, Lose}

-- the rule's event
abbrev pub event_of : Event → rule.Event
event_of (Join silo places) = rule.Join silo places.items
event_of (Leave silo) = rule.Leave silo
event_of (Kill silo) = rule.Kill silo
event_of (See silo version) = rule.See silo version
event_of (Do silo step) = rule.Do silo step
event_of (Deliver number) = rule.Deliver number
event_of (Lose number) = rule.Lose number
