-- How what is kept of a letter is the rule's letter: a grain is kept by its number among all grains that letters named.
use Rattle.std.specs.Prelude.{ℕ, ◌<◌, List, [], None, slice_index_or}
use Rattle.silo_address.specs.Grain.{Grain}
use Rattle.silo_address.specs.Silo.{Silo}
use Rattle.silo_address.specs.declared.Entry.{Entry}
use Rattle.directory_rules.specs.declared.Act.{Act}
use Rattle.directory_rules.specs.declared.Act.TheVariants as act
use Rattle.directory_rules.specs.declared.Reply.TheVariants as reply
use Rattle.directory_rules.specs.declared.Why.TheVariants as why
use Rattle.ring_range.specs.Range.{Range}
use Rattle.directory_rules.specs.State.{Letter, Body, Request_letter, Reply_letter, Ask_letter, Missing_letter, Done_letter, Query_letter, Behind_letter, Ahead_letter, Offer_letter}
use Rattle.letter_mail.specs.declared.kept.Named.{Named}
use Rattle.letter_mail.specs.declared.kept.Span.{Span}
use Rattle.letter_mail.specs.declared.kept.Says.{Says}
use Rattle.letter_mail.specs.declared.kept.Says.TheVariants as says
use Rattle.letter_mail.specs.declared.kept.Brief.{Brief}

-- the grain of a number
abbrev pub grain_at : List Grain → ℕ → Grain
grain_at grains number = slice_index_or grains number (record { kind = []; key = [] })

-- the entry whose grain has a number
abbrev pub entry_by : List Grain → Named → Entry
entry_by grains named = record { grain = grain_at grains named.grain; activation = record { silo = named.silo; count = named.count } }

-- the range that was kept
abbrev pub range_by : Span → Range
range_by span = record { start = span.start; size = span.size }

-- a request of this sender and version
abbrev pub request_by : Silo → ℕ → (number hash : ℕ) → Act → Body
request_by from version number hash act = Request_letter (record { sender = from; version = version; number = number; hash = hash; act = act })

-- what a letter of this sender and version says
abbrev pub said_by : List Grain → Silo → ℕ → Says → Body
said_by grains from version (says.Register number hash entry) = request_by from version number hash (act.Register (entry_by grains entry) None)
said_by grains from version (says.Deregister number hash entry) = request_by from version number hash (act.Deregister (entry_by grains entry))
said_by grains from version (says.Find number hash grain) = request_by from version number hash (act.Find (grain_at grains grain))
said_by grains from version (says.Registered number entry) = Reply_letter number (reply.Registered (entry_by grains entry))
said_by grains from version (says.Taken number entry) = Reply_letter number (reply.Taken (entry_by grains entry))
said_by grains from version (says.Removed number) = Reply_letter number reply.Removed
said_by grains from version (says.Absent number) = Reply_letter number reply.Absent
said_by grains from version (says.Found number entry) = Reply_letter number (reply.Found (entry_by grains entry))
said_by grains from version (says.Nothing number) = Reply_letter number reply.Nothing
said_by grains from version (says.View number seen) = Reply_letter number (reply.Retry (why.View seen))
said_by grains from version (says.Unsettled number) = Reply_letter number (reply.Retry why.Unsettled)
said_by grains from version (says.OldNumber number last) = Reply_letter number (reply.Retry (why.OldNumber last))
said_by grains from version (says.NotOwner number) = Reply_letter number (reply.Retry why.NotOwner)
said_by grains from version (says.Ask span page) = Ask_letter (range_by span) page
said_by grains from version (says.Missing span) = Missing_letter (range_by span)
said_by grains from version (says.Done span) = Done_letter (range_by span)
said_by grains from version (says.Query span) = Query_letter (range_by span) None
said_by grains from version (says.Behind span) = Behind_letter (range_by span)
said_by grains from version (says.Ahead span) = Ahead_letter (range_by span)
said_by grains from version (says.Offer entry) = Offer_letter (entry_by grains entry)

-- the letter that is kept short
abbrev pub letter_by : List Grain → Brief → Letter
letter_by grains brief = record { from = brief.from; to = brief.to; version = brief.version; body = said_by grains brief.from brief.version brief.says }

-- where so many grains have numbers, this has the number of one
abbrev pub IsNumbered : ℕ → Says → Type 0
IsNumbered count (says.Register number hash entry) = entry.grain < count
IsNumbered count (says.Deregister number hash entry) = entry.grain < count
IsNumbered count (says.Find number hash grain) = grain < count
IsNumbered count (says.Registered number entry) = entry.grain < count
IsNumbered count (says.Taken number entry) = entry.grain < count
IsNumbered count (says.Removed number) = Unit {0}
IsNumbered count (says.Absent number) = Unit {0}
IsNumbered count (says.Found number entry) = entry.grain < count
IsNumbered count (says.Nothing number) = Unit {0}
IsNumbered count (says.View number seen) = Unit {0}
IsNumbered count (says.Unsettled number) = Unit {0}
IsNumbered count (says.OldNumber number last) = Unit {0}
IsNumbered count (says.NotOwner number) = Unit {0}
IsNumbered count (says.Ask span page) = Unit {0}
IsNumbered count (says.Missing span) = Unit {0}
IsNumbered count (says.Done span) = Unit {0}
IsNumbered count (says.Query span) = Unit {0}
IsNumbered count (says.Behind span) = Unit {0}
IsNumbered count (says.Ahead span) = Unit {0}
IsNumbered count (says.Offer entry) = entry.grain < count
