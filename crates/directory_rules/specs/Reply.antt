-- What a silo does with a reply: it counts only where its number is outstanding for a request that it answers.
use Rattle.std.specs.Prelude.{ℕ, ◌==◌, if◌then◌else◌, Option, Some, None}
use Rattle.silo_address.specs.Grain.{Grain}
use Rattle.silo_address.specs.declared.Entry.{Entry}
use Rattle.directory_rules.specs.declared.held.Held.{Held}
use Rattle.directory_rules.specs.declared.reply.Reply.{Reply}
use Rattle.directory_rules.specs.declared.reply.Reply.TheVariants as reply
use Rattle.directory_rules.specs.declared.effect.Effect.TheVariants.{Firm, Yielded, Ended, Learnt, Noted, Ignored}
use Rattle.directory_rules.specs.Host.{asking_under, closing_under, is_finding, is_outstanding, confirmed, without_held, without_find}
use Rattle.directory_rules.specs.Cache.{learnt}
use Rattle.directory_rules.specs.State.{Node}
use Rattle.directory_rules.specs.Step.{Stepped, silently}

-- the asking activation is firm
abbrev pub confirmed_by : Option (Grain × Held) → Node → Stepped
confirmed_by None node = silently node Ignored
confirmed_by (Some e) node = silently (record node { host = confirmed node.host e.0 e.1 }) Firm

-- the asking activation goes, and the entry that has its grain is learnt
abbrev pub yielded_by : Option (Grain × Held) → Entry → Node → Stepped
yielded_by None entry node = silently node Ignored
yielded_by (Some e) entry node = silently (record node { host = without_held node.host e.0; cache = learnt node.cache entry }) Yielded

-- the closing activation goes
abbrev pub ended_by : Option (Grain × Held) → Node → Stepped
ended_by None node = silently node Ignored
ended_by (Some e) node = silently (record node { host = without_held node.host e.0 }) Ended

-- the find ends, and its entry is learnt
abbrev pub found_by : ℕ → Entry → Node → Stepped
found_by number entry node =
    if is_finding node.host number
    then silently (record node { host = without_find node.host number; cache = learnt node.cache entry }) Learnt
    else silently node Ignored

-- the find ends with nothing
abbrev pub not_found_by : ℕ → Node → Stepped
not_found_by number node =
    if is_finding node.host number then silently (record node { host = without_find node.host number }) Noted else silently node Ignored

-- a retry changes nothing: the request stays outstanding
abbrev pub retry_by : ℕ → Node → Stepped
retry_by number node = if is_outstanding node.host number then silently node Noted else silently node Ignored

-- a reply counts at the version that the node has seen
abbrev pub at_seen : (version : ℕ) → Node → Stepped → Stepped
at_seen version node stepped = if version == node.view.version then stepped else silently node Ignored

-- a reply, of a version and under a number
abbrev pub replied : Node → (version number : ℕ) → Reply → Stepped
replied node version number (reply.Registered entry) = at_seen version node (confirmed_by (asking_under node.host number) node)
replied node version number (reply.Taken entry) = at_seen version node (yielded_by (asking_under node.host number) entry node)
replied node version number reply.Removed = at_seen version node (ended_by (closing_under node.host number) node)
replied node version number reply.Absent = at_seen version node (ended_by (closing_under node.host number) node)
replied node version number (reply.Found entry) = at_seen version node (found_by number entry node)
replied node version number reply.Nothing = at_seen version node (not_found_by number node)
replied node version number (reply.Retry why) = retry_by number node
