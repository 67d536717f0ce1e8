use Rattle.std.proofs.Common.{◌≡◌, ◌+◌, ◌-◌, ◌++◌, map}
use Rattle.std.specs.List.{range_with_len}
use Rattle.directory_rules.specs.Event.{See}
use Rattle.directory_rules.specs.EventModel.{event_of}
use Rattle.silo_threads.proofs.sync.see_up_to.Given as goal

-- what is listed, with what is left, is what was to be listed
abbrev pub invariant-loop-seen : goal.invariant-loop-seen
invariant-loop-seen l =
    map event_of l.events.items ++ map (See l.silo) (range_with_len (l.seen + 1) (l.current - l.seen))
    ≡ map event_of l.fn.events.items ++ map (See l.silo) (range_with_len (l.after + 1) (l.current - l.after))
