use Rattle.std.proofs.Common.{◌≡◌, take}
use Rattle.grain_table.proofs.short_entry.short_entries.Given as goal

abbrev pub invariant-loop-entry : goal.invariant-loop-entry
invariant-loop-entry l = l.short.items ≡ take l.entry-index l.entries
