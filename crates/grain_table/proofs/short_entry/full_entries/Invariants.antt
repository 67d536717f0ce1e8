use Rattle.std.proofs.Common.{◌≡◌, take}
use Rattle.grain_table.proofs.short_entry.full_entries.Given as goal

abbrev pub invariant-loop-entry : goal.invariant-loop-entry
invariant-loop-entry l = l.entries.items ≡ take l.entry-index l.short
