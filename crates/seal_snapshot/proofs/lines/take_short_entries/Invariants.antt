use Rattle.std.proofs.Common.{take, flat_map}
use Rattle.directory_rules.specs.Snapshot.{digest_line}
use Rattle.seal_snapshot.specs.Lines.{Takes}
use Rattle.seal_snapshot.proofs.lines.take_short_entries.Given as goal

abbrev pub invariant-loop-entry : goal.invariant-loop-entry
invariant-loop-entry l = Takes l.fn.hasher (flat_map digest_line (take l.entry-index l.entries)) l.hasher
