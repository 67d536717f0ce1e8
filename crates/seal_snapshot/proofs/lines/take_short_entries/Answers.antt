use Rattle.std.proofs.Common.{sym}
use Rattle.directory_rules.specs.Snapshot.{digest_line}
use Rattle.seal_snapshot.proofs.Pages.{lines_more}
use Rattle.seal_snapshot.proofs.Hashed.{takes_as, takes_both}
use Rattle.seal_snapshot.proofs.lines.take_short_entries.Goals as goal

pub loop-entry-preserved : goal.loop-entry-preserved
loop-entry-preserved c =
    takes_as _ _ _ _ (sym (lines_more digest_line c.args.entries.now c.loop-entry.entry-index c.entry-item.result c.loop-entry-test.true))
    (takes_both _ _ _ _ _ c.loop-entry.invariant (rw c.entry-item.is at c.take_short_entry.ensures))
