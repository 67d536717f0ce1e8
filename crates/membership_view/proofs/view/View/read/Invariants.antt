use Rattle.membership_view.proofs.Reading.{IsRead}
use Rattle.membership_view.proofs.view.View.read.Given as goal

abbrev pub invariant-loop-silo : goal.invariant-loop-silo
invariant-loop-silo l = IsRead l.shown.items l.last l.version l.silo-iterator l.rows.entries
