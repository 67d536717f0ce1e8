use Rattle.std.proofs.Common.{◌≡◌, drop}
use Rattle.published_rings.proofs.publisher.turn.Given as goal

-- nothing of it is shown yet
abbrev pub invariant-loop : goal.invariant-loop
invariant-loop g l =
    (l.writer.desk.shown.value ≡ l.initial.writer.desk.shown.value) ×
    (drop l.writer.behind l.writer.log.items ≡ drop l.initial.writer.behind l.initial.writer.log.items)
