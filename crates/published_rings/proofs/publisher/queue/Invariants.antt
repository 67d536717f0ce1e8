use Rattle.std.proofs.Common.{◌≡◌, drop}
use Rattle.published_rings.proofs.publisher.queue.Given as goal

-- the edition is still to be put there
abbrev pub invariant-loop : goal.invariant-loop
invariant-loop g l =
    (l.writer.desk ≡ l.initial.writer.desk) × (drop l.writer.behind l.writer.log.items ≡ drop l.initial.writer.behind
    l.initial.writer.log.items) × (l.left ≡ l.initial.left)
