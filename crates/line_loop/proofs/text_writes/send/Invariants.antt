use Rattle.std.proofs.Common.{◌-◌, ◌≤◌, drop, length}
use Rattle.line_loop.proofs.Sent.{WrittenSoFar}
use Rattle.line_loop.proofs.text_writes.send.Given as goal

abbrev pub invariant-loop-sent : goal.invariant-loop-sent
invariant-loop-sent g l = record {
  within : l.sent ≤ length l.bytes;
  calls : WrittenSoFar g.W.Sink.writes l.bytes (drop l.sent l.bytes) l.fn.writer l.writer;
}

abbrev pub decreases-loop-sent : goal.decreases-loop-sent
decreases-loop-sent g l = length l.bytes - l.sent
