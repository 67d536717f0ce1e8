use Rattle.std.proofs.Common.{◌+◌, ◌<◌, ◌≤◌, length, vec_len}
use Rattle.line_loop.specs.Progress.{progress, work}
use Rattle.line_loop.specs.Turns.{SoFar}
use Rattle.line_loop.proofs.playing.play.Given as goal

abbrev pub invariant-turns : goal.invariant-turns
invariant-turns g l = record {
  so_far : SoFar g.P.LinePlayer.plays g.P.LinePlayer.MOST_KEPT g.P.LinePlayer.MOST_READ g.R.Source.reads g.W.Sink.writes l.fn.player
      (l.fn.reader, l.fn.writer) l.player (progress l.session) (l.reader, l.writer);
  short : length (progress l.session).waiting < 32768;
  bounded : vec_len l.session.bytes ≤ 65536 + g.P.LinePlayer.MOST_KEPT;
}

abbrev pub decreases-turns : goal.decreases-turns
decreases-turns g l = work (progress l.session)
