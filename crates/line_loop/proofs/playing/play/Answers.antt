use Rattle.std.proofs.Common.{◌∙◌, [], ap, arith, false, length, rules}
use Rattle.line_loop.specs.Calls.{no_call, no_read, no_text}
use Rattle.line_loop.specs.Progress.{Progress, first_progress, progress}
use Rattle.line_loop.specs.declared.ended.Ended.TheVariants.{OutOfMemory}
use Rattle.line_loop.proofs.Turns.{begins, ends, in_turn, not_begun, of_each}
use Rattle.line_loop.proofs.playing.play.Goals as goal

pub returns-in_default-clause-ends : goal.returns-in_default-clause-ends
returns-in_default-clause-ends g c =
    ends g.P.LinePlayer.plays g.P.LinePlayer.MOST_KEPT g.P.LinePlayer.MOST_READ g.met.P.LinePlayer.too_long g.R.Source.reads g.W.Sink.writes
    c.args.player.now (c.args.reader.now, c.args.writer.now)
    g.R.Source.remaining g.W.Sink.contents g.met.R.Source.known g.met.W.Sink.known c.args.player.now (c.args.reader.now, c.args.writer.now)
    OutOfMemory
    (not_begun g.P.LinePlayer.plays g.P.LinePlayer.MOST_KEPT g.P.LinePlayer.MOST_READ g.met.P.LinePlayer.too_long g.R.Source.reads
    g.W.Sink.writes c.args.player.now (c.args.reader.now, c.args.writer.now))

pub returns-in_default-clause-in_turn : goal.returns-in_default-clause-in_turn
returns-in_default-clause-in_turn g c = ([], [], false, no_call)

pub returns-in_default-clause-calls : goal.returns-in_default-clause-calls
returns-in_default-clause-calls g c = (no_read, no_text)

pub turns-init : goal.turns-init
turns-init g c = record {
  so_far =
      begins g.P.LinePlayer.plays g.P.LinePlayer.MOST_KEPT g.P.LinePlayer.MOST_READ g.met.P.LinePlayer.too_long g.R.Source.reads
      g.W.Sink.writes c.args.player.now (c.args.reader.now, c.args.writer.now)
      (progress c.in-Ok.session) (c.in-Ok.ensures.first ∙ ap first_progress c.MOST_READ.ensures);
  short = omega (arith, ap (λ (p : Progress). length p.waiting) c.in-Ok.ensures.first);
  bounded = search rules;
}

pub returns-in-Some-clause-ends : goal.returns-in-Some-clause-ends
returns-in-Some-clause-ends g c =
    ends g.P.LinePlayer.plays g.P.LinePlayer.MOST_KEPT g.P.LinePlayer.MOST_READ g.met.P.LinePlayer.too_long g.R.Source.reads g.W.Sink.writes
    c.args.player.now (c.args.reader.now, c.args.writer.now)
    g.R.Source.remaining g.W.Sink.contents g.met.R.Source.known g.met.W.Sink.known c.turn.new.player (c.turn.new.reader, c.turn.new.writer)
    c.in-Some.ended
    (c.in-Some.ensures.goes c.args.player.now (c.args.reader.now, c.args.writer.now) c.turns.invariant.so_far)

pub returns-in-Some-clause-in_turn : goal.returns-in-Some-clause-in_turn
returns-in-Some-clause-in_turn g c =
    in_turn g.P.LinePlayer.plays g.P.LinePlayer.MOST_KEPT g.P.LinePlayer.MOST_READ g.met.P.LinePlayer.too_long g.R.Source.reads
    g.W.Sink.writes c.args.player.now (c.args.reader.now, c.args.writer.now)
    c.turn.new.player (c.turn.new.reader, c.turn.new.writer) c.in-Some.ended
    (c.in-Some.ensures.goes c.args.player.now (c.args.reader.now, c.args.writer.now) c.turns.invariant.so_far)

pub returns-in-Some-clause-calls : goal.returns-in-Some-clause-calls
returns-in-Some-clause-calls g c =
    of_each g.P.LinePlayer.plays g.P.LinePlayer.MOST_KEPT g.P.LinePlayer.MOST_READ g.met.P.LinePlayer.too_long g.R.Source.reads
    g.W.Sink.writes c.args.player.now (c.args.reader.now, c.args.writer.now) (c.turn.new.reader, c.turn.new.writer) c.in-Some.ended
    (in_turn g.P.LinePlayer.plays g.P.LinePlayer.MOST_KEPT g.P.LinePlayer.MOST_READ g.met.P.LinePlayer.too_long g.R.Source.reads
    g.W.Sink.writes c.args.player.now (c.args.reader.now, c.args.writer.now)
    c.turn.new.player (c.turn.new.reader, c.turn.new.writer) c.in-Some.ended
    (c.in-Some.ensures.goes c.args.player.now (c.args.reader.now, c.args.writer.now) c.turns.invariant.so_far))
