use Rattle.std.proofs.Common.{Some}
use Rattle.line_loop.specs.Progress.{progress}
use Rattle.line_loop.proofs.Turns.{broken_then, drained, ended_then, filled_then, stepped}
use Rattle.line_loop.proofs.session.Session.turn.Goals as goal

pub returns-in-Played-clause-goes : goal.returns-in-Played-clause-goes
returns-in-Played-clause-goes g c = λ first start so_far.
    stepped g.P.LinePlayer.plays g.P.LinePlayer.MOST_KEPT g.P.LinePlayer.MOST_READ g.met.P.LinePlayer.too_long g.R.Source.reads
    g.W.Sink.writes first start
    c.args.player.now c.step.new.player (progress c.args.self.now) (progress c.step.new.self) (c.args.reader.now, c.args.writer.now)
    c.in-Played.ensures.steps.0 so_far

pub returns-in-Played-2-clause-goes : goal.returns-in-Played-2-clause-goes
returns-in-Played-2-clause-goes g c =
    drained g.P.LinePlayer.plays g.P.LinePlayer.MOST_KEPT g.P.LinePlayer.MOST_READ g.met.P.LinePlayer.too_long g.R.Source.reads
    g.W.Sink.writes
    c.args.player.now c.step.new.player (progress c.args.self.now) (progress c.step.new.self) (progress c.drain.new.self) c.args.reader.now
    c.args.writer.now c.drain.new.writer
    c.drain.result c.in-Played-2.ensures.steps.0 c.drain.ensures.drains c.drain.ensures.calls

pub returns-in-None-clause-goes : goal.returns-in-None-clause-goes
returns-in-None-clause-goes g c =
    let steps = c.in-Wants.ensures.steps in
    filled_then g.P.LinePlayer.plays g.P.LinePlayer.MOST_KEPT g.P.LinePlayer.MOST_READ g.met.P.LinePlayer.too_long g.R.Source.reads
    g.W.Sink.writes
    c.args.player.now c.step.new.player (progress c.args.self.now) (progress c.step.new.self) (progress c.drain-in-Wants.new.self)
    c.args.reader.now c.args.writer.now c.drain-in-Wants.new.writer
    (progress c.fill.new.self) c.fill.new.reader c.fill.result steps.0 steps.2 steps.3 c.in-None.ensures.drains c.in-None.ensures.calls
    c.fill.ensures.fills

pub returns-in-Some-clause-goes : goal.returns-in-Some-clause-goes
returns-in-Some-clause-goes g c =
    drained g.P.LinePlayer.plays g.P.LinePlayer.MOST_KEPT g.P.LinePlayer.MOST_READ g.met.P.LinePlayer.too_long g.R.Source.reads
    g.W.Sink.writes
    c.args.player.now c.step.new.player (progress c.args.self.now) (progress c.step.new.self) (progress c.drain-in-Wants.new.self)
    c.args.reader.now c.args.writer.now c.drain-in-Wants.new.writer
    (Some c.in-Some.broken) c.in-Wants.ensures.steps.0 c.in-Some.ensures.drains c.in-Some.ensures.calls

pub returns-in-None-drain-clause-goes : goal.returns-in-None-drain-clause-goes
returns-in-None-drain-clause-goes g c =
    let steps = c.in-Ends.ensures.steps in
    ended_then g.P.LinePlayer.plays g.P.LinePlayer.MOST_KEPT g.P.LinePlayer.MOST_READ g.met.P.LinePlayer.too_long g.R.Source.reads
    g.W.Sink.writes
    c.args.player.now c.step.new.player (progress c.args.self.now) (progress c.step.new.self) (progress c.drain-in-Ends.new.self)
    c.args.reader.now c.args.writer.now c.drain-in-Ends.new.writer
    c.in-Ends.ended steps.0 steps.1 c.in-None-drain.ensures.calls

pub returns-in-Some-drain-clause-goes : goal.returns-in-Some-drain-clause-goes
returns-in-Some-drain-clause-goes g c =
    broken_then g.P.LinePlayer.plays g.P.LinePlayer.MOST_KEPT g.P.LinePlayer.MOST_READ g.met.P.LinePlayer.too_long g.R.Source.reads
    g.W.Sink.writes
    c.args.player.now c.step.new.player (progress c.args.self.now) (progress c.step.new.self) (progress c.drain-in-Ends.new.self)
    c.args.reader.now c.args.writer.now c.drain-in-Ends.new.writer
    c.in-Ends.ended c.in-Some-drain.broken c.in-Ends.ensures.steps.1 c.in-Some-drain.ensures.drains c.in-Some-drain.ensures.calls
