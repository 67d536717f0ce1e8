use Rattle.line_loop.specs.Progress.{progress}
use Rattle.line_loop.proofs.Steps.{ends_there, passes_line, plays_ended}
use Rattle.line_loop.proofs.session.Session.step_ended.Goals as goal

pub returns-then-self-clause-steps : goal.returns-then-self-clause-steps
returns-then-self-clause-steps g c =
    let old = progress c.args.self.now in
    passes_line g.P.LinePlayer.plays g.P.LinePlayer.MOST_KEPT g.P.LinePlayer.MOST_READ g.met.P.LinePlayer.too_long c.args.player.now
    c.args.player.now old old (progress c.go_behind.new.self)
    c.args.count c.if-self.true c.requires.found c.go_behind.ensures.behind

pub returns-in-None-clause-steps : goal.returns-in-None-clause-steps
returns-in-None-clause-steps g c =
    plays_ended g.P.LinePlayer.plays g.P.LinePlayer.MOST_KEPT g.P.LinePlayer.MOST_READ g.met.P.LinePlayer.too_long c.args.player.now
    c.play_line.new.player (progress c.args.self.now) (progress c.play_line.new.self) (progress c.go_behind-in-None.new.self)
    c.args.count c.if-self.false c.requires.short c.requires.found c.in-None.ensures.plays c.go_behind-in-None.ensures.behind

pub returns-in-Some-clause-steps : goal.returns-in-Some-clause-steps
returns-in-Some-clause-steps g c =
    let new = progress c.play_line.new.self in
    ends_there g.P.LinePlayer.plays g.P.LinePlayer.MOST_KEPT g.P.LinePlayer.MOST_READ g.met.P.LinePlayer.too_long c.args.player.now
    c.play_line.new.player (progress c.args.self.now) new new
    c.args.count c.in-Some.ended c.if-self.false c.requires.short c.requires.found c.in-Some.ensures.plays
