use Rattle.std.proofs.Common.{subst}
use Rattle.line_loop.specs.Progress.{Progress, Steps, progress}
use Rattle.line_loop.proofs.session.Session.step.Goals as goal

pub returns-in-Some-clause-steps : goal.returns-in-Some-clause-steps
returns-in-Some-clause-steps g c =
    subst (λ (p : Progress). Steps g.P.LinePlayer.plays g.P.LinePlayer.MOST_KEPT g.P.LinePlayer.MOST_READ c.args.player.now p
    c.step_ended.new.player (progress c.step_ended.new.self) c.step_ended.result)
    c.in-Some.ensures.same c.step_ended.ensures.steps

pub returns-in-None-clause-steps : goal.returns-in-None-clause-steps
returns-in-None-clause-steps g c =
    subst (λ (p : Progress). Steps g.P.LinePlayer.plays g.P.LinePlayer.MOST_KEPT g.P.LinePlayer.MOST_READ c.args.player.now p
    c.step_begun.new.player (progress c.step_begun.new.self) c.step_begun.result)
    c.in-None.ensures.same c.step_begun.ensures.steps
