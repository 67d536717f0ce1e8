use Rattle.std.proofs.Common.{ℕ, ◌<◌, List, None, Some, arith, length, subst, true}
use Rattle.std.proofs.lemmas.List.{take_all}
use Rattle.line_loop.specs.Progress.{PlaysPart, progress}
use Rattle.line_loop.proofs.Steps.{ends_long, plays_long}
use Rattle.line_loop.proofs.session.Session.step_long.Goals as goal

pub returns-in-None-clause-steps : goal.returns-in-None-clause-steps
returns-in-None-clause-steps g c =
    let old = progress c.args.self.now in
    let late = progress c.play_line.new.self in
    let long : g.P.LinePlayer.MOST_KEPT < length old.held = omega (arith, c.requires.long, c.requires.whole) in
    plays_long g.P.LinePlayer.plays g.P.LinePlayer.MOST_KEPT g.P.LinePlayer.MOST_READ g.met.P.LinePlayer.too_long c.args.player.now
    c.play_line.new.player old late (progress c.pass_over.new.self)
    c.requires.played c.requires.short c.requires.begun long
    (subst (λ (l : List ℕ). PlaysPart g.P.LinePlayer.plays c.args.player.now old l true c.play_line.new.player late None)
    (take_all c.args.count old.held (omega (arith, c.requires.whole))) c.in-None.ensures.plays)
    c.pass_over.ensures.behind

pub returns-in-Some-clause-steps : goal.returns-in-Some-clause-steps
returns-in-Some-clause-steps g c =
    let old = progress c.args.self.now in
    let new = progress c.play_line.new.self in
    let long : g.P.LinePlayer.MOST_KEPT < length old.held = omega (arith, c.requires.long, c.requires.whole) in
    ends_long g.P.LinePlayer.plays g.P.LinePlayer.MOST_KEPT g.P.LinePlayer.MOST_READ g.met.P.LinePlayer.too_long c.args.player.now
    c.play_line.new.player old new new
    c.in-Some.ended c.requires.played c.requires.short c.requires.begun long
    (subst (λ (l : List ℕ). PlaysPart g.P.LinePlayer.plays c.args.player.now old l true c.play_line.new.player new (Some c.in-Some.ended))
    (take_all c.args.count old.held (omega (arith, c.requires.whole))) c.in-Some.ensures.plays)
