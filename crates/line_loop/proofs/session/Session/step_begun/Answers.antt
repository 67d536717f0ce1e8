use Rattle.std.proofs.Common.{◌≡◌, ◌∙◌, ◌-◌, ◌≤◌, ℕ, List, None, Some, ap, arith, drop, false, length, rules, subst, sym, true}
use Rattle.std.proofs.lemmas.List.{length-take, take_all}
use Rattle.line_loop.specs.Progress.{PlaysPart, Progress, progress}
use Rattle.line_loop.proofs.Steps.{ends_last, ends_passed, ends_whole, passes_all}
use Rattle.line_loop.proofs.session.Session.step_begun.Goals as goal

pub returns-then-self-2-clause-steps : goal.returns-then-self-2-clause-steps
returns-then-self-2-clause-steps g c =
    let old = progress c.args.self.now in
    let behind = c.pass_over.ensures.behind in
    ends_passed g.P.LinePlayer.plays g.P.LinePlayer.MOST_KEPT g.P.LinePlayer.MOST_READ g.met.P.LinePlayer.too_long c.args.player.now
    c.args.player.now old old (progress c.pass_over.new.self)
    c.if-self.true (sym (ap (λ (p : Progress). p.ended) behind) ∙ c.if-self-2.true) c.requires.begun behind

pub returns-else-self-2-clause-steps : goal.returns-else-self-2-clause-steps
returns-else-self-2-clause-steps g c =
    let old = progress c.args.self.now in
    let behind = c.pass_over.ensures.behind in
    passes_all g.P.LinePlayer.plays g.P.LinePlayer.MOST_KEPT g.P.LinePlayer.MOST_READ g.met.P.LinePlayer.too_long c.args.player.now
    c.args.player.now old old (progress c.pass_over.new.self)
    c.if-self.true (sym (ap (λ (p : Progress). p.ended) behind) ∙ c.if-self-2.false) c.requires.begun behind

pub returns-in-None-clause-steps : goal.returns-in-None-clause-steps
returns-in-None-clause-steps g c =
    let self = c.args.self.now in
    let old = progress self in
    let new = progress c.play_line.new.self in
    let end : self.ended ≡ true = search rules in
    let fits : length old.held ≤ self.end - self.start = omega (arith, length-take (self.end - self.start) (drop self.start self.bytes.items)) in
    ends_whole g.P.LinePlayer.plays g.P.LinePlayer.MOST_KEPT g.P.LinePlayer.MOST_READ g.met.P.LinePlayer.too_long c.args.player.now
    c.play_line.new.player old new new
    c.if-self.false end c.requires.short c.requires.begun
    (subst (λ (l : List ℕ). PlaysPart g.P.LinePlayer.plays c.args.player.now old l false c.play_line.new.player new None)
    (take_all (self.end - self.start) old.held fits) c.in-None.ensures.plays)

pub returns-in-Some-clause-steps : goal.returns-in-Some-clause-steps
returns-in-Some-clause-steps g c =
    let self = c.args.self.now in
    let old = progress self in
    let new = progress c.play_line.new.self in
    let end : self.ended ≡ true = search rules in
    let fits : length old.held ≤ self.end - self.start = omega (arith, length-take (self.end - self.start) (drop self.start self.bytes.items)) in
    ends_last g.P.LinePlayer.plays g.P.LinePlayer.MOST_KEPT g.P.LinePlayer.MOST_READ g.met.P.LinePlayer.too_long c.args.player.now
    c.play_line.new.player old new new
    c.in-Some.ended c.if-self.false end c.requires.short c.requires.begun
    (subst (λ (l : List ℕ). PlaysPart g.P.LinePlayer.plays c.args.player.now old l false c.play_line.new.player new (Some c.in-Some.ended))
    (take_all (self.end - self.start) old.held fits) c.in-Some.ensures.plays)
