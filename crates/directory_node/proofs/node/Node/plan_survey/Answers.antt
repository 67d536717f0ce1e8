use Rattle.std.proofs.Common.{◌≡◌, ◌≤◌, sym, ap, ◌∙◌, arith}
use Rattle.directory_rules.specs.State.{Node}
use Rattle.directory_rules.specs.declared.Effect.TheVariants.{Report}
use Rattle.directory_node.proofs.ManyRanges.{told_all}
use Rattle.directory_node.proofs.node.Node.plan_survey.Goals as goal

pub returns-clause-planned : goal.returns-clause-planned
returns-clause-planned c =
    let node = c.args.self.now in
    let letter = c.args.letter.now in
    let seen : c.self.inside.view.version ≡ node.view.version = ap (λ (n : Node). n.view.version) c.self.view_is in
    let low : letter.version ≤ node.view.version = omega (arith, seen, c.version.ensures, c.version-2.ensures, c.if-version.false) in
    let high : node.view.version ≤ letter.version = omega (arith, seen, c.version-3.ensures, c.version-4.ensures, c.if-version-2.false) in
    (λ i. record { node = node; letters = c.in_ok-letters.ensures i; effect = Report })
    ∙ sym (told_all node letter c.args.ranges.now c.in-Some.first.now (sym c.in-Some.ensures.value) low high)
