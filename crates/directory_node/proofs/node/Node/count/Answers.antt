use Rattle.std.proofs.Common.{◌≡◌, subst, ap, ◌∙◌, Some}
use Rattle.std.specs.Map.{lookup}
use Rattle.std.specs.BTreeMap.{is_at}
use Rattle.std.specs.Ordering.{nat_cmp}
use Rattle.ring_range.specs.Range.{Range}
use Rattle.directory_rules.specs.State.{Recovery, Node}
use Rattle.directory_rules.specs.Transfer.{with_settled}
use Rattle.directory_node.specs.NodeModel.{node_of}
use Rattle.node_plans.proofs.CountedReports.{Takes, counted, kept_by_taking, left_by_more, left_by_union, takes_by}
use Rattle.node_plans.proofs.Reports.{recovers_in}
use Rattle.directory_node.proofs.node.Node.count.Goals as goal

pub invariant_of-self-then-branch : goal.invariant_of-self-then-branch
invariant_of-self-then-branch c =
    kept_by_taking (node_of c.self.inside) c.args.report.now c.in_ok-take_report.field-0 c.take_report.new.recoveries.entries
    c.self.invariant
    (recovers_in (node_of c.self.inside) _ c.args.report.now.range c.self.view_is c.requires.recovers)
    (takes_by (node_of c.self.inside) c.args.report.now c.take_report.new.recoveries.entries c.in_ok-take_report.field-0
    c.in_ok-take_report.ensures.complete c.in_ok-take_report.ensures.taken)

pub invariant_of-self-else-branch : goal.invariant_of-self-else-branch
invariant_of-self-else-branch c =
    kept_by_taking (node_of c.self.inside) c.args.report.now c.in_ok-take_report.field-0 c.take_report.new.recoveries.entries
    c.self.invariant
    (recovers_in (node_of c.self.inside) _ c.args.report.now.range c.self.view_is c.requires.recovers)
    (takes_by (node_of c.self.inside) c.args.report.now c.take_report.new.recoveries.entries c.in_ok-take_report.field-0
    c.in_ok-take_report.ensures.complete c.in_ok-take_report.ensures.taken)

pub returns-then-branch-clause-made : goal.returns-then-branch-clause-made
returns-then-branch-clause-made c =
    let node = node_of c.self.inside in
    let report = c.args.report.now in
    let new = c.take_report.new.recoveries.entries in
    let piece = recovers_in node _ report.range c.self.view_is c.requires.recovers in
    let takes = subst (λ b. Takes node report new b) c.if-branch.true (takes_by node report new c.in_ok-take_report.field-0 c.in_ok-take_report.ensures.complete c.in_ok-take_report.ensures.taken) in
    let settles = subst (λ (range : Range). (r : Recovery) → lookup (is_at (nat_cmp range.start)) new ≡ Some r → c.settle_recovered.new.self ≡ with_settled (record node { recoveries = new }) range r.gathered) c.range.ensures c.settle_recovered.ensures in
    left_by_union node c.settle_recovered.new.self report new c.self.invariant piece takes settles
    ∙ ap (λ (n : Node). (counted n report).node) c.self.view_is

pub returns-else-branch-clause-made : goal.returns-else-branch-clause-made
returns-else-branch-clause-made c =
    let node = node_of c.self.inside in
    let report = c.args.report.now in
    let new = c.take_report.new.recoveries.entries in
    let piece = recovers_in node _ report.range c.self.view_is c.requires.recovers in
    let takes = subst (λ b. Takes node report new b) c.if-branch.false (takes_by node report new c.in_ok-take_report.field-0 c.in_ok-take_report.ensures.complete c.in_ok-take_report.ensures.taken) in
    left_by_more node report new c.self.invariant c.take_report.ensures.in_order piece takes
    ∙ ap (λ (n : Node). (counted n report).node) c.self.view_is
