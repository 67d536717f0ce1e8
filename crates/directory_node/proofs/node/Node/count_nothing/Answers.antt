use Rattle.std.proofs.Common.{◌≡◌, sym, subst, ap, ◌∙◌, true}
use Rattle.directory_rules.specs.State.{Node}
use Rattle.directory_rules.specs.Transfer.{has_range, is_recovering, piece_at, recovers}
use Rattle.range_recovery.specs.Progress.{nothing_of}
use Rattle.node_plans.specs.Plans.{empty_from}
use Rattle.directory_node.specs.NodeModel.{node_of}
use Rattle.node_plans.proofs.CountedReports.{Takes, counted, kept_by_taking, left_by_more, left_by_union, takes_by}
use Rattle.node_plans.proofs.Reports.{recovers_in}
use Rattle.directory_node.proofs.ManyRanges.{is_counted, recovering, uncounted}
use Rattle.directory_node.proofs.node.Node.count_nothing.Goals as goal

pub returns-then-not-recovers : goal.returns-then-not-recovers
returns-then-not-recovers c =
    uncounted c.args.self.now (empty_from c.args.from c.args.version) c.args.range (sym c.recovers.ensures ∙ c.if-not-recovers.true)

pub settle_recovered-requires : goal.settle_recovered-requires
settle_recovered-requires c =
    let letter = empty_from c.args.from c.args.version in
    let is : recovers c.args.self.now c.args.version c.args.range ≡ true = sym c.recovers.ensures ∙ c.if-not-recovers.false in
    record {
      recovers =
          ap (λ (n : Node). has_range is_recovering c.args.range (piece_at n c.args.range)) c.self.view_is
          ∙ recovering c.args.self.now letter c.args.range is;
    }

pub invariant_of-self : goal.invariant_of-self
invariant_of-self c =
    let node = node_of c.self.inside in
    let report = nothing_of c.args.version c.args.range c.args.from in
    let letter = empty_from c.args.from c.args.version in
    let is : recovers c.args.self.now c.args.version c.args.range ≡ true = sym c.recovers.ensures ∙ c.if-not-recovers.false in
    kept_by_taking node report c.take_nothing.result c.take_nothing.new.recoveries.entries c.self.invariant
    (recovers_in node _ c.args.range c.self.view_is (recovering c.args.self.now letter c.args.range is))
    (takes_by node report c.take_nothing.new.recoveries.entries c.take_nothing.result c.take_nothing.ensures.complete c.take_nothing.ensures.taken)

pub invariant_of-self-else-take_nothing : goal.invariant_of-self-else-take_nothing
invariant_of-self-else-take_nothing c =
    let node = node_of c.self.inside in
    let report = nothing_of c.args.version c.args.range c.args.from in
    let letter = empty_from c.args.from c.args.version in
    let is : recovers c.args.self.now c.args.version c.args.range ≡ true = sym c.recovers.ensures ∙ c.if-not-recovers.false in
    kept_by_taking node report c.take_nothing.result c.take_nothing.new.recoveries.entries c.self.invariant
    (recovers_in node _ c.args.range c.self.view_is (recovering c.args.self.now letter c.args.range is))
    (takes_by node report c.take_nothing.new.recoveries.entries c.take_nothing.result c.take_nothing.ensures.complete c.take_nothing.ensures.taken)

pub returns-then-take_nothing : goal.returns-then-take_nothing
returns-then-take_nothing c =
    let node = node_of c.self.inside in
    let report = nothing_of c.args.version c.args.range c.args.from in
    let letter = empty_from c.args.from c.args.version in
    let new = c.take_nothing.new.recoveries.entries in
    let is : recovers c.args.self.now c.args.version c.args.range ≡ true = sym c.recovers.ensures ∙ c.if-not-recovers.false in
    let piece = recovers_in node _ c.args.range c.self.view_is (recovering c.args.self.now letter c.args.range is) in
    let takes = subst (λ b. Takes node report new b) c.if-take_nothing.true (takes_by node report new c.take_nothing.result c.take_nothing.ensures.complete c.take_nothing.ensures.taken) in
    left_by_union node c.settle_recovered.new.self report new c.self.invariant piece takes c.settle_recovered.ensures
    ∙ ap (λ (n : Node). (counted n report).node) c.self.view_is
    ∙ is_counted c.args.self.now letter c.args.range is

pub returns-else-take_nothing : goal.returns-else-take_nothing
returns-else-take_nothing c =
    let node = node_of c.self.inside in
    let report = nothing_of c.args.version c.args.range c.args.from in
    let letter = empty_from c.args.from c.args.version in
    let new = c.take_nothing.new.recoveries.entries in
    let is : recovers c.args.self.now c.args.version c.args.range ≡ true = sym c.recovers.ensures ∙ c.if-not-recovers.false in
    let piece = recovers_in node _ c.args.range c.self.view_is (recovering c.args.self.now letter c.args.range is) in
    let takes = subst (λ b. Takes node report new b) c.if-take_nothing.false (takes_by node report new c.take_nothing.result c.take_nothing.ensures.complete c.take_nothing.ensures.taken) in
    left_by_more node report new c.self.invariant c.take_nothing.ensures.in_order piece takes
    ∙ ap (λ (n : Node). (counted n report).node) c.self.view_is
    ∙ is_counted c.args.self.now letter c.args.range is
