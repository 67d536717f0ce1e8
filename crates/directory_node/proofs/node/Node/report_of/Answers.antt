use Rattle.std.proofs.Common.{ap, ◌∙◌, length, take}
use Rattle.std.specs.Prelude.{nat_le}
use Rattle.directory_rules.specs.Host.{firm_behind}
use Rattle.directory_rules.specs.State.{Node, Report}
use Rattle.directory_node.proofs.node.Node.report_of.Goals as goal

pub returns : goal.returns
returns c =
    let node = c.args.self.now in
    let page = c.in_ok-page.page in
    let made : Report = record { version = node.view.version; range = c.args.range; silo = node.host.silo; after = c.args.after; entries = page.entries.items; last = page.last } in
    c.report_with.ensures
    ∙ (λ i. record made { entries = c.in_ok-page.ensures.entries i; last = c.in_ok-page.ensures.last i })
    ∙ (λ i. record made {
      entries = take (c.report_size.ensures i) (firm_behind (c.hashing.ensures i) c.self.inside.host c.args.range c.args.after);
      last = nat_le (length (firm_behind (c.hashing.ensures i) c.self.inside.host c.args.range c.args.after)) (c.report_size.ensures i);
    })
    ∙ ap (λ (n : Node). record made {
      entries = take n.settings.report_size (firm_behind n.settings.hashing n.host c.args.range c.args.after);
      last = nat_le (length (firm_behind n.settings.hashing n.host c.args.range c.args.after)) n.settings.report_size;
    }) c.self.view_is
