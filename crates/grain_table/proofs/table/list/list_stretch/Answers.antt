use Rattle.std.proofs.Common.{◌≡◌, ◌∙◌, ap, false, rules}
use Rattle.directory_rules.specs.Members.{is_dead_in}
use Rattle.grain_table.proofs.Listed.{one_listed, with_living}
use Rattle.grain_table.proofs.table.list.list_stretch.Goals as goal

pub entries-init : goal.entries-init
entries-init c =
    ap (with_living c.args.view.now c.args.entries.items) (c.into_iter-key-iterator.ensures.into_iter_gives ∙ c.between-key-items.ensures)

pub entries-preserved : goal.entries-preserved
entries-preserved c =
    let living : is_dead_in c.args.view.now c.in-Some.activation.silo ≡ false = search rules in
    one_listed c.args.view.now c.entries.entries.items c.push.new.self.items (c.in-Some.key, c.in-Some.activation) c.entries.key-iterator
    c.next.new.self living c.in-Some.ensures.steps
    c.in_ok-push.ensures.items
    ∙ c.entries.invariant
