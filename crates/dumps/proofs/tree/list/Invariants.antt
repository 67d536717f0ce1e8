use Rattle.std.proofs.Common.{◌≡◌, drop}
use Rattle.serde_json.specs.View.{items_view}
use Rattle.dump_rules.specs.Values.{items_in}
use Rattle.dumps.proofs.ReadLists.{onto}
use Rattle.dumps.proofs.tree.list.Given as goal

abbrev pub invariant-loop-value : goal.invariant-loop-value
invariant-loop-value g l =
    items_in g.T.ReadJson.reads (items_view l.values) ≡ onto l.list.items
    (items_in g.T.ReadJson.reads (items_view (drop l.value-index l.values)))
