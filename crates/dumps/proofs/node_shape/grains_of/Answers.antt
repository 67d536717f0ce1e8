use Rattle.std.proofs.Common.{◌≡◌, IfOk, map, rules, subst}
use Rattle.std.proofs.lemmas.Iterator.{YieldsList-from_slice, YieldsList-from_map_by}
use Rattle.std.proofs.lemmas.Iterator.Consumers.{map_from_collect}
use Rattle.std.specs.Borrow.{Bor}
use Rattle.silo_address.specs.Grain.{Grain}
use Rattle.dump_rules.specs.Dump.{DumpHeld, DumpNode}
use Rattle.dumps.specs.Mixed.{grains_lent}
use Rattle.dumps.proofs.node_shape.grains_of.Goals as goal

pub returns : goal.returns
returns c =
    subst (λ (node : DumpNode). IfOk c.collect.result
    (λ grains. grains_lent grains.items ≡ map (λ (held : DumpHeld). held.grain) node.held)) c.node.view_is
    (map_from_collect c.collect.result c.collect.ensures.ran
    (YieldsList-from_map_by _ (λ (grain : Bor Grain). grain.now) (λ (held : DumpHeld). held.grain)
    (YieldsList-from_slice c.node.inside.held.items cc) c.map.ensures.closure (λ x r q k. search rules)))
