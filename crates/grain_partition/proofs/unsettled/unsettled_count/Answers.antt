use Rattle.std.proofs.Common.{rules, tests}
use Rattle.std.specs.Map.{values_of}
use Rattle.std.proofs.lemmas.Iterator.Consumers.{YieldsList-from_rest, YieldsList-at, YieldsList-from_filter, count_from_yields_List}
use Rattle.grain_partition.proofs.unsettled.unsettled_count.Goals as goal

pub returns : goal.returns
returns c =
    count_from_yields_List c.filter.result c.count.result c.count.ensures.ran
    (YieldsList-from_filter _ _
    (YieldsList-at c.filter.ensures.source (YieldsList-from_rest (values_of c.args.pieces.now.entries) c.values.ensures.rest))
    c.filter.ensures.closure (λ x r q k. search (rules, tests)))
