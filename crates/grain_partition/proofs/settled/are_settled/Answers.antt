use Rattle.std.proofs.Common.{◌≡◌, sym, ◌∙◌, ap, subst, arith, false}
use Rattle.ring_range.specs.Range.{Range}
use Rattle.directory_rules.specs.Laws.{lies_settled}
use Rattle.directory_rules.specs.Sight.{was_settled}
use Rattle.grain_partition.specs.Search.{SettlesAt}
use Rattle.grain_partition.proofs.Walks.{settled-nothing, unsettled-first, settled-behind}
use Rattle.grain_partition.proofs.settled.are_settled.Goals as goal

pub returns-in_default : goal.returns-in_default
returns-in_default c =
    let rest : Range = c.walk.rest in
    let lies : lies_settled rest.start c.args.pieces.now.entries ≡ false =
    ap (λ hash. lies_settled hash c.args.pieces.now.entries) (sym c.start.ensures) ∙ c.in_default.ensures in
    sym (c.walk.invariant ∙ unsettled-first c.args.pieces.now.entries c.requires rest c.in_range.ensures (omega arith) lies)

pub walk-preserved : goal.walk-preserved
walk-preserved c =
    let rest : Range = c.walk.rest in
    let at : SettlesAt c.args.pieces.now.entries rest.start c.in-Some.first =
    subst (λ hash. SettlesAt c.args.pieces.now.entries hash c.in-Some.first) c.start.ensures c.in-Some.ensures in
    c.walk.invariant ∙ settled-behind c.args.pieces.now.entries c.requires rest c.in_range.ensures c.in-Some.first at
    ∙ ap (was_settled c.args.pieces.now.entries) (sym c.part_behind-rest.ensures)

pub returns : goal.returns
returns c = sym (c.walk.invariant ∙ settled-nothing c.args.pieces.now.entries c.walk.rest (omega arith))
