use Rattle.std.proofs.Common.{sym, ap, ◌∙◌}
use Rattle.directory_rules.specs.Sight.{shelf_after}
use Rattle.directory_node.proofs.sight_change.see_on_shelf.Goals as goal

pub sight-requires-clause-behind : goal.sight-requires-clause-behind
sight-requires-clause-behind c = c.requires.behind c.if-next.true

pub sight-requires-clause-empty : goal.sight-requires-clause-empty
sight-requires-clause-empty c = c.requires.empty

pub sight-requires-clause-large : goal.sight-requires-clause-large
sight-requires-clause-large c = c.requires.large

pub returns-then-next : goal.returns-then-next
returns-then-next c = c.sight.ensures ∙ ap (λ b. shelf_after b c.args.view.now c.args.shelf.now c.args.sealed.items) (sym c.if-next.true)

pub returns-else-next : goal.returns-else-next
returns-else-next c = c.skip.ensures ∙ ap (λ b. shelf_after b c.args.view.now c.args.shelf.now c.args.sealed.items) (sym c.if-next.false)
