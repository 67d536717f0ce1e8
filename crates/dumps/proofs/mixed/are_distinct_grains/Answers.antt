use Rattle.std.proofs.Common.{◌∙◌, sym}
use Rattle.dumps.proofs.Ties.{distinct_lent}
use Rattle.dumps.proofs.mixed.are_distinct_grains.Goals as goal

pub returns-then-branch : goal.returns-then-branch
returns-then-branch c = sym (c.in_ok-are_told_apart.ensures c.if-branch.true)

pub returns : goal.returns
returns c = c.in_ok-once.ensures ∙ distinct_lent c.args.grains.now
