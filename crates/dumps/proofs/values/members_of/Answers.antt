use Rattle.std.proofs.Common.{sym, ◌∙◌}
use Rattle.dumps.proofs.Counted.{members_counted, members_miscounted}
use Rattle.dumps.proofs.values.members_of.Goals as goal

pub returns-then-len-many-clause-read : goal.returns-then-len-many-clause-read
returns-then-len-many-clause-read c =
    members_miscounted c.args.many c.in-Some.members.now.entries _ c.in-Some.ensures (λ same. c.if-len-many.true (c.len.ensures.len ∙ same))

pub returns-clause-read : goal.returns-clause-read
returns-clause-read c =
    members_counted c.args.many c.in-Some.members.now.entries _ c.in-Some.ensures (sym c.len.ensures.len ∙ c.if-len-many.false)
