use Rattle.std.proofs.Common.{subst}
use Rattle.dumps.specs.MembersRead.{IsRead}
use Rattle.dumps.proofs.MembersTold.{on_ok, other_read, own_read_if}
use Rattle.dumps.proofs.members.MemberReadMembers.read_next.Goals as goal

pub returns-then-not-takes_name : goal.returns-then-not-takes_name
returns-then-not-takes_name g c =
    on_ok _ _ c.read_next.result
    (λ one. other_read g.T.ReadText.tells g.T.ReadText.deep g.R.ReadMembers.stands g.R.ReadMembers.names g.R.ReadMembers.many
    g.R.ReadMembers.deep
    c.args.self.now.name c.args.self.now.value c.args.self.now.others c.read_next.new.self _ _
    (subst (λ ts. IsRead g.R.ReadMembers.stands g.R.ReadMembers.names g.R.ReadMembers.many g.R.ReadMembers.deep c.args.self.now.others
    c.read_next.new.self ts c.read_next.new.reader)
    c.if-not-takes_name.ensures.unchanged one))
    c.read_next.ensures

pub returns : goal.returns
returns g c =
    own_read_if g.T.ReadText.tells g.T.ReadText.deep g.R.ReadMembers.stands g.R.ReadMembers.names g.R.ReadMembers.many g.R.ReadMembers.deep
    c.args.self.now c.in_ok-value.value _ _ _ c.stand_on.ensures c.if-not-takes_name.ensures.none c.if-not-takes_name.ensures.taken
    c.in_ok-value.ensures
