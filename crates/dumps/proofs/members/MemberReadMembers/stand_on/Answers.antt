use Rattle.dumps.specs.MemberNames.{text_of_name}
use Rattle.dumps.proofs.MembersSoFar.{others_stand}
use Rattle.dumps.proofs.members.MemberReadMembers.stand_on.Goals as goal

pub returns : goal.returns
returns g c =
    others_stand g.T.ReadText.tells g.R.ReadMembers.stands g.R.ReadMembers.names (text_of_name c.args.self.now.name) c.args.self.now.value
    c.args.self.now.others c.stand_on.ensures
