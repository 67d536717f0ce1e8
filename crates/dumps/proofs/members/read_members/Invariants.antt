use Rattle.std.proofs.Common.{length}
use Rattle.dumps.proofs.MembersTold.{SoFar}
use Rattle.dumps.proofs.members.read_members.Given as goal

abbrev pub invariant-members : goal.invariant-members
invariant-members g l =
    SoFar g.M.ReadMembers.stands g.M.ReadMembers.names g.M.ReadMembers.many g.M.ReadMembers.deep l.initial.members l.initial.reader
    l.members l.reader

abbrev pub decreases-members : goal.decreases-members
decreases-members g l = length l.reader
