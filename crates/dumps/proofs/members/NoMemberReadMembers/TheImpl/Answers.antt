-- A refusal reads nothing.
use Rattle.dumps.proofs.members.NoMemberReadMembers.TheImpl.Goals as goal

pub read_next-tells : goal.read_next-tells
read_next-tells g x c = rw c.ensures tt
