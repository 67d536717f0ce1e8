use Rattle.std.proofs.Common.{◌≡◌, ◌∷◌, subst, arith}
use Rattle.json.specs.Token.{Token}
use Rattle.dumps.specs.MembersRead.{IsRead}
use Rattle.dumps.proofs.MembersTold.{all_read, fewer, none_yet, one_more}
use Rattle.dumps.proofs.members.read_members.Goals as goal

pub members-init : goal.members-init
members-init g c =
    none_yet g.M.ReadMembers.stands g.M.ReadMembers.names g.M.ReadMembers.many g.M.ReadMembers.deep _ _ c.requires.none c.requires.unread

pub members-smaller : goal.members-smaller
members-smaller g c =
    let same : c.take_end_object.new.self ≡ c.members.reader = grind arith in
    fewer g.M.ReadMembers.stands g.M.ReadMembers.names g.M.ReadMembers.many g.M.ReadMembers.deep _ _ _ _
    (subst (λ ts. IsRead g.M.ReadMembers.stands g.M.ReadMembers.names g.M.ReadMembers.many g.M.ReadMembers.deep c.members.members
    c.read_next.new.self ts c.read_next.new.reader) same c.in_ok-read_next.ensures)

pub members-preserved : goal.members-preserved
members-preserved g c =
    let same : c.take_end_object.new.self ≡ c.members.reader = grind arith in
    one_more g.M.ReadMembers.stands g.M.ReadMembers.names g.M.ReadMembers.many g.M.ReadMembers.deep _ _ _ _ _ _ c.members.invariant
    (subst (λ ts. IsRead g.M.ReadMembers.stands g.M.ReadMembers.names g.M.ReadMembers.many g.M.ReadMembers.deep c.members.members
    c.read_next.new.self ts c.read_next.new.reader) same c.in_ok-read_next.ensures)

pub returns-clause-read : goal.returns-clause-read
returns-clause-read g c =
    let over : c.members.reader ≡ Token.end_object ∷ c.take_end_object.new.self = grind arith in
    all_read g.M.ReadMembers.stands g.M.ReadMembers.names g.M.ReadMembers.many g.M.ReadMembers.deep _ _ _ _ _ _
    c.in_ok-begin_members.ensures.taken c.members.invariant over
