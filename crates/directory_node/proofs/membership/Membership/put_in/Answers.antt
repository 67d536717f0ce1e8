use Rattle.hash_ring.proofs.PlacesBack.{places_back}
use Rattle.directory_node.proofs.membership.Membership.put_in.Goals as goal

pub returns-in-Err-join-clause-unchanged : goal.returns-in-Err-join-clause-unchanged
returns-in-Err-join-clause-unchanged c =
    let back = places_back c.self.inside.places c.add.new.self c.remove.new.self c.args.silo c.args.stated.now c.in-Ok.ensures.added c.remove.ensures in
    cc (back, c.in-Err-join.ensures.unchanged, c.self.view_is)
