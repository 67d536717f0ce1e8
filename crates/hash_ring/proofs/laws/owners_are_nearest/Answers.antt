use Rattle.hash_ring.proofs.Ownership.{owner_is, owner_from, none_owns}
use Rattle.hash_ring.proofs.Lawful.{owns_is_owned}
use Rattle.hash_ring.proofs.laws.owners_are_nearest.Goals as goal

pub returns-clause-owner : goal.returns-clause-owner
returns-clause-owner c = owner_is

pub returns-clause-only : goal.returns-clause-only
returns-clause-only c = owner_from

pub returns-clause-none : goal.returns-clause-none
returns-clause-none c = none_owns

pub returns-clause-owns : goal.returns-clause-owns
returns-clause-owns c = owns_is_owned
