-- A silo by itself: what it was told of the changes of membership, and its node. It has nothing else.
use Rattle.std.specs.Prelude.{Bool, is_some, Option}
use Rattle.silo_address.specs.Silo.{Silo}
use Rattle.membership_view.specs.declared.status.Status.{Status}
use Rattle.directory_rules.specs.Settings.{Settings}
use Rattle.directory_rules.specs.State.{Node}
use Rattle.directory_rules.specs.Node.{new_node}
use Rattle.directory_rules.specs.Membership.{Membership, first_membership, status_in}

-- what a silo has
pub record SiloValue : Type 0 where
  -- what the changes made that it was told so far
  pub membership : Membership
  pub node : Node

-- a silo that was told nothing yet
abbrev pub first_silo : Settings → Silo → SiloValue
first_silo settings silo = record { membership = first_membership settings; node = new_node settings silo }

-- what the silo itself is by the last change that it was told; none before its own join
abbrev pub own_status : SiloValue → Option Status
own_status s = status_in s.membership s.node.host.silo

-- whether it was told of its own join
abbrev pub told_of_its_join : SiloValue → Bool
told_of_its_join s = is_some (own_status s)
