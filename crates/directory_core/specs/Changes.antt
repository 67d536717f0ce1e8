-- A change of membership in a world.
use Rattle.std.specs.Prelude.{ℕ, List, Option, Some, None, Result, Ok, Err}
use Rattle.std.specs.Map.{remove_entry}
use Rattle.std.specs.BTreeMap.{is_at}
use Rattle.silo_address.specs.Silo.{Silo, silo_cmp}
use Rattle.directory_rules.specs.Membership.{Change, Membership, changed}
use Rattle.directory_rules.specs.State.{Node, World}
use Rattle.directory_rules.specs.World.{membership_of}
use Rattle.directory_rules.specs.Happens.{after_change, counted}

-- by what the change makes of the membership, or its refusal
abbrev pub made_by : Result Membership ℕ → World → Change → Result World ℕ
made_by (Err number) world change = Err number
made_by (Ok m) world change = Ok (counted (after_change world change m))

-- the world that a change makes, or the number by which membership refuses it
abbrev pub made_world : World → Change → Result World ℕ
made_world world change = made_by (changed world.settings (membership_of world) change) world change

-- the nodes without that of the silo which is replaced, if there is one
abbrev pub nodes_without : Option Silo → List (Silo × Node) → List (Silo × Node)
nodes_without None nodes = nodes
nodes_without (Some old) nodes = remove_entry (is_at (silo_cmp old)) nodes
