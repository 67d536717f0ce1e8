-- The laws of a silo by itself.
use Rattle.std.specs.Prelude.{◌≡◌, ℕ, true, if◌then◌else◌, List, Some, None, Ok}
use Rattle.silo_address.specs.Silo.{Silo}
use Rattle.directory_rules.specs.Happens as rule
use Rattle.directory_rules.specs.Input.{Input}
use Rattle.directory_rules.specs.Laws.{is_live}
use Rattle.directory_rules.specs.State.{Letter, World}
use Rattle.directory_rules.specs.Settings.{Settings, AreSettings}
use Rattle.directory_rules.specs.Step.{Stepped}
use Rattle.directory_rules.specs.Membership.{Change, Listed, Membership}
use Rattle.silo_rules.specs.SiloValue.{SiloValue, first_silo, own_status, told_of_its_join}
use Rattle.silo_rules.specs.Steps.{does, sees, receives}
use Rattle.silo_rules.specs.NodeInputs.{IsNoSight}
use Rattle.silo_rules.specs.Told.{Heard, told}
use Rattle.silo_rules.specs.Begun.{told_view}
use Rattle.silo_rules.specs.Whole.{IsWhole}

-- a silo begins so, and whatever it is told, asked or sent leaves it so
pub record StaysWhole : Type 0 where
  pub first : (settings : Settings) (silo : Silo) → AreSettings settings → IsWhole (first_silo settings silo)
  pub tells : (s : SiloValue) (version : ℕ) (change : Change) (heard : Heard) → IsWhole s → told s.node.settings s.membership version change ≡ Ok heard → IsWhole (record s { membership = heard.membership })
  pub begins : (s : SiloValue) (own : Silo) (version : ℕ) (rows : List Listed) (m : Membership) → IsWhole s → told_view s.node.settings s.membership own version rows ≡ Ok m → IsWhole (record s { membership = m })
  pub sees_so : (s : SiloValue) (version : ℕ) (stepped : Stepped) → IsWhole s → sees s version ≡ Ok stepped → IsWhole (record s { node = stepped.node })
  pub does_so : (s : SiloValue) (input : Input) (stepped : Stepped) → IsNoSight input → IsWhole s → does s input ≡ Ok stepped → IsWhole (record s { node = stepped.node })
  pub receives_so : (s : SiloValue) (letter : Letter) (stepped : Stepped) → IsWhole s → receives s letter ≡ Ok stepped → IsWhole (record s { node = stepped.node })

-- the world has just what the silo has: its views and places, and its node, unless it hasn't joined or is Dead
pub record IsOf (world : World) (s : SiloValue) : Type 0 where
  pub views : world.views ≡ s.membership.views
  pub places : world.places ≡ s.membership.places
  pub node : rule.node_of world s.node.host.silo ≡ (if is_live (own_status s) then Some s.node else None)

-- in such a world the event rule has the silo do what it does by itself; letters come to silos that were told of their join
pub record FollowsTheRule : Type 0 where
  pub does_so : (world : World) (s : SiloValue) (input : Input) → IsWhole s → IsOf world s → rule.does world s.node.host.silo input ≡ rule.done_by (does s input) world s.node.host.silo
  pub sees_so : (world : World) (s : SiloValue) (version : ℕ) → IsWhole s → IsOf world s → rule.sees world s.node.host.silo version ≡ rule.seen_by (sees s version) world s.node.host.silo version
  pub receives_so : (world : World) (s : SiloValue) (number : ℕ) (letter : Letter) → IsWhole s → IsOf world s → told_of_its_join s ≡ true → letter.to ≡ s.node.host.silo
      → rule.delivers (Some letter) world number ≡ rule.delivered_by (receives s letter) world number letter
