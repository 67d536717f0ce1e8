-- A find takes a number.
use Rattle.std.proofs.Common.{arith, suc, refl, ◌∙◌}
use Rattle.silo_address.specs.Silo.{Silo}
use Rattle.silo_address.specs.Grain.{Grain}
use Rattle.directory_protocol.specs.Setting.{Setting}
use Rattle.directory_protocol.specs.World as protocol
use Rattle.directory_protocol.specs.Actions.{Find}
use Rattle.directory_protocol.specs.Effects.{after}
use Rattle.directory_protocol.proofs.Changes.{put_same}
use Rattle.directory_rules.specs.declared.act.Act.TheVariants as act
use Rattle.directory_rules.specs.Host.{with_find}
use Rattle.directory_rules.specs.State.{Node, World}
use Rattle.directory_rules.specs.Step.{finding}
use Rattle.directory_headline.proofs.Actors.{leaves_after}
use Rattle.directory_headline.proofs.Frame.{Here, Moves, acts, alive, node_shown}
use Rattle.directory_headline.proofs.Hosts.{host_changes, request_shown}

module _ (m : Setting) (f : World) (w : protocol.World) (silo : Silo) (node : Node) (here : Here m f w silo node) where
  pub finds : (grain : Grain) → Moves m w silo (finding node grain)
  finds grain =
      let was = node_shown m f w silo node here in
      let later = after m w (Find silo) in
      let number = was.host.next_number in
      acts m w silo (finding node grain) (Find silo) (alive m f w silo node here) refl
      (host_changes m f w silo node here later (with_find node.host grain) node.cache
      (record { seen = refl; settled = refl; table = refl; served = refl }) (leaves_after m w (Find silo) silo refl).grows (record {
        held = was.host.held;
        next_number = put_same silo (suc (w.next_number silo)) w.next_number ∙ omega arith;
        next_count = was.host.next_count;
      }))
      (request_shown m later node node.host.next_number (act.Find grain) tt)
