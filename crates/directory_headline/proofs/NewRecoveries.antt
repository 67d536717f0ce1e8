-- Recoveries that begin: each member of the view is awaited, and nothing is gathered.
use Rattle.std.proofs.Common.{◌≡◌, sym, ap, ◌∙◌}
use Rattle.std.specs.Prelude.{◌||◌, not, true, false}
use Rattle.silo_address.specs.Silo.{Silo}
use Rattle.membership_view.specs.View.{ViewValue, IsByAddress}
use Rattle.ring_range.specs.Range.{Range}
use Rattle.directory_protocol.specs.Setting.{Setting}
use Rattle.directory_protocol.specs.World as protocol
use Rattle.directory_rules.specs.Recovery.{new_recovery}
use Rattle.directory_rules.specs.State.{Node}
use Rattle.directory_headline.specs.Setting.{is_member_in}
use Rattle.directory_headline.specs.Shown.{IsShownRecovery}
use Rattle.directory_headline.proofs.Stands.{Stands}
use Rattle.directory_headline.proofs.Members.{members_are}

-- a recovery that begins, at a view of the setting
pub new_recovery_shown :
    (m : Setting) (w : protocol.World) (view : ViewValue) (range : Range) → IsByAddress view
    → ((s : Silo) → m.member view.version s ≡ is_member_in view s) → IsShownRecovery m w.reports (new_recovery view range)
new_recovery_shown m w view range by_address members = record {
  gathered = λ grain e found. absurd (cc (found));
  awaits = λ silo is. members silo ∙ sym (members_are view silo by_address) ∙ is;
  members = λ silo grain is told.
      let awaited = members_are view silo by_address ∙ sym (members silo) ∙ is in
      let nothing : false ≡ true = sym (ap (λ b. not b || false) awaited) ∙ told in
      absurd (cc (nothing));
}

-- at the view that a silo has seen
pub recovery_begins : (m : Setting) (w : protocol.World) (silo : Silo) (node : Node) → Stands m w silo node → (range : Range)
    → IsShownRecovery m w.reports (new_recovery node.view range)
recovery_begins m w silo node stands range = new_recovery_shown m w node.view range stands.by_address stands.members
