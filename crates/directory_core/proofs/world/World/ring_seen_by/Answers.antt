use Rattle.std.proofs.Common.{◌≡◌, sym, ◌∙◌, ap, arith}
use Rattle.membership_view.specs.View.{ViewValue}
use Rattle.directory_core.proofs.Made.{current_seen}
use Rattle.directory_core.proofs.world.World.ring_seen_by.Goals as goal

pub returns : goal.returns
returns c =
    let version_is = ap (λ (v : ViewValue). v.version) c.view.ensures in
    let current : c.in-Some.node.now.view.version ≡ c.args.self.now.views.version = omega (arith, c.if-version-current.false, c.version.ensures, version_is, c.current.ensures) in
    c.ring.ensures ∙ current_seen c.args.self.now c.whole.ensures c.args.silo.now c.in-Some.node.now (sym c.in-Some.ensures) current
