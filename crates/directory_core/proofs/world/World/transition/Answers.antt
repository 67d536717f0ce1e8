use Rattle.std.proofs.Common.{sym, ◌∙◌, ap, subst}
use Rattle.hash_ring.specs.Places.{PlacesValue}
use Rattle.directory_rules.specs.State.{World}
use Rattle.directory_node.specs.Placed.{ArePlaced}
use Rattle.directory_core.proofs.Made.{placed_sight}
use Rattle.directory_core.proofs.world.World.transition.Goals as goal

pub transition-requires-clause-placed : goal.transition-requires-clause-placed
transition-requires-clause-placed c =
    subst (λ (p : PlacesValue). ArePlaced c.args.node.now c.args.before.now c.args.view.now p)
    (sym (c.places.ensures ∙ ap (λ (w : World). w.places) c.self.view_is))
    (placed_sight c.args.self.now c.args.view.now.version c.args.node.now c.args.before.now c.args.view.now c.whole.ensures
    c.requires.sees.ring_is c.requires.before c.requires.view)
