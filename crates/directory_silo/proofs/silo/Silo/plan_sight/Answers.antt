use Rattle.std.proofs.Common.{sym, ap, subst, ◌∙◌, ◌-◌}
use Rattle.membership_view.specs.Views.{view_at}
use Rattle.hash_ring.specs.Places.{PlacesValue}
use Rattle.silo_rules.specs.SiloValue.{SiloValue}
use Rattle.directory_node.specs.Placed.{ArePlaced}
use Rattle.directory_silo.specs.SiloModel.{silo_of}
use Rattle.directory_silo.proofs.TheirPlaces.{sight_placed}
use Rattle.directory_silo.proofs.silo.Silo.plan_sight.Goals as goal

pub plan-requires : goal.plan-requires
plan-requires c = record {
  placed = subst (λ (p : PlacesValue). ArePlaced c.self.inside.node c.in_ok-before.before c.in_ok-view.view p) (sym c.places.ensures)
      (sight_placed (silo_of c.self.inside) c.args.version c.in_ok-before.before c.in_ok-view.view c.self.invariant
      (c.in_ok-before.ensures.exact ∙ ap (λ (s : SiloValue). view_at s.membership.views (c.args.version - 1)) (sym c.self.view_is))
      (c.in_ok-view.ensures.exact ∙ ap (λ (s : SiloValue). view_at s.membership.views c.args.version) (sym c.self.view_is)));
}
