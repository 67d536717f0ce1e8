use Rattle.std.proofs.Common.{◌≡◌, subst}
use Rattle.std.specs.Prelude.{IsOk, Ok}
use Rattle.membership_view.specs.Beginning.{after_listing, with_listed}
use Rattle.membership_view.specs.Refusal.{views_error_number}
use Rattle.hash_ring.specs.Numbers.{ring_error_number}
use Rattle.directory_rules.specs.ListedModel.{listed_of}
use Rattle.directory_rules.specs.Membership.{Membership, listed}
use Rattle.node_plans.specs.Follows.{RefusesBy}
use Rattle.directory_node.specs.MembershipModel.{membership_of}
use Rattle.directory_node.proofs.ListedSilos.{has_number, refused_by_places, refused_by_views}
use Rattle.directory_node.proofs.membership.Membership.list.Goals as goal

pub returns-in-Err-clause-listed : goal.returns-in-Err-clause-listed
returns-in-Err-clause-listed c =
    subst (λ (m : Membership). RefusesBy IsOk (views_error_number c.in-Err.refusal) (listed c.args.settings.now m (listed_of c.args.one.now)))
    c.self.view_is
    (refused_by_views (views_error_number c.in-Err.refusal) c.args.settings.now (membership_of c.self.inside) (listed_of c.args.one.now)
    c.in-Err.ensures.refused)

pub returns-in-Err-clause-numbered : goal.returns-in-Err-clause-numbered
returns-in-Err-clause-numbered c = has_number _ (views_error_number c.in-Err.refusal) _ c.in-Err.ensures.refused

pub returns-in-Err-may_place_listed-clause-listed : goal.returns-in-Err-may_place_listed-clause-listed
returns-in-Err-may_place_listed-clause-listed c =
    let one = listed_of c.args.one.now in
    let now = c.args.self.now in
    let lists = subst (λ (m : Membership). after_listing m.views one.silo one.status ≡ Ok (with_listed m.views one.silo one.status))
    c.self.view_is (c.in_default.ensures.lists one.status) in
    refused_by_places (ring_error_number c.in-Err-may_place_listed.refusal) c.args.settings.now now one
    (with_listed now.views one.silo one.status) lists c.in-Err-may_place_listed.ensures.refused

pub returns-in-Err-may_place_listed-clause-numbered : goal.returns-in-Err-may_place_listed-clause-numbered
returns-in-Err-may_place_listed-clause-numbered c =
    has_number _ (ring_error_number c.in-Err-may_place_listed.refusal) _ c.in-Err-may_place_listed.ensures.refused
