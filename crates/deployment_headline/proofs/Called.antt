-- The calls of a silo are steps of its deployment.
use Rattle.std.proofs.Common.{◌≡◌, ℕ, List, refl, ap, ◌∙◌}
use Rattle.std.specs.Prelude.{Some, Ok, if◌then◌else◌}
use Rattle.std.proofs.lemmas.Bool.{le-leb}
use Rattle.silo_address.specs.Silo.{Silo, silo_cmp}
use Rattle.silo_address.proofs.Order.{silo_cmp_total, silo_cmp_exact}
use Rattle.membership_view.specs.Changes.{occupant}
use Rattle.directory_facts.proofs.Lookups.{found_put}
use Rattle.directory_rules.specs.Input.{Does}
use Rattle.directory_rules.specs.Membership.{Join, Membership, changed, listing_of}
use Rattle.silo_rules.specs.SiloValue.{SiloValue, first_silo}
use Rattle.silo_rules.specs.Begun.{told_view}
use Rattle.deployment_headline.specs.Deployment.{Deployment, process_of}
use Rattle.deployment_headline.specs.Steps.{Decide, without, decided, begins, begins_at, tells, tells_at, sees_at, does_at, delivers, receives_at, after}
use Rattle.deployment_headline.specs.Calls.{TakesItsSteps, CallsAreSteps}

takes_its_steps : (d : Deployment) (silo : Silo) (s : SiloValue) → process_of d silo ≡ Some s → TakesItsSteps d silo s
unfolding after
takes_its_steps d silo s there = record {
  begins_so = λ version upto.
      ap (λ o. begins_at o d silo version) there
      ∙ ap (λ b. if b then begins (told_view s.node.settings s.membership silo version (listing_of d.membership version)) d silo s else d)
      (le-leb version d.membership.views.version upto);
  tells = λ index change found. ap (λ o. tells_at o d silo index) there ∙ ap (λ o. tells o d silo s index) found;
  sees_so = λ version. ap (λ o. sees_at o d silo version) there;
  asks = λ step. ap (λ o. does_at o d silo (Does step)) there;
  receives_so = λ index letter found. ap (λ o. receives_at o d silo index) there ∙ ap (λ o. delivers o d silo s) found;
}

starts : (d : Deployment) (silo : Silo) (stated : List ℕ) (m : Membership) → changed d.settings d.membership (Join silo stated) ≡ Ok m
    → process_of (after d (Decide (Join silo stated))) silo ≡ Some (first_silo d.settings silo)
unfolding after
starts d silo stated m is =
    ap (λ r. process_of (decided r d (Join silo stated)) silo) is
    ∙ found_put silo_cmp silo_cmp_total silo_cmp_exact silo (first_silo d.settings silo)
    (without (occupant silo d.membership.views.rows) d.processes)

pub calls_are_steps : CallsAreSteps
calls_are_steps = record {
  starts = starts;
  takes = takes_its_steps;
  hears = λ d silo s its. found_put silo_cmp silo_cmp_total silo_cmp_exact silo (record s { membership = its.membership }) d.processes;
  has_begun = λ d silo s m. found_put silo_cmp silo_cmp_total silo_cmp_exact silo (record s { membership = m }) d.processes;
  goes_on = λ d silo s stepped. found_put silo_cmp silo_cmp_total silo_cmp_exact silo (record s { node = stepped.node }) d.processes;
  writes = λ d silo s stepped. refl;
  hears_nothing = λ d silo s number. refl;
  begins_nothing = λ d silo s number. refl;
  stays = λ d silo s number. refl;
}
