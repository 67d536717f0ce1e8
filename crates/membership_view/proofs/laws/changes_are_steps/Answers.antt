use Rattle.membership_view.proofs.Unchanged.{versions_rise, views_stay, views_are_kept, views_start}
use Rattle.membership_view.proofs.Changes.{changes_are_steps}
use Rattle.membership_view.proofs.Kept.{versions_fit}
use Rattle.membership_view.proofs.laws.changes_are_steps.Goals as goal

pub returns-clause-rises : goal.returns-clause-rises
returns-clause-rises c = versions_rise

pub returns-clause-steps : goal.returns-clause-steps
returns-clause-steps c = changes_are_steps

pub returns-clause-views_stay : goal.returns-clause-views_stay
returns-clause-views_stay c = views_stay

pub returns-clause-start : goal.returns-clause-start
returns-clause-start c = views_start

pub returns-clause-kept : goal.returns-clause-kept
returns-clause-kept c = views_are_kept

pub returns-clause-fits : goal.returns-clause-fits
returns-clause-fits c = versions_fit
