use Rattle.membership_view.proofs.Unchanged.{views_start}
use Rattle.membership_view.proofs.Beginnings.{listings_are_kept}
use Rattle.membership_view.proofs.laws.beginnings_are_whole.Goals as goal

pub returns-clause-start : goal.returns-clause-start
returns-clause-start c = views_start

pub returns-clause-kept : goal.returns-clause-kept
returns-clause-kept c = listings_are_kept
