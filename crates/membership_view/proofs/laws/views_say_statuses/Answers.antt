use Rattle.membership_view.proofs.Said.{views_say_statuses, views_say_no_more}
use Rattle.membership_view.proofs.laws.views_say_statuses.Goals as goal

pub returns-clause-says : goal.returns-clause-says
returns-clause-says c = views_say_statuses

pub returns-clause-no_more : goal.returns-clause-no_more
returns-clause-no_more c = views_say_no_more
