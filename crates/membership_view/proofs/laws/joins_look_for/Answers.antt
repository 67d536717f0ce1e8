use Rattle.membership_view.proofs.Searches.{newest_is, occupant_law}
use Rattle.membership_view.proofs.laws.joins_look_for.Goals as goal

pub returns-clause-newest : goal.returns-clause-newest
returns-clause-newest c = newest_is

pub returns-clause-occupant : goal.returns-clause-occupant
returns-clause-occupant c = occupant_law
