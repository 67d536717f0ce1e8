use Rattle.membership_view.proofs.Unchanged.{first_is_empty, joined_from, rows_stay, dead_stays_dead}
use Rattle.membership_view.proofs.laws.rows_stay.Goals as goal

pub returns-clause-first : goal.returns-clause-first
returns-clause-first c = first_is_empty

pub returns-clause-joined : goal.returns-clause-joined
returns-clause-joined c = joined_from

pub returns-clause-rows : goal.returns-clause-rows
returns-clause-rows c = rows_stay

pub returns-clause-dead : goal.returns-clause-dead
returns-clause-dead c = dead_stays_dead
