use Rattle.progress_rules.proofs.ActiveOwns.{active_silos_own, comes_back_where_active}
use Rattle.progress_rules.proofs.laws.comes_back_where_active.Goals as goal

pub returns : goal.returns
returns c = record { own = active_silos_own; back = comes_back_where_active }
