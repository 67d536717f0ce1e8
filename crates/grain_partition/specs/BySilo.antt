-- Arcs under the silos whose they are.
use Rattle.std.specs.Prelude.{◌≡◌, List, [], Option, Some, None, cond, filter}
use Rattle.std.specs.Map.{lookup}
use Rattle.std.specs.BTreeMap.{is_at}
use Rattle.silo_address.specs.Silo.{Silo, silo_cmp}
use Rattle.range_moves.specs.declared.RingArc.{RingArc}
use Rattle.range_moves.specs.declared.Move.{Move}
use Rattle.range_moves.specs.Moves.{move_of}
use Rattle.directory_rules.specs.Sight.{is_owner}

-- the silo that gives the arc up: its owner before, where another one owns it after
abbrev pub giver_in : Option Move → Option Silo
giver_in None = None
giver_in (Some move) = move.from

abbrev pub giver_of : RingArc → Option Silo
giver_of arc = giver_in (move_of arc)

-- the arcs that the silo owns after, and those that it gives up
abbrev pub owned_by : Silo → List RingArc → List RingArc
owned_by silo arcs = filter (λ arc. is_owner silo arc.to) arcs

abbrev pub given_by : Silo → List RingArc → List RingArc
given_by silo arcs = filter (λ arc. is_owner silo (giver_of arc)) arcs

-- what stands under a silo
abbrev pub stands_under : Silo → List (Silo × List RingArc) → Option (List RingArc)
stands_under silo under = lookup (is_at (silo_cmp silo)) under

abbrev pub all_of : Option (List RingArc) → List RingArc
all_of None = []
all_of (Some arcs) = arcs

-- the arcs under a silo; none where nothing stands there
abbrev pub arcs_under : Silo → List (Silo × List RingArc) → List RingArc
arcs_under silo under = all_of (stands_under silo under)

-- the silo has these arcs under it, and the others have what they had
abbrev pub Puts : Silo → List RingArc → List (Silo × List RingArc) → List (Silo × List RingArc) → Type 0
Puts silo arcs before after = (other : Silo) → stands_under other after ≡ cond (is_at (silo_cmp silo) other) (Some arcs) (stands_under other before)

-- each silo has its own arcs under it
pub record AreBySilo (arcs : List RingArc) (owned given : List (Silo × List RingArc)) : Type 0 where
  pub owners : (silo : Silo) → arcs_under silo owned ≡ owned_by silo arcs
  pub givers : (silo : Silo) → arcs_under silo given ≡ given_by silo arcs
