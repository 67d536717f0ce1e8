-- A view is told to a silo that joins later, and 201 where it can't comes before memory runs out.
use Rattle.std.specs.Prelude.{ℕ, ◌||◌, not, nat_lt, Bool, true, false, List, Option, Some, None}
use Rattle.std.specs.List.{list_all}
use Rattle.silo_address.specs.Silo.{Silo}
use Rattle.membership_view.specs.View.{shares_endpoint}
use Rattle.directory_rules.specs.Membership.{Listed}

-- whether a silo that is listed lets this one join later: it is of another endpoint, or older
abbrev pub lets_join : (own : Silo) → Silo → Bool
lets_join own silo = not (shares_endpoint own silo) || nat_lt silo.generation own.generation

-- whether all that are listed do
abbrev pub all_let_join : (own : Silo) → List Listed → Bool
all_let_join own rows = list_all (λ one. lets_join own one.silo) rows

-- the number of what is refused; where it has none, since memory ran out, 201 unless all let the silo join
abbrev pub number_first : (all_let : Bool) → Option ℕ → Option ℕ
number_first all_let (Some number) = Some number
number_first true None = None
number_first false None = Some 201
