-- How a silo that the code's view lists is one of the rule's.
use Rattle.std.specs.Prelude.{List, map}
use Rattle.directory_rules.specs.Membership as rule
use Rattle.directory_rules.specs.declared.listed.Listed.{Listed}

abbrev pub listed_of : Listed → rule.Listed
listed_of one = record { silo = one.silo; status = one.status; places = one.places.items }

abbrev pub all_listed_of : List Listed → List rule.Listed
all_listed_of rows = map listed_of rows
