-- What a gathering keeps of the first page, as the rule sees it.
use Rattle.std.specs.Prelude.{Option}
use Rattle.std.specs.Option.{option_map}
use Rattle.directory_rules.specs.State.{Whole as WholeValue}
use Rattle.seal_snapshot.specs.declared.whole.Whole.{Whole}

abbrev pub whole_of : Option Whole → Option WholeValue
whole_of whole = option_map (λ w. record { pages = w.pages; digest = w.digest }) whole
