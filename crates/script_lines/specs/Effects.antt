-- The words for an effect: a first one, and for a few effects a second one.
use Rattle.std.specs.Prelude.{ℕ, List, [], ◌∷◌, codes}
use Rattle.std.specs.Fmt.{decimal}
use Rattle.directory_rules.specs.declared.effect.Effect.{Effect}
use Rattle.directory_rules.specs.declared.effect.Effect.TheVariants.{NothingCached, Retry, Refused}
use Rattle.directory_rules.specs.Answer.{why_number}

-- the second word, if there is one
abbrev pub second_words : Effect → List (List ℕ)
second_words (NothingCached grain) = codes "cached" ∷ []
second_words (Retry why) = decimal (why_number why) ∷ []
second_words (Refused number) = decimal number ∷ []
second_words other = []
