-- Every outcome has words.
use Rattle.std.proofs.Common.{ℕ, ◌<◌, List, ◌++◌, length, arith}
use Rattle.directory_rules.specs.declared.effect.Effect.TheVariants.{Next}
use Rattle.directory_rules.specs.declared.outcome.Happening.{Happening}
use Rattle.directory_rules.specs.declared.outcome.Happening.TheVariants.{Joined, Left, Died, Saw, Did, Delivered, Lost}
use Rattle.script_rules.specs.Lines.{happening_words}

pub happening_has_words : (happening : Happening) (more : List (List ℕ)) → 0 < length (happening_words happening ++ more)
happening_has_words (Joined version silo replaced) more = omega arith
happening_has_words (Left version silo) more = omega arith
happening_has_words (Died version silo) more = omega arith
happening_has_words (Saw silo version effect) more = omega arith
happening_has_words (Did silo Next) more = omega arith
happening_has_words (Did silo other) more = omega arith
happening_has_words (Delivered number _ effect) more = omega arith
happening_has_words (Lost number) more = omega arith
