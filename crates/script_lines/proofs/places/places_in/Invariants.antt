use Rattle.std.proofs.Common.{◌≡◌, length}
use Rattle.texts.specs.Words.{words_in}
use Rattle.script_rules.specs.Script.{places_in}
use Rattle.script_lines.proofs.Placed.{onto}
use Rattle.script_lines.proofs.places.places_in.Given as goal

abbrev pub invariant-loop-word : goal.invariant-loop-word
invariant-loop-word l = places_in (words_in l.words) ≡ onto l.places.items (places_in (words_in l.rest))

abbrev pub decreases-loop-word : goal.decreases-loop-word
decreases-loop-word l = length l.rest
