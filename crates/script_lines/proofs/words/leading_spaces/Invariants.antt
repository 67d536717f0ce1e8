use Rattle.std.proofs.Common.{◌≡◌, ◌<◌, ℕ, get_or}
use Rattle.texts.specs.Words.{space}
use Rattle.script_lines.proofs.words.leading_spaces.Given as goal

abbrev pub invariant-loop-position : goal.invariant-loop-position
invariant-loop-position l = (k : ℕ) → k < l.position → get_or l.line k 0 ≡ space
