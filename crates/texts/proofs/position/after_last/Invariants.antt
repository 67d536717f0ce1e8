use Rattle.std.proofs.Common.{ℕ, ◌≢◌, ◌<◌, ◌≤◌, length, get_or}
use Rattle.texts.proofs.position.after_last.Given as goal

abbrev pub invariant-loop-position : goal.invariant-loop-position
invariant-loop-position l = (k d : ℕ) → l.position ≤ k → k < length l.bytes → get_or l.bytes k d ≢ l.wanted
