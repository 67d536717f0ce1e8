use Rattle.std.proofs.Common.{◌≡◌, ◌<◌, ℕ, false, get_or}
use Rattle.silo_address.specs.SiloText.{is_mark}
use Rattle.silo_address.proofs.words.first_mark.Given as goal

abbrev pub invariant-loop-position : goal.invariant-loop-position
invariant-loop-position l = (k : ℕ) → k < l.position → is_mark (get_or l.bytes k 0) ≡ false
