-- What numbers are left, in the numbers of the machine.
use Rattle.std.proofs.Common.{◌≡◌, ◌≤◌, ◌+◌, ℕ, true, arith}
use Rattle.std.proofs.lemmas.Bool.Decides.{nat_tests}
use Rattle.directory_rules.specs.Settings.{Settings, AreSettings}
use Rattle.directory_rules.specs.State.{Host}
use Rattle.directory_rules.specs.Host.{has_numbers}

pub numbers_fit : (settings : Settings) (host : Host) (taken : ℕ) → AreSettings settings → has_numbers settings host taken ≡ true
    → host.next_number + taken ≤ 1152921504606846977
numbers_fit settings host taken are has =
    let last = are.last_within in
    grind (arith, nat_tests, last, has)
