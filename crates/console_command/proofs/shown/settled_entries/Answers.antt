use Rattle.std.proofs.Common.{◌≡◌, ℕ, Option, IfOk, subst, true, rules}
use Rattle.grain_partition.specs.Holdings.{are_tidy}
use Rattle.grain_partition.proofs.Tidied.{settled_entries-tidy}
use Rattle.console_command.proofs.shown.settled_entries.Goals as goal

pub returns : goal.returns
returns c =
    let tidy : are_tidy c.hashing.result c.holding.result.now.pieces ≡ true = search rules in
    let told = subst (λ (o : Option ℕ). IfOk c.settled_entries.result (λ entries. entries ≡ o))
    (settled_entries-tidy c.hashing.result c.holding.result.now.pieces tidy c.args.range.now) c.settled_entries.ensures.told in
    search rules
