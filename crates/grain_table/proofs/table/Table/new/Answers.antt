use Rattle.std.proofs.Common.{sym, subst}
use Rattle.grain_table.specs.Hashed.{AreKept, Hashed}
use Rattle.grain_table.proofs.OnSilos.{kept_nothing}
use Rattle.grain_table.proofs.table.Table.new.Goals as goal

pub invariant_of-result : goal.invariant_of-result
invariant_of-result c =
    subst (λ (es : Hashed). AreKept c.args.hashing c.new-2.result.keys es) (sym c.new.ensures)
    (kept_nothing c.args.hashing c.new-2.result.keys)
