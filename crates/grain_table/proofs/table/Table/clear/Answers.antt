use Rattle.std.proofs.Common.{sym, subst}
use Rattle.grain_table.specs.Hashed.{AreKept, Hashed}
use Rattle.grain_table.proofs.OnSilos.{kept_nothing}
use Rattle.grain_table.proofs.table.Table.clear.Goals as goal

pub invariant_of-self : goal.invariant_of-self
invariant_of-self c =
    subst (λ (es : Hashed). AreKept c.self.inside.hashing c.clear-2.new.self.keys es) (sym c.clear.ensures)
    (kept_nothing c.self.inside.hashing c.clear-2.new.self.keys)
