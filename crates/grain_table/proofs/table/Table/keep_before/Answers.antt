use Rattle.std.proofs.Common.{◌∙◌, ap, sym, subst}
use Rattle.std.specs.Prelude.{filter, nat_lt}
use Rattle.hash_ring.specs.Hash.{hash_grain}
use Rattle.grain_table.specs.Hashed.{AreKept, Hashed, by_grain}
use Rattle.grain_table.specs.Table.{TableValue}
use Rattle.grain_table.proofs.Filters.{passed_by_grain}
use Rattle.grain_table.proofs.OnSilos.{kept_some}
use Rattle.grain_table.proofs.table.Table.keep_before.Goals as goal

pub invariant_of-self : goal.invariant_of-self
invariant_of-self c =
    subst (λ (es : Hashed). AreKept c.self.inside.hashing c.self.inside.silos.keys es) (sym c.keep_before.ensures)
    (kept_some c.self.inside.hashing c.self.inside.silos.keys (λ e. nat_lt e.0.hash c.args.end) c.self.inside.map c.self.invariant)

pub returns : goal.returns
returns c =
    ap (λ (es : Hashed). record { hashing = c.self.inside.hashing; entries = by_grain es }) c.keep_before.ensures
    ∙ ap (λ table. record { hashing = c.self.inside.hashing; entries = table })
    (passed_by_grain c.self.inside.hashing (λ h. nat_lt h c.args.end) c.self.inside.map c.self.invariant.are)
    ∙ ap (λ (v : TableValue). record v { entries = filter (λ e. nat_lt (hash_grain v.hashing e.0) c.args.end) v.entries }) c.self.view_is
