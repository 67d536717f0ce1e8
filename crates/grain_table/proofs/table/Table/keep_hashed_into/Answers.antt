use Rattle.std.proofs.Common.{◌∙◌, ap, sym, subst}
use Rattle.std.specs.Prelude.{filter}
use Rattle.ring_range.specs.Range.{holds}
use Rattle.hash_ring.specs.Hash.{hash_grain}
use Rattle.grain_table.specs.Hashed.{AreKept, Hashed, by_grain}
use Rattle.grain_table.specs.Table.{TableValue}
use Rattle.grain_table.proofs.Filters.{grains_by_grain}
use Rattle.grain_table.proofs.OnSilos.{kept_some}
use Rattle.grain_table.proofs.table.Table.keep_hashed_into.Goals as goal

pub invariant_of-self : goal.invariant_of-self
invariant_of-self c =
    subst (λ (es : Hashed). AreKept c.self.inside.hashing c.self.inside.silos.keys es) (sym c.keep_hashed_into.ensures)
    (kept_some c.self.inside.hashing c.self.inside.silos.keys (λ e. holds c.args.range.now (hash_grain c.args.hashing e.0.grain))
    c.self.inside.map c.self.invariant)

pub returns : goal.returns
returns c =
    ap (λ (es : Hashed). record { hashing = c.self.inside.hashing; entries = by_grain es }) c.keep_hashed_into.ensures
    ∙ ap (λ table. record { hashing = c.self.inside.hashing; entries = table })
    (grains_by_grain c.self.inside.hashing (λ g. holds c.args.range.now (hash_grain c.args.hashing g)) c.self.inside.map
    c.self.invariant.are)
    ∙ ap (λ (v : TableValue). record v { entries = filter (λ e. holds c.args.range.now (hash_grain c.args.hashing e.0)) v.entries })
    c.self.view_is
