use Rattle.std.proofs.Common.{◌∙◌, ap, sym, subst}
use Rattle.std.specs.BTreeMap.{is_at}
use Rattle.directory_rules.specs.Table.{without_grain}
use Rattle.grain_table.specs.Hashed.{AreKept, Hashed, IsKeyOf, by_grain, hashed_cmp}
use Rattle.grain_table.specs.Table.{TableValue}
use Rattle.grain_table.proofs.OnSilos.{kept_taken}
use Rattle.grain_table.proofs.Taken.{taken_at}
use Rattle.grain_table.proofs.table.Table.take_out.Goals as goal

pub invariant_of-self : goal.invariant_of-self
invariant_of-self c =
    subst (λ (es : Hashed). AreKept c.self.inside.hashing c.self.inside.silos.keys es) (sym c.remove.ensures)
    (kept_taken c.self.inside.hashing c.self.inside.silos.keys (is_at (hashed_cmp c.args.key.now)) c.self.inside.map c.self.invariant)

pub returns : goal.returns
returns c =
    let is = subst (λ (v : TableValue). IsKeyOf v.hashing c.args.key.now) (sym c.self.view_is) c.requires in
    ap (λ (es : Hashed). record { hashing = c.self.inside.hashing; entries = by_grain es }) c.remove.ensures
    ∙ ap (λ table. record { hashing = c.self.inside.hashing; entries = table })
    (taken_at c.self.inside.hashing c.args.key.now c.self.inside.map is c.self.invariant.are)
    ∙ ap (λ (v : TableValue). record v { entries = without_grain c.args.key.now.grain v.entries }) c.self.view_is
