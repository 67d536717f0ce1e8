use Rattle.std.proofs.Common.{◌∙◌, ap, sym, subst}
use Rattle.std.specs.BTreeSet.{insert_key}
use Rattle.silo_address.specs.Silo.{silo_cmp}
use Rattle.directory_rules.specs.Table.{with_entry}
use Rattle.grain_table.specs.Hashed.{AreKept, Hashed, IsKeyOf, by_grain}
use Rattle.grain_table.specs.Table.{TableValue}
use Rattle.grain_table.proofs.ByGrain.{entry_of, put_by_grain}
use Rattle.grain_table.proofs.OnSilos.{kept_noted, kept_put}
use Rattle.grain_table.proofs.table.Table.put.Goals as goal

pub invariant_of-self-in_err-insert-2 : goal.invariant_of-self-in_err-insert-2
invariant_of-self-in_err-insert-2 c =
    subst (λ keys. AreKept c.self.inside.hashing keys c.insert-2.new.self) (sym c.in_ok-insert.ensures.keys)
    (subst (λ (es : Hashed). AreKept c.self.inside.hashing (insert_key silo_cmp c.self.inside.silos.keys c.args.activation.silo) es)
    (sym c.in_err-insert-2.ensures.unchanged)
    (kept_noted c.self.inside.hashing c.self.inside.silos.keys c.args.activation.silo c.self.inside.map c.self.invariant))

pub invariant_of-self-2 : goal.invariant_of-self-2
invariant_of-self-2 c =
    let is = subst (λ (v : TableValue). IsKeyOf v.hashing c.args.key) (sym c.self.view_is) c.requires in
    subst (λ silos. AreKept c.self.inside.hashing silos c.insert-2.new.self) (sym c.in_ok-insert.ensures.keys)
    (subst (λ (es : Hashed). AreKept c.self.inside.hashing (insert_key silo_cmp c.self.inside.silos.keys c.args.activation.silo) es)
    (sym c.in_ok-insert-2.ensures.entries)
    (kept_put c.self.inside.hashing c.self.inside.silos.keys c.args.key c.args.activation c.self.inside.map is c.self.invariant))

pub returns-clause-put : goal.returns-clause-put
returns-clause-put c =
    let is = subst (λ (v : TableValue). IsKeyOf v.hashing c.args.key) (sym c.self.view_is) c.requires in
    ap (λ (es : Hashed). record { hashing = c.self.inside.hashing; entries = by_grain es }) c.in_ok-insert-2.ensures.entries
    ∙ ap (λ table. record { hashing = c.self.inside.hashing; entries = table })
    (put_by_grain c.self.inside.hashing c.args.key c.args.activation c.self.inside.map is c.self.invariant.are)
    ∙ ap (λ (v : TableValue). record v { entries = with_entry v.entries (entry_of c.args.key.grain c.args.activation) }) c.self.view_is
