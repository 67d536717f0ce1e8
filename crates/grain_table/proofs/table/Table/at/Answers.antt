use Rattle.std.proofs.Common.{◌∙◌, ap, sym, subst}
use Rattle.std.specs.Option.{option_map}
use Rattle.directory_rules.specs.Table.{entry_at}
use Rattle.grain_table.specs.Hashed.{IsKeyOf}
use Rattle.grain_table.specs.Table.{TableValue}
use Rattle.grain_table.proofs.ByGrain.{entry_of, found_at}
use Rattle.grain_table.proofs.table.Table.at.Goals as goal

pub returns-in_err-activation : goal.returns-in_err-activation
returns-in_err-activation c =
    let is = subst (λ (v : TableValue). IsKeyOf v.hashing c.args.key.now) (sym c.self.view_is) c.requires in
    c.from_residual.ensures
    ∙ ap (option_map (entry_of c.args.key.now.grain)) c.in_err-activation.ensures
    ∙ found_at c.self.inside.hashing c.args.key.now c.self.inside.map is c.self.invariant.are.keys
    ∙ ap (λ (v : TableValue). entry_at c.args.key.now.grain v.entries) c.self.view_is

pub returns : goal.returns
returns c =
    let is = subst (λ (v : TableValue). IsKeyOf v.hashing c.args.key.now) (sym c.self.view_is) c.requires in
    ap (option_map (entry_of c.args.key.now.grain)) c.in_ok-activation.ensures
    ∙ found_at c.self.inside.hashing c.args.key.now c.self.inside.map is c.self.invariant.are.keys
    ∙ ap (λ (v : TableValue). entry_at c.args.key.now.grain v.entries) c.self.view_is
