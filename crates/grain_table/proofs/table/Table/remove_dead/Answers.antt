use Rattle.std.proofs.Common.{◌∙◌, ap, sym, subst, rules}
use Rattle.std.specs.Prelude.{filter, not}
use Rattle.std.proofs.lemmas.Fn.{filter_same}
use Rattle.directory_rules.specs.Members.{is_dead_in}
use Rattle.grain_table.specs.Hashed.{AreKept, Hashed, by_grain}
use Rattle.grain_table.specs.Table.{TableValue}
use Rattle.grain_table.proofs.Filters.{living_by_grain}
use Rattle.grain_table.proofs.OnSilos.{all_living, kept_passed}
use Rattle.grain_table.proofs.table.Table.remove_dead.Goals as goal

pub invariant_of-self : goal.invariant_of-self
invariant_of-self c =
    let silos = filter_same _ (λ silo. not (is_dead_in c.args.view.now silo)) _ (λ x b f' t. search rules) c.self.inside.silos.keys c.retain.new.self.keys c.retain.ensures.filtered in
    subst (λ (es : Hashed). AreKept c.self.inside.hashing c.retain.new.self.keys es) (sym c.remove_dead.ensures)
    (subst (λ keys. AreKept c.self.inside.hashing keys (filter (λ e. not (is_dead_in c.args.view.now e.1.silo)) c.self.inside.map))
    (sym silos)
    (kept_passed (λ silo. not (is_dead_in c.args.view.now silo)) c.self.inside.hashing c.self.inside.silos.keys c.self.inside.map
    c.self.invariant))

pub returns-then-not-is_any_dead : goal.returns-then-not-is_any_dead
returns-then-not-is_any_dead c =
    let none = sym c.is_any_dead.ensures ∙ c.if-not-is_any_dead.true in
    sym c.self.view_is
    ∙ ap (λ (es : Hashed). record { hashing = c.self.inside.hashing; entries = by_grain es })
    (all_living (is_dead_in c.args.view.now) c.self.inside.silos.keys none c.self.inside.map c.self.invariant.on)
    ∙ ap (λ table. record { hashing = c.self.inside.hashing; entries = table })
    (living_by_grain c.self.inside.hashing (λ a. not (is_dead_in c.args.view.now a.silo)) c.self.inside.map c.self.invariant.are)
    ∙ ap (λ (v : TableValue). record v { entries = filter (λ e. not (is_dead_in c.args.view.now e.1.activation.silo)) v.entries })
    c.self.view_is

pub returns : goal.returns
returns c =
    ap (λ (es : Hashed). record { hashing = c.self.inside.hashing; entries = by_grain es }) c.remove_dead.ensures
    ∙ ap (λ table. record { hashing = c.self.inside.hashing; entries = table })
    (living_by_grain c.self.inside.hashing (λ a. not (is_dead_in c.args.view.now a.silo)) c.self.inside.map c.self.invariant.are)
    ∙ ap (λ (v : TableValue). record v { entries = filter (λ e. not (is_dead_in c.args.view.now e.1.activation.silo)) v.entries })
    c.self.view_is
