use Rattle.std.proofs.Common.{◌≡◌, ◌∙◌, ap, sym, false}
use Rattle.std.specs.Prelude.{is_some}
use Rattle.std.specs.List.{list_all}
use Rattle.silo_address.specs.Silo.{Silo}
use Rattle.directory_rules.specs.declared.Listed.{Listed}
use Rattle.directory_rules.specs.ListedModel.{all_listed_of}
use Rattle.directory_node.specs.MembershipModel.{change_refusal_number}
use Rattle.directory_silo.specs.Later.{all_let_join, lets_join}
use Rattle.directory_silo.proofs.Begun.{all_told, itself_first, memory_first}
use Rattle.directory_silo.proofs.silo.Silo.not_begun.Goals as goal

pub returns-then-all_let_join-clause-number : goal.returns-then-all_let_join-clause-number
returns-then-all_let_join-clause-number c =
    let own = c.args.self.now.node.host.silo in
    let rows = c.args.rows.now in
    let none : is_some (change_refusal_number c.args.refusal) ≡ false = cc (c.of_change-refusal.ensures.number, c.number.ensures, c.is_some.ensures, c.if-is_some.false) in
    sym (memory_first (all_let_join own (all_listed_of rows)) (change_refusal_number c.args.refusal) none
    (sym (all_told own rows) ∙ ap (λ (o : Silo). list_all (λ (one : Listed). lets_join o one.silo) rows) (sym c.address.ensures)
    ∙ sym c.all_let_join.ensures ∙ c.if-all_let_join.true))

pub returns-clause-number : goal.returns-clause-number
returns-clause-number c =
    let own = c.args.self.now.node.host.silo in
    let rows = c.args.rows.now in
    let none : is_some (change_refusal_number c.args.refusal) ≡ false = cc (c.of_change-refusal.ensures.number, c.number.ensures, c.is_some.ensures, c.if-is_some.false) in
    sym (itself_first (all_let_join own (all_listed_of rows)) (change_refusal_number c.args.refusal) none
    (sym (all_told own rows) ∙ ap (λ (o : Silo). list_all (λ (one : Listed). lets_join o one.silo) rows) (sym c.address.ensures)
    ∙ sym c.all_let_join.ensures ∙ c.if-all_let_join.false))
