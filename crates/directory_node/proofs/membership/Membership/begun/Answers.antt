use Rattle.std.proofs.Common.{◌∙◌, ap, sym, take_all, List}
use Rattle.std.specs.Prelude.{IsOk}
use Rattle.std.proofs.lemmas.Result.{err_from_is_err_and}
use Rattle.directory_rules.specs.ListedModel.{all_listed_of}
use Rattle.directory_rules.specs.declared.Listed.{Listed}
use Rattle.directory_rules.specs.Membership.{begun}
use Rattle.directory_node.specs.MembershipModel.{change_refusal_number}
use Rattle.directory_node.proofs.ListedSilos.{has_number, refuses_by, told_next, told_stops}
use Rattle.directory_node.proofs.membership.Membership.begun.Goals as goal

pub loop-one-preserved : goal.loop-one-preserved
loop-one-preserved c =
    told_next c.args.rows.now c.loop-one.one-index c.one-item.result c.loop-one-test.true c.one-item.is c.args.settings.now c.args.version
    c.loop-one.begun c.loop-one.invariant c.list.new.self c.in_default.ensures.listed

pub returns-in_err-may_begin-clause-begun : goal.returns-in_err-may_begin-clause-begun
returns-in_err-may_begin-clause-begun c =
    let p = err_from_is_err_and c.from_residual-in_err-may_begin.result c.from_residual-in_err-may_begin.ensures.1 in
    rw (p.1, p.2)
    (refuses_by IsOk (change_refusal_number c.in_err-may_begin.field-0.0) (begun c.args.settings.now c.args.version (all_listed_of c.args.rows.now))
    c.in_err-may_begin.ensures.refused)

pub returns-in_err-may_begin-clause-numbered : goal.returns-in_err-may_begin-clause-numbered
returns-in_err-may_begin-clause-numbered c =
    let p = err_from_is_err_and c.from_residual-in_err-may_begin.result c.from_residual-in_err-may_begin.ensures.1 in
    rw (p.1, p.2) (has_number _ (change_refusal_number c.in_err-may_begin.field-0.0) _ c.in_err-may_begin.ensures.refused)

pub returns-in-Err-clause-begun : goal.returns-in-Err-clause-begun
returns-in-Err-clause-begun c =
    told_stops c.args.rows.now c.loop-one.one-index c.one-item.result c.loop-one-test.true c.one-item.is c.args.settings.now c.args.version
    c.loop-one.begun c.loop-one.invariant (change_refusal_number c.in-Err.refusal) c.in-Err.ensures.listed c.in_ok-may_begin.ensures.begins

pub returns-clause-begun : goal.returns-clause-begun
returns-clause-begun c =
    ap (λ (l : List Listed). begun c.args.settings.now c.args.version (all_listed_of l))
    (sym (take_all c.loop-one.one-index c.args.rows.now c.loop-one-test.false)) ∙ c.loop-one.invariant
