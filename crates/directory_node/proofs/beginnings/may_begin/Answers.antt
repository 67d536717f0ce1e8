use Rattle.std.proofs.Common.{◌≡◌, ◌++◌, ◌∷◌, [], ℕ, take}
use Rattle.std.specs.Prelude.{Err}
use Rattle.std.proofs.lemmas.Result.{err_from_is_err_and}
use Rattle.directory_rules.specs.ListedModel.{all_listed_of, listed_of}
use Rattle.directory_rules.specs.Membership.{begun}
use Rattle.directory_node.specs.MembershipModel.{change_refusal_number}
use Rattle.directory_node.proofs.ListedSilos.{all_stop, some_weaker}
use Rattle.directory_node.proofs.beginnings.may_begin.Goals as goal

pub returns-in_err-may_list_behind-clause-refused : goal.returns-in_err-may_list_behind-clause-refused
returns-in_err-may_list_behind-clause-refused c =
    let settings = c.args.settings.now in
    let rows = c.args.rows.now in
    let index = c.loop-index.index in
    let one = c.index-rows-index.result in
    let p = err_from_is_err_and c.from_residual.result c.from_residual.ensures.1 in
    rw (p.1, p.2)
    (some_weaker (change_refusal_number c.in_err-may_list_behind.field-0.0)
    (λ (n : ℕ). begun settings c.args.version (all_listed_of (take index rows) ++ listed_of one ∷ []) ≡ Err n)
    (λ (n : ℕ). begun settings c.args.version (all_listed_of rows) ≡ Err n)
    (λ n refused. all_stop rows index one c.loop-index-test.true c.index-rows-index.is settings c.args.version n refused)
    c.in_err-may_list_behind.ensures.refused)
