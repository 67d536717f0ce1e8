use Rattle.std.proofs.Common.{◌≡◌, ◌<◌, true, false, length, Some, None, refl, sym, ◌∙◌, ap, if◌then◌else◌}
use Rattle.std.proofs.lemmas.Bool.{ltb-true}
use Rattle.std.proofs.lemmas.Option.{slice_get_read}
use Rattle.std.specs.List.{slice_get}
use Rattle.membership_view.specs.declared.status.Status.TheVariants.{Dead}
use Rattle.membership_view.specs.View.{shares_endpoint}
use Rattle.membership_view.specs.Listing.{outlived_by}
use Rattle.membership_view.proofs.Order.{shares_is}
use Rattle.membership_view.proofs.view.outlived_at.Goals as goal

pub returns-then-same_endpoint : goal.returns-then-same_endpoint
returns-then-same_endpoint c =
    let row = c.in_ok-next.field-0.now in
    let inside : c.args.index < length c.args.rows.now = ltb-true c.args.index (length c.args.rows.now) (sym c.in_ok-next.ensures.lookup.0) in
    let at : slice_get c.args.rows.now c.args.index ≡ Some row =
    slice_get_read c.args.rows.now (length c.args.rows.now) c.args.index row refl inside c.in_ok-next.ensures.lookup.1 in
    let shares : shares_endpoint c.args.silo.now row.0 ≡ true =
    sym (shares_is c.args.silo.now row.0 c.same_endpoint.result c.same_endpoint.ensures) ∙ c.if-same_endpoint.true in
    sym (ap (λ o. outlived_by o c.args.silo.now) at ∙ ap (λ b. if b then Some Dead else None) shares)

pub returns : goal.returns
returns c =
    let row = c.in_ok-next.field-0.now in
    let inside : c.args.index < length c.args.rows.now = ltb-true c.args.index (length c.args.rows.now) (sym c.in_ok-next.ensures.lookup.0) in
    let at : slice_get c.args.rows.now c.args.index ≡ Some row =
    slice_get_read c.args.rows.now (length c.args.rows.now) c.args.index row refl inside c.in_ok-next.ensures.lookup.1 in
    let apart : shares_endpoint c.args.silo.now row.0 ≡ false =
    sym (shares_is c.args.silo.now row.0 c.same_endpoint.result c.same_endpoint.ensures) ∙ c.if-same_endpoint.false in
    sym (ap (λ o. outlived_by o c.args.silo.now) at ∙ ap (λ b. if b then Some Dead else None) apart)
