use Rattle.std.proofs.Common.{◌≡◌, ◌∷◌, Some, None, sym, ◌∙◌, subst}
use Rattle.std.specs.List.Sorted.{IsStrictlySortedBy}
use Rattle.std.specs.Map.{keys_of}
use Rattle.silo_address.specs.Silo.{Silo, silo_cmp}
use Rattle.silo_address.proofs.Order.{silo_cmp_total}
use Rattle.texts.proofs.Entries.{sorted-picked}
use Rattle.membership_view.specs.declared.row.Row.{Row}
use Rattle.membership_view.specs.Row.{status_in}
use Rattle.membership_view.specs.View.{listed_rows}
use Rattle.membership_view.specs.Views.{rows_in}
use Rattle.membership_view.proofs.Listed.{sorted_listed}
use Rattle.membership_view.proofs.Reading.{IsRead, read_start, read_next, read_end}
use Rattle.membership_view.proofs.view.View.read.Goals as goal

pub loop-silo-init : goal.loop-silo-init
loop-silo-init c =
    let gives : c.into_iter-silo-iterator.result ≡ c.args.rows.now.entries = c.into_iter-silo-iterator.ensures.into_iter_gives.0 in
    subst (λ l. IsRead c.in_ok-shown.shown.items None c.args.version l c.args.rows.now.entries) (sym gives)
    (read_start c.in_ok-shown.shown.items c.args.version c.args.rows.now.entries c.in_ok-shown.ensures.items c.len.ensures.ordered)

pub loop-silo-preserved-in-Some-status : goal.loop-silo-preserved-in-Some-status
loop-silo-preserved-in-Some-status c =
    let e : Silo × Row = (c.in-Some.silo.now, c.in-Some.row.now) in
    let taken : c.loop-silo.silo-iterator ≡ e ∷ c.next.new.self = c.in-Some.ensures.steps in
    let so = subst (λ l. IsRead c.loop-silo.shown.items c.loop-silo.last c.args.version l c.args.rows.now.entries) taken c.loop-silo.invariant in
    let says : status_in c.args.version c.in-Some.row.now ≡ Some c.in-Some-status.status = sym c.status.ensures ∙ c.in-Some-status.is in
    subst (λ l. IsRead l (Some (c.in-Some.silo.now, c.in-Some-status.status)) c.args.version c.next.new.self c.args.rows.now.entries)
    (sym c.in_ok-show_before.ensures)
    (read_next c.loop-silo.shown.items c.args.version e c.next.new.self c.args.rows.now.entries c.loop-silo.last c.in-Some-status.status so says)

-- what is shown is what is listed, so it is in order
pub invariant_of-result : goal.invariant_of-result
invariant_of-result c =
    let rows = rows_in c.args.version c.args.rows.now.entries in
    let so = subst (λ l. IsRead c.loop-silo.shown.items c.loop-silo.last c.args.version l c.args.rows.now.entries) c.in-None.ensures.steps.0 c.loop-silo.invariant in
    let all : c.show_last.new.shown.items ≡ listed_rows rows =
    c.in_ok-show_last.ensures ∙ read_end c.loop-silo.shown.items c.loop-silo.last c.args.version c.args.rows.now.entries so in
    subst (λ l. IsStrictlySortedBy silo_cmp (keys_of l)) (sym all)
    (sorted_listed rows (sorted-picked silo_cmp_total (status_in c.args.version) c.args.rows.now.entries c.len.ensures.ordered))
