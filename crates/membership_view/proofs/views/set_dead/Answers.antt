use Rattle.std.proofs.Common.{sym, ◌∙◌, ap}
use Rattle.membership_view.specs.Row.{dying}
use Rattle.texts.proofs.Entries.{changed_absent, set_value-changed}
use Rattle.membership_view.proofs.views.set_dead.Goals as goal
use Rattle.silo_address.proofs.Order.{silo_cmp_total}

pub returns-in-Some : goal.returns-in-Some
returns-in-Some c =
    (c.get_mut.follows.holds (dying c.args.version c.in-Some.row.now)).0
    ∙ set_value-changed silo_cmp_total (dying c.args.version) c.args.silo.now c.args.rows.now.entries c.in-Some.row.now
    c.get_mut.ensures.ordered (sym c.in-Some.ensures.value)

pub returns-in_default : goal.returns-in_default
returns-in_default c =
    ap (λ m. m.entries) c.get_mut.follows.holds-at-none
    ∙ sym (changed_absent silo_cmp_total (dying c.args.version) c.args.silo.now c.args.rows.now.entries (sym c.in_default.ensures.value))
