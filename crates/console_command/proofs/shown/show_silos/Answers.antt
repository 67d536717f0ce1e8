use Rattle.std.proofs.Common.{◌≡◌, ◌∷◌, Some, None, ap, refl, subst, sym, ◌∙◌}
use Rattle.silo_address.specs.Silo.{Silo}
use Rattle.membership_view.specs.declared.row.Row.{Row}
use Rattle.membership_view.specs.Row.{status_in}
use Rattle.membership_view.specs.Views.{ViewsValue, known_now, rows_in}
use Rattle.directory_rules.specs.Happens.{node_of}
use Rattle.script_lines.proofs.Fronts.{begins_with_the_first}
use Rattle.script_rules.specs.Show.{silo_lines}
use Rattle.console_command.proofs.Lines.{begins_with_itself}
use Rattle.console_command.proofs.Results.{not_ok}
use Rattle.console_command.proofs.Rows.{Shows, known_next, known_later, shows_all, shows_from_start, shows_more}
use Rattle.console_command.proofs.shown.show_silos.Goals as goal

pub loop-silo-init : goal.loop-silo-init
loop-silo-init c =
    let world = c.args.world.now in
    let gives : c.into_iter-silo-iterator.result ≡ world.views.rows =
    c.into_iter-silo-iterator.ensures.into_iter_gives ∙ (c.rows-silo-items.ensures.rest
    ∙ ap (λ (views : ViewsValue). views.rows) c.views.ensures) in
    record {
      shows =
          shows_from_start (λ e. silo_lines e.0 e.1 (node_of world e.0)) c.args.out.now.items (known_now world.views)
          (rows_in world.views.version c.into_iter-silo-iterator.result) (ap (rows_in world.views.version) gives);
      begins = begins_with_itself _ _ refl;
    }

-- a silo that had joined by the current version is shown
pub loop-silo-preserved-in-Continue-1 : goal.loop-silo-preserved-in-Continue-1
loop-silo-preserved-in-Continue-1 c =
    let world = c.args.world.now in
    let e : Silo × Row = (c.in-Some.silo.now, c.in-Some.row.now) in
    let taken : c.loop-silo.silo-iterator ≡ e ∷ c.next.new.self = c.in-Some.ensures.steps in
    let says : status_in world.views.version e.1 ≡ Some c.in-Some-status.status =
    ap (λ version. status_in version e.1) (sym c.current.ensures) ∙ (sym c.status.ensures ∙ c.in-Some-status.is) in
    record {
      shows =
          shows_more (λ e. silo_lines e.0 e.1 (node_of world e.0)) c.args.out.now.items (known_now world.views)
          c.loop-silo.out.items c.show_silo.new.out.items (e.0, c.in-Some-status.status) (rows_in world.views.version c.next.new.self)
          (rows_in world.views.version c.loop-silo.silo-iterator)
          (known_next world.views.version e c.next.new.self c.loop-silo.silo-iterator taken c.in-Some-status.status says)
          c.in_ok-show_silo.ensures.shown c.loop-silo.invariant.shows;
      begins = begins_with_the_first _ _ _ c.loop-silo.invariant.begins c.in_ok-show_silo.ensures.kept;
    }

-- one that hadn't is passed over
pub loop-silo-preserved : goal.loop-silo-preserved
loop-silo-preserved c =
    let world = c.args.world.now in
    let e : Silo × Row = (c.in-Some.silo.now, c.in-Some.row.now) in
    let taken : c.loop-silo.silo-iterator ≡ e ∷ c.next.new.self = c.in-Some.ensures.steps in
    let says : status_in world.views.version e.1 ≡ None =
    ap (λ version. status_in version e.1) (sym c.current.ensures) ∙ (sym c.status.ensures ∙ c.in_default.is) in
    record {
      shows =
          subst (Shows (λ e. silo_lines e.0 e.1 (node_of world e.0)) c.args.out.now.items (known_now world.views) c.loop-silo.out.items)
          (known_later world.views.version e c.next.new.self c.loop-silo.silo-iterator taken says) c.loop-silo.invariant.shows;
      begins = c.loop-silo.invariant.begins;
    }

pub returns-in_err-show_silo-clause-shown : goal.returns-in_err-show_silo-clause-shown
returns-in_err-show_silo-clause-shown c = not_ok _ c.from_residual.result c.from_residual.ensures.0

pub returns-in_err-show_silo-clause-kept : goal.returns-in_err-show_silo-clause-kept
returns-in_err-show_silo-clause-kept c = begins_with_the_first _ _ _ c.loop-silo.invariant.begins c.show_silo.ensures.kept

pub returns-clause-shown : goal.returns-clause-shown
returns-clause-shown c =
    let world = c.args.world.now in
    shows_all (λ e. silo_lines e.0 e.1 (node_of world e.0)) c.args.out.now.items (known_now world.views) c.loop-silo.out.items
    (rows_in world.views.version c.loop-silo.silo-iterator) (ap (rows_in world.views.version) c.in-None.ensures.steps.0)
    c.loop-silo.invariant.shows

pub returns-clause-kept : goal.returns-clause-kept
returns-clause-kept c = c.loop-silo.invariant.begins
