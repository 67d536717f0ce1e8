use Rattle.std.proofs.Common.{◌∙◌, ◌<◌, ◌≤◌, ap, sym, subst, ℕ, Option}
use Rattle.std.specs.Prelude.{IsOk}
use Rattle.membership_view.specs.Views.{ViewsValue}
use Rattle.directory_rules.specs.ListedModel.{all_listed_of}
use Rattle.directory_rules.specs.Membership.{begun}
use Rattle.directory_rules.specs.Settings.{Settings}
use Rattle.directory_node.specs.Follows.{RefusesBy}
use Rattle.directory_node.specs.MembershipModel.{change_refusal_number}
use Rattle.silo_rules.specs.Begun.{told_view}
use Rattle.silo_rules.specs.SiloValue.{SiloValue}
use Rattle.directory_silo.specs.Later.{all_let_join, number_first}
use Rattle.directory_silo.specs.Numbers.{silo_refusal_number}
use Rattle.directory_silo.proofs.Begun.{told_before, view_refused}
use Rattle.directory_silo.proofs.silo.Silo.begun.Goals as goal

pub returns-then-current-gt0-clause-begun : goal.returns-then-current-gt0-clause-begun
returns-then-current-gt0-clause-begun c =
    let s = c.self.inside in
    let above : 0 < s.membership.views.version = subst (λ (v : ℕ). 0 < v) (c.current.ensures ∙ ap (λ (v : ViewsValue). v.version) c.views.ensures) c.if-current-gt0.true in
    rw (← c.self.view_is) (told_before s.node.settings s.membership s.node.host.silo c.args.version (all_listed_of c.args.rows.now) above)

pub returns-in-Err-clause-begun : goal.returns-in-Err-clause-begun
returns-in-Err-clause-begun c =
    let s = c.self.inside in
    let rows = all_listed_of c.args.rows.now in
    let number = change_refusal_number c.in-Err.refusal in
    let nothing : s.membership.views.version ≤ 0 = subst (λ (v : ℕ). v ≤ 0) (c.current.ensures ∙ ap (λ (v : ViewsValue). v.version) c.views.ensures) c.if-current-gt0.false in
    let its = c.not_begun.ensures.number ∙ ap (λ (t : SiloValue). number_first (all_let_join t.node.host.silo rows) number) (sym c.self.view_is) in
    subst (λ (t : SiloValue). RefusesBy IsOk (silo_refusal_number c.not_begun.result)
    (told_view t.node.settings t.membership t.node.host.silo
    c.args.version rows)) c.self.view_is
    (subst (λ (n : Option ℕ). RefusesBy IsOk n (told_view s.node.settings s.membership s.node.host.silo c.args.version rows)) (sym its)
    (view_refused s.node.settings s.membership s.node.host.silo c.args.version rows nothing number
    (subst (λ (settings : Settings). RefusesBy IsOk number (begun settings c.args.version rows))
    c.settings-settings.ensures c.in-Err.ensures.begun)))
