use Rattle.std.proofs.Common.{◌∙◌, ◌<◌, ap, sym, subst, Option, ℕ}
use Rattle.membership_view.specs.Views.{ViewsValue}
use Rattle.std.specs.Prelude.{◌≡◌, Result, Ok}
use Rattle.directory_rules.specs.Membership.{Leave, Membership}
use Rattle.directory_node.specs.Follows.{Follows, RefusesBy}
use Rattle.directory_node.specs.MembershipModel.{change_refusal_number}
use Rattle.silo_rules.specs.SiloValue.{SiloValue}
use Rattle.silo_rules.specs.Told.{IsNever, told}
use Rattle.silo_rules.specs.Whole.{IsWhole}
use Rattle.silo_rules.specs.declared.news.News.{News}
use Rattle.silo_rules.specs.declared.news.News.TheVariants.{Made}
use Rattle.silo_rules.proofs.Whole.{change_whole}
use Rattle.directory_silo.specs.AnswerModel.{heard_as}
use Rattle.directory_silo.specs.Numbers.{silo_refusal_number}
use Rattle.directory_silo.specs.SiloModel.{silo_of}
use Rattle.directory_silo.specs.declared.refusal.SiloRefusal.{SiloRefusal}
use Rattle.directory_silo.proofs.Heard.{made_next, refused_next}
use Rattle.directory_silo.proofs.silo.Silo.leaving.Goals as goal
use Rattle.directory_silo.proofs.silo.Silo.leaving.Goals.{in-Ok, in-Err}

pub invariant_of-self : goal.invariant_of-self
invariant_of-self c =
    elim c.match-leave.branch [
      | in-Ok w ↦ change_whole (silo_of c.self.inside) (Leave c.args.silo.now) _ c.self.invariant
          (w.in-Ok.ensures.left c.self.inside.node.settings)
      | in-Err w ↦ subst (λ (m : Membership). IsWhole (record (silo_of c.self.inside) { membership = m })) (sym w.in-Err.ensures.unchanged)
          c.self.invariant
    ]

pub returns-clause-told : goal.returns-clause-told
returns-clause-told c =
    let settings = c.self.inside.node.settings in
    let m = c.self.inside.membership in
    let newer : m.views.version < c.args.version = subst (λ (v : ℕ). v < c.args.version) (c.current.ensures ∙ ap (λ (v : ViewsValue). v.version) c.views.ensures) c.if-version-current.false in
    let next = sym c.is_next.ensures ∙ c.if-not-is_next.false in
    elim c.match-leave.branch [
      | in-Ok w ↦
          subst (λ (r : Result News SiloRefusal). Follows (heard_as (silo_of (record c.self.inside { membership = c.leave.new.self })))
          silo_refusal_number IsNever (told c.args.self.now.node.settings c.args.self.now.membership c.args.version
          (Leave c.args.silo.now)) r)
          (sym w.result-is)
          (subst (λ (s : SiloValue). told s.node.settings s.membership c.args.version (Leave c.args.silo.now) ≡ Ok
          (record { membership = c.leave.new.self; news = Made })) c.self.view_is
          (made_next settings m c.args.version (Leave c.args.silo.now) newer next c.leave.new.self (w.in-Ok.ensures.left settings)))
      | in-Err w ↦
          subst (λ (r : Result News SiloRefusal). Follows (heard_as (silo_of (record c.self.inside { membership = c.leave.new.self })))
          silo_refusal_number IsNever (told c.args.self.now.node.settings c.args.self.now.membership c.args.version
          (Leave c.args.silo.now)) r)
          (sym w.result-is)
          (subst (λ (n : Option ℕ). RefusesBy IsNever n (told c.args.self.now.node.settings c.args.self.now.membership c.args.version
          (Leave c.args.silo.now))) (sym w.of_change.ensures.number)
          (subst (λ (s : SiloValue). RefusesBy IsNever (change_refusal_number w.in-Err.refusal)
          (told s.node.settings s.membership c.args.version (Leave c.args.silo.now))) c.self.view_is
          (refused_next settings m c.args.version (Leave c.args.silo.now) newer next (change_refusal_number w.in-Err.refusal)
          (w.in-Err.ensures.refused settings))))
    ]
