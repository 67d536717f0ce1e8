use Rattle.std.proofs.Common.{ℕ, ◌-◌, max, Option, ap, ◌∙◌}
use Rattle.std.specs.Option.{unwrap_or}
use Rattle.directory_rules.specs.State.{Node}
use Rattle.membership_view.specs.View.{ViewValue}
use Rattle.membership_view.specs.Views.{ViewsValue, joining_version}
use Rattle.console_command.proofs.Sights.{unseen_are}
use Rattle.console_command.proofs.sync.unseen_by.Goals as goal

pub returns : goal.returns
returns c =
    let silo = c.args.silo.now in
    let node = c.args.node.now in
    let joined = c.unwrap_or-joined.ensures
    ∙ ap (λ (o : Option ℕ). unwrap_or o 0) (c.joined_at.ensures ∙ ap (λ (v : ViewsValue). joining_version v silo) c.views.ensures) in
    let seen = c.version-seen.ensures ∙ ap (λ (v : ViewValue). v.version)
    (c.view.ensures ∙ ap (λ (n : Node). n.view) c.node.ensures) in
    unseen_are c.args.world.now silo node c.max.result
    (c.max.ensures ∙ (ap (λ (n : ℕ). max n c.saturating_sub.result) seen
    ∙ ap (λ (n : ℕ). max node.view.version n) (c.saturating_sub.ensures ∙ ap (λ (n : ℕ). n - 1) joined)))
