use Rattle.std.proofs.Common.{◌≡◌, ◌∙◌, ◌++◌, ap, filter, not, rules}
use Rattle.std.proofs.lemmas.Fn.{filter_same}
use Rattle.directory_rules.specs.Members.{is_dead_in}
use Rattle.directory_rules.specs.State.{Snapshot}
use Rattle.seal_snapshot.proofs.shelf.fill.Goals as goal

pub returns : goal.returns
returns c =
    let kept : c.retain.new.self.items ≡ filter (λ (s : Snapshot). not (is_dead_in c.args.view.now s.to)) c.args.kept.items =
    filter_same _ (λ (s : Snapshot). not (is_dead_in c.args.view.now s.to)) _ (λ x b f called. search rules) _ _
    c.retain.ensures.filtered in
    c.move_behind-2.ensures.moved ∙ ap (λ l. l ++ c.args.sealed.items) (c.move_behind.ensures.moved ∙ (λ i. c.requires.empty i ++ kept i))
