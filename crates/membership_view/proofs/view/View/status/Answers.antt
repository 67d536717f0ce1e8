use Rattle.std.proofs.Common.{sym, length, rules, subst, ap, ◌∙◌, ◌<◌}
use Rattle.std.proofs.lemmas.List.Sorted.{answers_always}
use Rattle.membership_view.specs.View.{is_outlived, or_outlived}
use Rattle.membership_view.specs.Listing.{outlived_at}
use Rattle.membership_view.proofs.Search.{lookup_hit, status_miss}
use Rattle.membership_view.proofs.view.View.status.Goals as goal

pub returns-in-Ok : goal.returns-in-Ok
returns-in-Ok c =
    let at = c.in-Ok.ensures.position (λ y. y.0) (answers_always _ _ _ (λ f a r g called. search rules)) in
    let inside : c.in-Ok.index < length c.self.inside.rows.items = subst (λ l. c.in-Ok.index < length l) c.deref.ensures.value c.in-Ok.ensures.bound in
    rw (← c.self.view_is)
    (sym (ap (λ o. or_outlived o (is_outlived c.args.silo.now c.self.inside.rows.items))
    (lookup_hit c.self.inside.rows.items c.self.invariant c.args.silo.now c.in-Ok.index c.index.result.now inside
    (rw c.deref.ensures.value at at) c.index.ensures)))

pub returns-in-Err : goal.returns-in-Err
returns-in-Err c =
    let at = c.in-Err.ensures.position (λ y. y.0) (answers_always _ _ _ (λ f a r g called. search rules)) in
    rw (← c.self.view_is)
    (c.outlived_at.ensures ∙ ap (λ l. outlived_at l c.in-Err.index c.args.silo.now) c.deref-in-Err.ensures.value
    ∙ status_miss c.self.inside.rows.items c.self.invariant c.args.silo.now c.in-Err.index (rw c.deref.ensures.value at at))
