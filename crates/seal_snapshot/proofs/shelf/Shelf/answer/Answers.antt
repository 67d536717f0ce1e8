use Rattle.std.proofs.Common.{◌≡◌, ◌∙◌, ap, sym, subst, get_or, IfOk, List}
use Rattle.directory_rules.specs.State.{Snapshot}
use Rattle.directory_rules.specs.Snapshot.{ShelfAnswer}
use Rattle.seal_snapshot.specs.Shelf.{AreInOrder, IsPageless, answer_of}
use Rattle.std.proofs.lemmas.Result.{IfOk-weaker}
use Rattle.seal_snapshot.proofs.Searches.{answer_found, answer_missing, tells_digest}
use Rattle.seal_snapshot.proofs.shelf.Shelf.answer.Goals as goal

pub returns-in-Some-clause-answered : goal.returns-in-Some-clause-answered
returns-in-Some-clause-answered c =
    subst (λ (a : ShelfAnswer). IfOk c.page_of.result (λ answer. answer_of answer ≡ a))
    (sym (answer_found c.args.self.now c.args.seen c.args.version c.args.range.now c.args.asker.now c.args.page c.in-Some.index
    c.index.result.now
    (subst AreInOrder c.self.view_is c.self.invariant) c.if-seen-version.false c.in-Some.ensures.found
    (c.index.ensures ∙ ap (λ (l : List Snapshot). get_or l c.in-Some.index c.index.result.now) c.self.view_is)))
    c.page_of.ensures.answered

pub returns-in-Some-clause-pageless_succeeds : goal.returns-in-Some-clause-pageless_succeeds
returns-in-Some-clause-pageless_succeeds c pageless =
    c.page_of.ensures.pageless_succeeds
    (subst (λ (a : ShelfAnswer). IsPageless a)
    (answer_found c.args.self.now c.args.seen c.args.version c.args.range.now c.args.asker.now c.args.page c.in-Some.index
    c.index.result.now
    (subst AreInOrder c.self.view_is c.self.invariant) c.if-seen-version.false c.in-Some.ensures.found
    (c.index.ensures ∙ ap (λ (l : List Snapshot). get_or l c.in-Some.index c.index.result.now) c.self.view_is))
    pageless)

pub returns-in-None-clause-answered : goal.returns-in-None-clause-answered
returns-in-None-clause-answered c =
    sym (answer_missing c.args.self.now c.args.seen c.args.version c.args.range.now c.args.asker.now c.args.page c.if-seen-version.false
    c.in-None.ensures.absent)

pub returns-in-Some-clause-digest : goal.returns-in-Some-clause-digest
returns-in-Some-clause-digest c =
    IfOk-weaker c.page_of.result _ _
    (λ answer is. tells_digest c.args.self.now c.args.seen c.args.version c.args.range.now c.args.asker.now c.args.page answer is)
    (subst (λ (a : ShelfAnswer). IfOk c.page_of.result (λ answer. answer_of answer ≡ a))
    (sym (answer_found c.args.self.now c.args.seen c.args.version c.args.range.now c.args.asker.now c.args.page c.in-Some.index
    c.index.result.now
    (subst AreInOrder c.self.view_is c.self.invariant) c.if-seen-version.false c.in-Some.ensures.found
    (c.index.ensures ∙ ap (λ (l : List Snapshot). get_or l c.in-Some.index c.index.result.now) c.self.view_is)))
    c.page_of.ensures.answered)
