use Rattle.std.proofs.Common.{◌≡◌, ◌∙◌, ap, subst, sym, List}
use mathlib.Core.List.{IsPrefix}
use Rattle.logbook.specs.Pages.{Named}
use Rattle.hash_ring.specs.Ring.{RingValue}
use Rattle.published_rings.specs.Log.{FrontValue, rings_of}
use Rattle.published_rings.specs.Rule.{Begins}
use Rattle.published_rings.specs.declared.log_rule.Entry.{Entry}
use Rattle.published_rings.proofs.Logs.{begins_rings, compares}
use Rattle.published_rings.proofs.log.Keeper.began.Goals as goal

pub compare_exchange-requires : goal.compare_exchange-requires
compare_exchange-requires c =
    let is = c.self.invariant in
    let step = c.plain-step.ensures in
    let book = ap (λ (h : Named). h.book) is.0 in (
      ap (λ (h : Named). h.tracked) is.0,
      c.learn.ensures.0 ∙ ap (λ s. s.book) c.again-both.ensures ∙ sym book,
      is.1 ∙ sym book,
      step.0,
      rw (ap (λ (h : Named). h.key) is.0, step.3) (compares c.learn.new.self.log c.self.inside.pen.nib c.plain-step.result.ask is.2),
    )

pub returns-clause-begins : goal.returns-clause-begins
returns-clause-begins c =
    let mine : List Entry = c.self.inside.seen.log in
    let its : List Entry = c.front.inside.seen.log in
    let both : List Entry = c.learn.new.self.log in
    let first : IsPrefix mine both = subst (λ (l : List Entry). IsPrefix l both) (ap (λ s. s.log) c.again-both.ensures) c.learn.ensures.2 in
    let whole : mine ≡ both = c.compare_exchange.ensures.7.1 mine first c.self.invariant.3 in
    let begins : Begins (rings_of its) (rings_of mine) = begins_rings its mine (subst (λ (l : List Entry). IsPrefix its l) (sym whole) c.learn.ensures.3) in
    subst (λ (l : List RingValue). Begins c.args.front.now.all l) (ap (λ (f : FrontValue). f.all) c.self.view_is)
    (subst (λ (l : List RingValue). Begins l (rings_of mine)) (ap (λ (f : FrontValue). f.all) c.front.view_is) begins)
