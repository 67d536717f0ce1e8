use Rattle.std.proofs.Common.{sym, ap, subst, ◌∙◌}
use Rattle.std.specs.List.{AllByRecursion}
use Rattle.host_activations.specs.ByHash.{IsUnder}
use Rattle.host_activations.specs.Listing.{asked_for}
use Rattle.host_activations.specs.Stretch.{standing_at}
use Rattle.host_activations.proofs.AnyFirm.{hash_under, some_standing}
use Rattle.host_activations.proofs.activations.any_firm.any_in_stretch.Goals as goal

pub stretch-init : goal.stretch-init
stretch-init c = record {
  whole = ap (λ l. asked_for c.args.asked.now (standing_at c.args.held.now l)) c.into_iter-key-iterator.ensures.into_iter_gives;
  under =
      subst (AllByRecursion (IsUnder c.args.asked.now.hashing c.args.held.now)) (sym c.into_iter-key-iterator.ensures.into_iter_gives) c.requires.under;
}

pub is_asked_for-requires : goal.is_asked_for-requires
is_asked_for-requires c = record {
  first = c.first_step-first.ensures.value;
  hash =
      hash_under c.args.asked.now c.args.held.now c.stretch.key-iterator c.in-Some.key.now c.in-Some.index.now c.next.new.self
      c.in-Some.ensures.steps c.stretch.invariant.under _ (sym c.in-Some-held_at.ensures);
}

pub returns-then-is_asked_for : goal.returns-then-is_asked_for
returns-then-is_asked_for c =
    some_standing c.args.asked.now c.args.held.now c.stretch.key-iterator c.in-Some.key.now c.in-Some.index.now c.next.new.self
    c.in-Some.ensures.steps (asked_for c.args.asked.now (standing_at c.args.held.now c.args.stretch)) c.stretch.invariant.whole _
    (sym c.in-Some-held_at.ensures) (sym c.is_asked_for.ensures ∙ c.if-is_asked_for.true)
