use Rattle.std.proofs.Common.{◌≡◌, None, sym, slice_get, subst, arith}
use Rattle.host_activations.proofs.Stretches.{AreListed, absent_listed, all_listed, found_listed, its_hash, nothing_listed, other_hash, page_listed}
use Rattle.host_activations.proofs.activations.page.list_stretch.Goals as goal

pub stretch-init : goal.stretch-init
stretch-init c =
    subst (λ left. AreListed c.args.asked.now c.args.held.now c.args.stretch c.args.firm.items left None c.args.firm.items)
    (sym c.into_iter-key-iterator.ensures.into_iter_gives)
    (nothing_listed c.args.asked.now c.args.held.now c.args.stretch c.args.firm.items c.requires.under c.requires.rising)

pub list_firm-requires : goal.list_firm-requires
list_firm-requires c = record {
  first = c.first_step-first.ensures.value;
  hash =
      its_hash c.args.asked.now c.args.held.now c.args.stretch c.args.firm.items c.stretch.key-iterator c.in-Some.key.now c.in-Some.index.now
      c.next.new.self c.in-Some.ensures.steps c.stretch.last c.stretch.firm.items c.stretch.invariant _ (sym c.in-Some-held_at.ensures);
}

pub returns-then-ne : goal.returns-then-ne
returns-then-ne c =
    page_listed c.args.asked.now c.args.held.now c.args.stretch c.args.firm.items c.stretch.key-iterator c.in-Some.key.now
    c.in-Some.index.now c.next.new.self c.in-Some.ensures.steps c.stretch.last c.stretch.firm.items c.stretch.invariant (omega arith)
    (other_hash c.stretch.last c.in-Some.key.now.hash (cc c.if-ne.ensures))

pub stretch-preserved-in-Continue-1 : goal.stretch-preserved-in-Continue-1
stretch-preserved-in-Continue-1 c =
    found_listed c.args.asked.now c.args.held.now c.args.stretch c.args.firm.items c.stretch.key-iterator c.in-Some.key.now
    c.in-Some.index.now c.next.new.self c.in-Some.ensures.steps c.stretch.last c.stretch.firm.items c.stretch.invariant _
    (sym c.in-Some-held_at.ensures) c.list_firm.new.firm.items c.in_ok-list_firm.ensures

pub stretch-preserved : goal.stretch-preserved
stretch-preserved c =
    absent_listed c.args.asked.now c.args.held.now c.args.stretch c.args.firm.items c.stretch.key-iterator c.in-Some.key.now
    c.in-Some.index.now c.next.new.self c.in-Some.ensures.steps c.stretch.last c.stretch.firm.items c.stretch.invariant
    (let none : slice_get c.args.held.now c.in-Some.index.now ≡ None = cc c.in_default.ensures in none)

pub returns : goal.returns
returns c =
    all_listed c.args.asked.now c.args.held.now c.args.stretch c.args.firm.items c.stretch.key-iterator c.in-None.ensures.steps.0
    c.stretch.last c.stretch.firm.items c.stretch.invariant
