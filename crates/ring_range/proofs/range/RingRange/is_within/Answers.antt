-- The test's exits answer `within`, which tells inclusion.
use Rattle.std.proofs.Common.{◌≡◌, ◌+◌, true, nat_le, subst, arith}
use Rattle.std.proofs.lemmas.Bool.Decides.{Decides-at, nat_tests}
use Rattle.ring_range.specs.Range.{IsRange, within}
use Rattle.ring_range.proofs.Circle.{Decides-within}
use Rattle.ring_range.proofs.range.RingRange.is_within.Goals as goal

pub returns-then-self-eq0-clause-inclusion : goal.returns-then-self-eq0-clause-inclusion
returns-then-self-eq0-clause-inclusion c =
    let exact : true ≡ within c.args.self.now c.args.other.now = grind (arith, nat_tests) in
    Decides-at true _ exact (Decides-within _ _ (subst IsRange c.self.view_is c.self.invariant)
    (subst IsRange c.other.view_is c.other.invariant))

pub returns-clause-inclusion : goal.returns-clause-inclusion
returns-clause-inclusion c =
    let exact : nat_le (c.from.result + c.self.inside.size) c.other.inside.size ≡ within c.args.self.now c.args.other.now = grind (arith, nat_tests) in
    Decides-at _ _ exact (Decides-within _ _ (subst IsRange c.self.view_is c.self.invariant)
    (subst IsRange c.other.view_is c.other.invariant))
