use Rattle.std.proofs.Common.{◌≡◌, arith, length, subst, ◌∙◌}
use Rattle.silo_address.proofs.FrontLaws.{BeginsWith, digit_more, front_found, front_large, no_digits}
use Rattle.silo_address.proofs.spelled.first_digits.Goals as goal

pub loop-position-init : goal.loop-position-init
loop-position-init c = (no_digits c.args.bytes.now, omega arith)

pub returns-in-None : goal.returns-in-None
returns-in-None c =
    let loop = c.loop-position.invariant in
    front_found c.args.bytes.now _ _ _ loop.0 (λ digit. c.in-None.ensures digit.1) loop.1

pub returns-then-value-from : goal.returns-then-value-from
returns-then-value-from c =
    let loop = c.loop-position.invariant in
    let digit = c.in-Some.ensures in
    let begins = digit_more c.args.bytes.now _ _ c.from.result loop.0 (omega arith, digit.0) (c.from.ensures ∙ digit.1) in
    front_large c.args.bytes.now _ _ c.args.most begins (omega arith)

pub loop-position-preserved : goal.loop-position-preserved
loop-position-preserved c =
    let loop = c.loop-position.invariant in
    let digit = c.in-Some.ensures in
    (digit_more c.args.bytes.now _ _ c.from.result loop.0 (omega arith, digit.0) (c.from.ensures ∙ digit.1), omega arith)

pub returns : goal.returns
returns c =
    let loop = c.loop-position.invariant in
    let end : c.loop-position.position ≡ length c.args.bytes.now = omega arith in
    front_found c.args.bytes.now _ _ _ (subst (λ n. BeginsWith c.args.bytes.now n c.loop-position.value) end loop.0)
    (λ digit. absurd (omega (arith, digit.0))) loop.1
