use Rattle.std.proofs.Common.{◌≡◌, ℕ, Some, ap, arith, sym, ◌∙◌}
use Rattle.std.specs.Fmt.{decimal}
use Rattle.silo_address.specs.FrontNumber.{front_end, front_value}
use Rattle.silo_address.proofs.FrontLaws.{ends_there, number_alone}
use Rattle.silo_address.proofs.spelled.only_number.Goals as goal

pub returns-in_err-number-clause-only : goal.returns-in_err-number-clause-only
returns-in_err-number-clause-only c = λ number at_most is.
    let there = ends_there c.args.most number c.args.bytes.now (omega arith) at_most is in
    absurd (c.in_err-number.ensures there.first)

pub returns-then-end-bytes-clause-found : goal.returns-then-end-bytes-clause-found
returns-then-end-bytes-clause-found c =
    let found = c.in_ok-number.ensures in
    let at_most = found.0.within in
    let number : c.in_ok-number.number ≡ front_value c.args.bytes.now = ap (λ (p : ℕ × ℕ). p.0) found.1 in
    let end : c.in_ok-number.end ≡ front_end c.args.bytes.now = ap (λ (p : ℕ × ℕ). p.1) found.1 in
    let alone = number_alone c.args.bytes.now c.args.most (omega arith) found.0 (omega arith) in
    (omega arith, alone ∙ ap decimal (sym number))

pub returns-then-end-bytes-clause-only : goal.returns-then-end-bytes-clause-only
returns-then-end-bytes-clause-only c = λ number at_most is.
    let there = ends_there c.args.most number c.args.bytes.now (omega arith) at_most is in
    ap Some (ap (λ (p : ℕ × ℕ). p.0) c.in_ok-number.ensures.1 ∙ there.value)

pub returns-else-end-bytes-clause-only : goal.returns-else-end-bytes-clause-only
returns-else-end-bytes-clause-only c = λ number at_most is.
    let there = ends_there c.args.most number c.args.bytes.now (omega arith) at_most is in
    let end : c.in_ok-number.end ≡ front_end c.args.bytes.now = ap (λ (p : ℕ × ℕ). p.1) c.in_ok-number.ensures.1 in
    absurd (c.if-end-bytes.false (end ∙ there.ends))
