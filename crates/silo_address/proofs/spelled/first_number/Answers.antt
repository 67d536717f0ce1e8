use Rattle.std.proofs.Common.{◌≡◌, ◌≤◌, ℕ, inl, inr, ap, arith, get_or, subst}
use Rattle.silo_address.specs.FrontNumber.{front_end}
use Rattle.silo_address.proofs.FrontLaws.{front_is_numeral}
use Rattle.silo_address.proofs.spelled.first_number.Goals as goal

pub returns : goal.returns
returns c =
    let found = c.in_ok-value.ensures in
    let end : c.in_ok-value.end ≡ front_end c.args.bytes.now = ap (λ (p : ℕ × ℕ). p.1) found.1 in
    let few : get_or c.args.bytes.now 0 0 ≡ 48 → front_end c.args.bytes.now ≤ 1 = λ zero. subst (λ n. n ≤ 1) end (elim c.else-bytes-eq48.either [ inl short ↦ short.1 | inr other ↦ absurd (other zero) ]) in (
      record { numeral = front_is_numeral c.args.bytes.now (omega arith) few; within = found.0 },
      found.1,
    )
