use Rattle.std.proofs.Common.{arith, sym}
use Rattle.std.proofs.lemmas.List.Sums.{position_or_len_is}
use Rattle.silo_address.specs.SiloText.{is_mark}
use Rattle.silo_address.proofs.words.first_mark.Goals as goal

pub returns-then-is_mark-clause-first : goal.returns-then-is_mark-clause-first
returns-then-is_mark-clause-first c =
    sym (position_or_len_is is_mark c.args.bytes.now c.loop-position.position 0 (omega arith) c.loop-position.invariant
    (λ _. sym c.if-is_mark.ensures))

pub returns-clause-first : goal.returns-clause-first
returns-clause-first c =
    sym (position_or_len_is is_mark c.args.bytes.now _ 0 (omega arith) (λ k below. c.loop-position.invariant k (omega arith))
    (λ past. absurd (omega arith)))
