use Rattle.std.proofs.Common.{◌==◌, ℕ, arith, sym}
use Rattle.std.proofs.lemmas.Bool.{eq-eqb, ne_eqb}
use Rattle.std.proofs.lemmas.List.Sums.{position_or_len_is}
use Rattle.texts.proofs.position.first_position.Goals as goal

pub returns-then-byte-wanted-clause-first : goal.returns-then-byte-wanted-clause-first
returns-then-byte-wanted-clause-first c =
    sym (position_or_len_is (λ (byte : ℕ). byte == c.args.wanted) c.args.bytes.now c.loop-position.position 0 (omega arith)
    (λ k below. ne_eqb _ _ (c.loop-position.invariant k below)) (λ _. eq-eqb _ _ c.if-byte-wanted.true))

pub returns-clause-first : goal.returns-clause-first
returns-clause-first c =
    sym (position_or_len_is (λ (byte : ℕ). byte == c.args.wanted) c.args.bytes.now _ 0 (omega arith)
    (λ k below. ne_eqb _ _ (c.loop-position.invariant k (omega arith))) (λ past. absurd (omega arith)))
