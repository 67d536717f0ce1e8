use Rattle.std.proofs.Common.{◌≡◌, ◌<◌, ◌^◌, ◌+◌, arith, ap, below_more, get_or, length, refl, subst, take_all, ◌∙◌}
use Rattle.std.proofs.lemmas.Int.Digits.{digits_value_more}
use Rattle.std.proofs.lemmas.List.{get_or_default}
use Rattle.std.proofs.lemmas.Str.Parse.{digits_value-take-le}
use Rattle.texts.specs.Numeral.{IsDigit, numeral_value}
use Rattle.texts.proofs.number.value_of.Goals as goal

-- the digits so far write a number of at least 2^64, and all of them no less
pub returns-in_err-value : goal.returns-in_err-value
returns-in_err-value c =
    rw c.from_residual.ensures
    (λ is.
    let small = is.1 in
    let inside : c.loop-byte.byte-index < length c.args.word.now = omega arith in
    let more = digits_value_more 10 c.args.word.now c.loop-byte.byte-index inside in
    let front = digits_value-take-le 10 c.args.word.now (c.loop-byte.byte-index + 1) (omega arith) in
    c.in_err-value.ensures (omega arith))

pub loop-byte-preserved : goal.loop-byte-preserved
loop-byte-preserved c =
    let inside : c.loop-byte.byte-index < length c.args.word.now = omega arith in
    let more = digits_value_more 10 c.args.word.now c.loop-byte.byte-index inside in
    let value = c.in_ok-value.ensures in
    record {
      value = cc (value.1, c.loop-byte.invariant.value);
      fits = omega (arith, value.0, value.1);
      digits =
          below_more (λ k. IsDigit (get_or c.args.word.now k 0)) c.loop-byte.byte-index c.loop-byte.invariant.digits
          (omega arith, omega arith);
    }

pub returns : goal.returns
returns c =
    let begun = c.if-not-is_begun.ensures.0 refl in
    let so_far = c.loop-byte.invariant in
    let value : c.loop-byte.value ≡ numeral_value c.args.word.now =
    so_far.value ∙ ap numeral_value (take_all c.loop-byte.byte-index c.args.word.now (omega arith)) in (
      (
        record {
          some = begun.some;
          digits = λ k d below. rw (get_or_default c.args.word.now k d 0 below) (so_far.digits k (omega arith));
          shortest = begun.shortest;
        },
        subst (λ n. n < 2 ^ 64) value so_far.fits,
      ),
      value,
    )
