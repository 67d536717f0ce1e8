use Rattle.std.proofs.Common.{arith}
use Rattle.silo_address.proofs.FrontLaws.{digit_above, digit_more, digit_within, one_digit}
use Rattle.silo_address.proofs.BeforeMark.{marked_found, marked_only, no_number, three_digits, too_large, unmarked, zero_leads}
use Rattle.silo_address.proofs.spelled.byte_before.Goals as goal

pub returns-in_err-first-clause-only : goal.returns-in_err-first-clause-only
returns-in_err-first-clause-only c = λ number rest at_most is.
    absurd (no_number c.args.bytes.now c.args.mark c.requires c.in_err-first.ensures number rest at_most is)

pub returns-then-is_at-clause-found : goal.returns-then-is_at-clause-found
returns-then-is_at-clause-found c =
    let first = c.in_ok-first.ensures in
    let small = digit_within c.args.bytes.now 0 first.0 in
    marked_found c.args.bytes.now 1 _ c.args.mark c.requires (one_digit c.args.bytes.now _ first.0 first.1)
    (omega (arith, first.1)) (omega arith) (λ _. omega arith) (c.is_at.ensures.0 c.if-is_at.true)

pub returns-then-is_at-clause-only : goal.returns-then-is_at-clause-only
returns-then-is_at-clause-only c =
    let first = c.in_ok-first.ensures in
    marked_only c.args.bytes.now 1 _ c.args.mark c.requires (one_digit c.args.bytes.now _ first.0 first.1)
    (c.is_at.ensures.0 c.if-is_at.true)

pub returns-in_err-second-clause-only : goal.returns-in_err-second-clause-only
returns-in_err-second-clause-only c = λ number rest at_most is.
    let first = c.in_ok-first.ensures in
    absurd (unmarked c.args.bytes.now 1 _ c.args.mark c.requires (one_digit c.args.bytes.now _ first.0 first.1)
    c.in_err-second.ensures (λ at. let yes = c.is_at.ensures.1 at in let isnt = c.if-is_at.false in absurd (cc)) number rest at_most is)

pub returns-then-first-eq0-clause-only : goal.returns-then-first-eq0-clause-only
returns-then-first-eq0-clause-only c = λ number rest at_most is.
    let bytes = c.args.bytes.now in
    let first = c.in_ok-first.ensures in
    let second = c.in_ok-second.ensures in
    let least = digit_above bytes 0 first.0 in
    let begins = digit_more bytes 1 _ _ (one_digit bytes _ first.0 first.1) second.0 second.1 in
    absurd (zero_leads bytes _ c.args.mark c.requires begins (omega (arith, first.1, c.if-first-eq0.true)) number rest at_most is)

pub returns-then-is_at-2-clause-found : goal.returns-then-is_at-2-clause-found
returns-then-is_at-2-clause-found c =
    let bytes = c.args.bytes.now in
    let first = c.in_ok-first.ensures in
    let second = c.in_ok-second.ensures in
    let some = c.if-first-eq0.false in
    let small = digit_within bytes 0 first.0 in
    let also = digit_within bytes 1 second.0 in
    let begins = digit_more bytes 1 _ _ (one_digit bytes _ first.0 first.1) second.0 second.1 in
    marked_found bytes 2 _ c.args.mark c.requires begins (omega (arith, first.1, second.1)) (omega arith)
    (λ zero. absurd (some (omega (arith, first.1, zero)))) (c.is_at-2.ensures.0 c.if-is_at-2.true)

pub returns-then-is_at-2-clause-only : goal.returns-then-is_at-2-clause-only
returns-then-is_at-2-clause-only c =
    let bytes = c.args.bytes.now in
    let first = c.in_ok-first.ensures in
    let second = c.in_ok-second.ensures in
    let begins = digit_more bytes 1 _ _ (one_digit bytes _ first.0 first.1) second.0 second.1 in
    marked_only bytes 2 _ c.args.mark c.requires begins (c.is_at-2.ensures.0 c.if-is_at-2.true)

pub returns-in_err-third-clause-only : goal.returns-in_err-third-clause-only
returns-in_err-third-clause-only c = λ number rest at_most is.
    let bytes = c.args.bytes.now in
    let first = c.in_ok-first.ensures in
    let second = c.in_ok-second.ensures in
    let begins = digit_more bytes 1 _ _ (one_digit bytes _ first.0 first.1) second.0 second.1 in
    absurd (unmarked bytes 2 _ c.args.mark c.requires begins c.in_err-third.ensures
    (λ at. let yes = c.is_at-2.ensures.1 at in let isnt = c.if-is_at-2.false in absurd (cc)) number rest at_most is)

pub returns-then-value-gt-MOST_BYTE-clause-only : goal.returns-then-value-gt-MOST_BYTE-clause-only
returns-then-value-gt-MOST_BYTE-clause-only c = λ number rest at_most is.
    let bytes = c.args.bytes.now in
    let first = c.in_ok-first.ensures in
    let second = c.in_ok-second.ensures in
    let third = c.in_ok-third.ensures in
    let begins = digit_more bytes 2 _ _ (digit_more bytes 1 _ _ (one_digit bytes _ first.0 first.1) second.0 second.1) third.0 third.1 in
    absurd (too_large bytes 3 _ c.args.mark c.requires begins c.if-value-gt-MOST_BYTE.true number rest at_most is)

pub returns-then-is_at-3-clause-found : goal.returns-then-is_at-3-clause-found
returns-then-is_at-3-clause-found c =
    let bytes = c.args.bytes.now in
    let first = c.in_ok-first.ensures in
    let second = c.in_ok-second.ensures in
    let third = c.in_ok-third.ensures in
    let some = c.if-first-eq0.false in
    let begins = digit_more bytes 2 _ _ (digit_more bytes 1 _ _ (one_digit bytes _ first.0 first.1) second.0 second.1) third.0 third.1 in
    marked_found bytes 3 _ c.args.mark c.requires begins c.if-value-gt-MOST_BYTE.false (omega arith)
    (λ zero. absurd (some (omega (arith, first.1, zero)))) (c.is_at-3.ensures.0 c.if-is_at-3.true)

pub returns-then-is_at-3-clause-only : goal.returns-then-is_at-3-clause-only
returns-then-is_at-3-clause-only c =
    let bytes = c.args.bytes.now in
    let first = c.in_ok-first.ensures in
    let second = c.in_ok-second.ensures in
    let third = c.in_ok-third.ensures in
    let begins = digit_more bytes 2 _ _ (digit_more bytes 1 _ _ (one_digit bytes _ first.0 first.1) second.0 second.1) third.0 third.1 in
    marked_only bytes 3 _ c.args.mark c.requires begins (c.is_at-3.ensures.0 c.if-is_at-3.true)

pub returns-clause-only : goal.returns-clause-only
returns-clause-only c = λ number rest at_most is.
    let bytes = c.args.bytes.now in
    let first = c.in_ok-first.ensures in
    let second = c.in_ok-second.ensures in
    let third = c.in_ok-third.ensures in
    let some = c.if-first-eq0.false in
    let begins = digit_more bytes 2 _ _ (digit_more bytes 1 _ _ (one_digit bytes _ first.0 first.1) second.0 second.1) third.0 third.1 in
    absurd (three_digits bytes _ c.args.mark c.requires begins (omega (arith, some))
    (λ at. let yes = c.is_at-3.ensures.1 at in let isnt = c.if-is_at-3.false in absurd (cc)) number rest at_most is)
