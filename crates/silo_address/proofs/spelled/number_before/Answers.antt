use Rattle.std.proofs.Common.{arith}
use Rattle.silo_address.proofs.FrontLaws.{goes_on}
use Rattle.silo_address.proofs.spelled.number_before.Goals as goal

pub returns-in_err-number-clause-only : goal.returns-in_err-number-clause-only
returns-in_err-number-clause-only c = λ number rest at_most is.
    let goes = goes_on c.args.most number c.args.mark c.args.bytes.now rest (omega arith) c.requires at_most is in
    absurd (c.in_err-number.ensures goes.first)
