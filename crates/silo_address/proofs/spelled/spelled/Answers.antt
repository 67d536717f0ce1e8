use Rattle.silo_address.proofs.SpelledLaws.{taken, taken_number, one_silo}
use Rattle.std.proofs.Common.{arith}
use Rattle.silo_address.proofs.spelled.spelled.Goals as goal

pub returns-clause-only : goal.returns-clause-only
returns-clause-only c = λ silo is spelled.
    let first = taken (c.in_ok-first.ensures.only _ _ (omega (arith, is.bytes 0)) spelled) in
    let second = taken (c.in_ok-second.ensures.only _ _ (omega (arith, is.bytes 1)) first.1) in
    let third = taken (c.in_ok-third.ensures.only _ _ (omega (arith, is.bytes 2)) second.1) in
    let fourth = taken (c.in_ok-fourth.ensures.only _ _ (omega (arith, is.bytes 3)) third.1) in
    let port = taken (c.in_ok-port.ensures.only _ _ (omega (arith, is.port_below)) fourth.1) in
    let generation = taken_number (c.in_ok-generation.ensures.only _ (omega (arith, is.generation_below)) port.1) in
    one_silo silo is _ first.0 second.0 third.0 fourth.0 port.0 generation c.from_parts.ensures
