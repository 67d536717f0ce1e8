use Rattle.std.proofs.Common.{sym, ◌∙◌}
use Rattle.silo_address.proofs.GrainCases.{grain_clauses, read_grain_cut, read_grain_other}
use Rattle.silo_address.proofs.grain.GrainId.parse.Goals as goal

pub returns-in-Some : goal.returns-in-Some
returns-in-Some c =
    let reads = c.within.ensures ∙ sym (read_grain_cut c.args.text.now c.in-Some.ensures.0) in
    let all = grain_clauses _ _ reads in
    record { reads = reads; found = all.found; only = all.only; shape = all.shape; too_long = all.too_long; byte = all.byte }

pub returns-in-None : goal.returns-in-None
returns-in-None c =
    let reads = sym (read_grain_other c.args.text.now c.in-None.ensures) in
    let all = grain_clauses _ _ reads in
    record { reads = reads; found = all.found; only = all.only; shape = all.shape; too_long = all.too_long; byte = all.byte }
