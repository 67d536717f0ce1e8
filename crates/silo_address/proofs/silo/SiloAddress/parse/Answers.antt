use Rattle.std.proofs.Common.{sym}
use Rattle.silo_address.proofs.SiloCases.{silo_clauses, silo_only}
use Rattle.silo_address.proofs.silo.SiloAddress.parse.Goals as goal

pub returns-in-Some : goal.returns-in-Some
returns-in-Some c =
    let reads = sym (silo_only c.args.text.now _ c.in-Some.ensures.found.0 c.in-Some.ensures.found.1) in
    let all = silo_clauses _ _ reads in
    record {
      reads = reads;
      found = all.found;
      only = all.only;
      shape = all.shape;
      not_a_number = all.not_a_number;
      out_of_range = all.out_of_range;
    }

pub returns-in-None : goal.returns-in-None
returns-in-None c =
    let reads = c.fault_of.ensures in
    let all = silo_clauses _ _ reads in
    record {
      reads = reads;
      found = all.found;
      only = all.only;
      shape = all.shape;
      not_a_number = all.not_a_number;
      out_of_range = all.out_of_range;
    }
