use Rattle.std.proofs.Common.{ap, sym, ◌∙◌}
use Rattle.texts.specs.Numeral.{read_number}
use Rattle.texts.proofs.Cuts.{rest_from}
use Rattle.silo_address.specs.StatedHash.{number_in, stated_hash}
use Rattle.silo_address.proofs.StatedLaws.{stated_hash-behind, stated_hash-none, stated_hash-only, stated_hash-spelled}
use Rattle.silo_address.proofs.grain.GrainId.stated_hash.Goals as goal

pub returns-in_err-start : goal.returns-in_err-start
returns-in_err-start c =
    let reads = c.from_residual.ensures ∙ sym (stated_hash-none _ c.in_err-start.ensures) ∙ ap stated_hash c.key-key.ensures in
    record {
      reads = reads;
      found = rw c.from_residual.ensures tt;
      only = λ hash before small spelled. reads ∙ stated_hash-only _ before hash small spelled;
    }

pub returns-in-Ok : goal.returns-in-Ok
returns-in-Ok c =
    let reads = ap number_in (c.in-Ok.ensures.reads ∙ ap (read_number 4294967295) (rest_from _ c.in_ok-start.start)) ∙ sym (stated_hash-behind _ c.in_ok-start.start c.in_ok-start.ensures) ∙ ap stated_hash c.key-key.ensures in
    let spelled = stated_hash-spelled _ c.in_ok-start.start c.in-Ok.hash c.in_ok-start.ensures (sym (rest_from _ c.in_ok-start.start) ∙ c.in-Ok.ensures.found.1) in
    record {
      reads = reads;
      found = (spelled.0, sym c.key-key.ensures ∙ spelled.1);
      only = λ hash before small spelled. reads ∙ stated_hash-only _ before hash small spelled;
    }

pub returns-in-Err : goal.returns-in-Err
returns-in-Err c =
    let reads = ap number_in (c.in-Err.ensures.reads ∙ ap (read_number 4294967295) (rest_from _ c.in_ok-start.start)) ∙ sym (stated_hash-behind _ c.in_ok-start.start c.in_ok-start.ensures) ∙ ap stated_hash c.key-key.ensures in
    record {
      reads = reads;
      found = tt;
      only = λ hash before small spelled. reads ∙ stated_hash-only _ before hash small spelled;
    }
