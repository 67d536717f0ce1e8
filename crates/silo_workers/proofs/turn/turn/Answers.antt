use Rattle.std.proofs.Common.{◌∙◌, subst, sym}
use Rattle.std.proofs.lemmas.Result.{err_from_is_err_and}
use Rattle.silo_address.specs.Silo.{Silo}
use Rattle.silo_workers.specs.Endings.{Ends}
use Rattle.silo_workers.proofs.turn.turn.Goals as goal

-- there was no job
pub returns-in_err-job-clause-ended : goal.returns-in_err-job-clause-ended
returns-in_err-job-clause-ended g c =
    let settings = g.L.Charter.settings in
    let seen = c.make_room.new.self.seen in
    let p = err_from_is_err_and c.from_residual.result c.from_residual.ensures.1 in
    rw (p.1, p.2) (subst (λ (s : Silo). Ends settings s seen c.in_err-job.field-0.0)
    (c.silo-silo.ensures ∙ sym c.make_room.ensures.silo)
    (c.in_err-job.ensures settings seen))
