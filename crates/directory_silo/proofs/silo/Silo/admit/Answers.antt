use Rattle.std.proofs.Common.{sym, subst}
use Rattle.directory_rules.specs.Membership.{Join, Membership}
use Rattle.silo_rules.specs.Whole.{IsWhole}
use Rattle.silo_rules.proofs.Whole.{change_kept}
use Rattle.directory_silo.specs.SiloModel.{silo_of}
use Rattle.directory_silo.proofs.silo.Silo.admit.Goals as goal
use Rattle.directory_silo.proofs.silo.Silo.admit.Goals.{in-Ok, in-Err}

pub invariant_of-self : goal.invariant_of-self
invariant_of-self c =
    elim c.match-join.branch [
      | in-Ok w ↦ change_kept (silo_of c.self.inside) (Join c.args.silo c.args.places.now) _ c.settings-settings.result
          c.settings-settings.ensures c.self.invariant w.in-Ok.ensures.made
      | in-Err w ↦ subst (λ (m : Membership). IsWhole (record (silo_of c.self.inside) { membership = m })) (sym w.in-Err.ensures.unchanged)
          c.self.invariant
    ]
