use Rattle.std.proofs.Common.{◌≡◌, subst, sym}
use Rattle.std.specs.Prelude.{Ok}
use Rattle.directory_rules.specs.ListedModel.{all_listed_of}
use Rattle.silo_rules.specs.SiloValue.{SiloValue}
use Rattle.silo_rules.specs.Begun.{told_view}
use Rattle.silo_rules.proofs.Begun.{begins_whole}
use Rattle.directory_silo.specs.SiloModel.{silo_of}
use Rattle.directory_silo.proofs.silo.Silo.begins.Goals as goal

pub invariant_of-self : goal.invariant_of-self
invariant_of-self c =
    let s = silo_of c.self.inside in
    let rows = all_listed_of c.args.rows.now in
    begins_whole s s.node.host.silo c.args.version rows c.in_ok-begun.begun c.self.invariant
    (subst (λ (t : SiloValue). told_view t.node.settings t.membership t.node.host.silo c.args.version rows ≡ Ok c.in_ok-begun.begun)
    (sym c.self.view_is) c.in_ok-begun.ensures.begun)
