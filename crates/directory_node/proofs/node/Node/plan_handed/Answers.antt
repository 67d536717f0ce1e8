use Rattle.std.proofs.Common.{ℕ, List, sym, subst}
use Rattle.std.proofs.lemmas.Result.{IfOk-weaker}
use Rattle.silo_address.specs.Silo.{Silo}
use Rattle.seal_snapshot.specs.Shelf.{IsDigestFor}
use Rattle.node_plans.specs.Plans.{Fits}
use Rattle.node_plans.specs.declared.plan.Change.{Change}
use Rattle.directory_node.proofs.node.Node.plan_handed.Goals as goal

pub returns-clause-fits : goal.returns-clause-fits
returns-clause-fits c =
    let node = c.args.self.now in
    let version = c.args.letter.now.version in
    let to = c.args.letter.now.from in
    let told = subst (λ (d : List ℕ). IsDigestFor version c.args.range to node.shelf d) (sym c.digest-digest.ensures) c.requires.digest in
    let handed = subst (λ (t : Silo). IsDigestFor version c.args.range t node.shelf c.digest-digest.result) (sym c.from-to.ensures) told in
    let its = subst (λ (v : ℕ). IsDigestFor v c.args.range c.from-to.result node.shelf c.digest-digest.result) (sym c.version-version.ensures) handed in
    IfOk-weaker c.of_one.result _ _ (λ plan change. subst (λ (ch : Change). Fits ch node) (sym change) its) c.of_one.ensures.change
