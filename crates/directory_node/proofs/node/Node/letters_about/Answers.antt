use Rattle.std.proofs.Common.{◌∙◌}
use Rattle.std.specs.Prelude.{flat_map}
use Rattle.std.proofs.lemmas.Result.{IfOk-weaker}
use Rattle.directory_rules.specs.Host.{renewed_about, requests_about}
use Rattle.directory_rules.specs.Sent.{request_letters}
use Rattle.node_plans.proofs.Alike.{bare_requests}
use Rattle.directory_node.proofs.node.Node.letters_about.Goals as goal

pub returns : goal.returns
returns c =
    let node = c.args.self.now in
    IfOk-weaker c.letters_of.result _ _
    (λ letters sent. sent
    ∙ (λ i. flat_map (λ e. request_letters (c.sender.ensures i) e.0 e.1) ((c.deref.ensures.value ∙ c.in_ok-requests.ensures) i))
    ∙ bare_requests node (requests_about c.args.grain.now (renewed_about c.args.grain.now node.host)))
    c.letters_of.ensures
