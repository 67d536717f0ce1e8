use Rattle.std.proofs.Common.{◌≡◌, subst, ap, ◌∙◌, List, length}
use Rattle.std.specs.Prelude.{OnErr}
use Rattle.std.proofs.lemmas.Result.{IfOk-weaker}
use Rattle.directory_rules.specs.State.{Letter, Node}
use Rattle.directory_rules.specs.Sent.{request_letters}
use Rattle.node_plans.proofs.Alike.{bare_request}
use Rattle.directory_node.proofs.node.Node.request_letters.Goals as goal

pub returns-clause-sent : goal.returns-clause-sent
returns-clause-sent c =
    let its = ap (λ (n : Node). request_letters n c.args.number c.args.act) c.sender.ensures ∙ bare_request c.args.self.now c.args.number c.args.act in
    IfOk-weaker c.request_letters.result _ _ (λ letters sent. sent ∙ its) c.request_letters.ensures.sent

pub returns-clause-one : goal.returns-clause-one
returns-clause-one c =
    let its = ap (λ (n : Node). request_letters n c.args.number c.args.act) c.sender.ensures ∙ bare_request c.args.self.now c.args.number c.args.act in
    subst (λ (l : List Letter). OnErr c.request_letters.result (length l ≡ 1)) its c.request_letters.ensures.one
