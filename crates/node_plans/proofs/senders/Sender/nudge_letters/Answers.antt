use Rattle.std.proofs.Common.{ap, ◌∙◌, ◌++◌}
use Rattle.std.specs.Prelude.{flat_map}
use Rattle.directory_rules.specs.Sent.{request_letters, wants_of}
use Rattle.node_plans.specs.Sender.{sending}
use Rattle.node_plans.proofs.senders.Sender.nudge_letters.Goals as goal

pub returns : goal.returns
returns c =
    let node = sending c.args.self.now in
    c.in_ok-send_wants.ensures
    ∙ (λ i. (c.in_ok-send_requests.ensures ∙ ap (λ l. l ++ flat_map (λ e. request_letters node e.0 e.1) c.args.requests.now)
    c.new-letters.ensures.items) i ++ wants_of node (c.pieces.ensures.rest i))
