use Rattle.std.proofs.Common.{ap, ◌∙◌, ◌++◌}
use Rattle.std.specs.Prelude.{flat_map}
use Rattle.directory_rules.specs.Sent.{request_letters, survey_letters}
use Rattle.node_plans.specs.Sender.{asks_of, sending}
use Rattle.node_plans.proofs.senders.Sender.sight_letters.Goals as goal

pub returns : goal.returns
returns c =
    let node = sending c.args.self.now in
    let asked = c.in_ok-send_asks.ensures ∙ ap (λ l. l ++ asks_of node c.args.pieces.now.entries) c.new-letters.ensures.items in
    c.in_ok-send_requests.ensures
    ∙ ap (λ l. l ++ flat_map (λ e. request_letters node e.0 e.1) c.args.requests.now)
    (c.in_ok-send_surveys.ensures ∙ (λ i. asked i ++ survey_letters node ((c.deref.ensures.value ∙ c.in_ok-ranges.ensures) i)))
