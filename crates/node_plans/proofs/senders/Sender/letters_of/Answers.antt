use Rattle.std.proofs.Common.{ap, ◌∙◌, ◌++◌}
use Rattle.std.specs.Prelude.{flat_map}
use Rattle.directory_rules.specs.Sent.{request_letters}
use Rattle.node_plans.specs.Sender.{sending}
use Rattle.node_plans.proofs.senders.Sender.letters_of.Goals as goal

pub returns : goal.returns
returns c =
    c.in_ok-send_requests.ensures ∙ ap (λ l. l ++ flat_map (λ e. request_letters (sending c.args.self.now) e.0 e.1) c.args.requests.now)
    c.new-letters.ensures.items
