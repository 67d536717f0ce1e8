use Rattle.std.proofs.Common.{◌≡◌, ◌++◌, length}
use Rattle.std.specs.Prelude.{flat_map}
use Rattle.directory_rules.specs.Sent.{request_letters}
use Rattle.node_plans.specs.Sender.{sending}
use Rattle.node_plans.proofs.senders.Sender.send_requests.Given as goal

-- what was sent, and the letters of the requests still to come, are all letters
abbrev pub invariant-loop-request : goal.invariant-loop-request
invariant-loop-request l =
    l.letters.items ++ flat_map (λ e. request_letters (sending l.self) e.0 e.1) l.rest ≡ l.fn.letters.items ++ flat_map
    (λ e. request_letters (sending l.self) e.0 e.1) l.requests

abbrev pub decreases-loop-request : goal.decreases-loop-request
decreases-loop-request l = length l.rest
