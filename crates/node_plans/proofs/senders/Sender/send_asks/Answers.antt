use Rattle.std.proofs.Common.{sym, ap, ◌∙◌, ◌++◌, append_assoc, append-nil}
use Rattle.directory_rules.specs.Sent.{asks_by}
use Rattle.node_plans.specs.Sender.{asks_of, sending}
use Rattle.node_plans.proofs.senders.Sender.send_asks.Goals as goal

pub loop-piece-init : goal.loop-piece-init
loop-piece-init c =
    ap (λ l. c.args.letters.now.items ++ asks_of (sending c.args.self.now) l) c.into_iter-piece-iterator.ensures.into_iter_gives.0

pub loop-piece-preserved : goal.loop-piece-preserved
loop-piece-preserved c =
    let node = sending c.args.self.now in
    let sent = c.loop-piece.letters.items in
    let piece = c.in-Some.piece.now in
    ap (λ l. l ++ asks_of node c.next.new.self) c.in_ok-send_asked.ensures
    ∙ append_assoc sent (asks_by piece.state node piece.range) (asks_of node c.next.new.self)
    ∙ ap (λ l. sent ++ asks_of node l) (sym c.in-Some.ensures.steps) ∙ c.loop-piece.invariant

pub returns : goal.returns
returns c =
    let sent = c.loop-piece.letters.items in
    sym (append-nil sent) ∙ ap (λ l. sent ++ asks_of (sending c.args.self.now) l) (sym c.in-None.ensures.steps.0) ∙ c.loop-piece.invariant
