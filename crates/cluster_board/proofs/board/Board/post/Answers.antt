use Rattle.std.proofs.Common.{◌≡◌, ap, ◌∙◌}
use Rattle.directory_rules.specs.EventModel.{event_of}
use Rattle.cluster_board.proofs.Boards.{entered, with_fewer}
use Rattle.cluster_board.proofs.board.Board.post.Goals as goal

pub invariant_of-self-in_err-outcome : goal.invariant_of-self-in_err-outcome
invariant_of-self-in_err-outcome g c =
    let before = c.self.inside in
    with_fewer g.L.Charter.settings before.world c.apply.new.self before.journal.items c.reserve.new.self.items before.keeper
    c.renew.new.self before.book.total before.marked.entries c.forget_by.new.marked.entries
    c.self.invariant c.in_err-outcome.ensures.unchanged c.reserve.ensures.items c.renew.ensures.unchanged c.forget_by.ensures.left

pub invariant_of-self-2 : goal.invariant_of-self-2
invariant_of-self-2 g c =
    let before = c.self.inside in
    let told : c.entered-receipt.result.entry.event ≡ event_of c.args.event.now = ap (λ e. e.event) c.entered-receipt.ensures.entry ∙ c.in-Ok.ensures.other in
    entered g.L.Charter.settings before.world c.apply.new.self before.journal.items c.reserve.new.self.items
    c.entered-receipt.new.journal.items before.keeper c.renew.new.self c.front.new.self
    before.book.total c.add.new.self.total before.marked.entries c.forget_by.new.marked.entries
    (event_of c.args.event.now) c.in_ok-outcome.outcome c.entered-receipt.result.entry
    c.self.invariant c.reserve.ensures.items c.entered-receipt.ensures.journal c.renew.ensures.unchanged
    (c.front.ensures.unchanged ∙ c.add-2.ensures) c.add.ensures.total told (ap (λ e. e.outcome) c.entered-receipt.ensures.entry)
    c.forget_by.ensures.left c.forget_by.ensures.gone c.in_ok-outcome.ensures.told
