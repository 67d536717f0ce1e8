use Rattle.std.proofs.Common.{◌∙◌, List, ap, subst, sym}
use Rattle.std.proofs.lemmas.Result.{err_from_is_err_and}
use mathlib.Core.List.{IsPrefix}
use Rattle.directory_rules.specs.State.{World}
use Rattle.cluster_board.specs.Board.{BoardValue}
use Rattle.cluster_board.specs.Commits.{Declines}
use Rattle.cluster_journal.specs.Entry.{EntryValue}
use Rattle.cluster_journal.specs.Journal.{world_of}
use Rattle.cluster_journal.proofs.Beginnings.{its_world}
use Rattle.silo_workers.specs.SoFar.{TallyValue}
use Rattle.silo_workers.proofs.Deliveries.{committed, nothing_more, one_more}
use Rattle.silo_workers.proofs.tally.Tally.commit.Goals as goal

-- nothing was committed, but the journal was seen
pub invariant_of-self : goal.invariant_of-self
invariant_of-self g c =
    let before = c.self.inside in
    let commit = c.commit in
    let is_now = commit.ensures.seen ∙ ap (λ (b : BoardValue). b.journal) c.in_err-receipt.ensures.unchanged in
    let goes_on : IsPrefix before.hand.seen commit.new.hand.seen = subst (IsPrefix before.hand.seen) (sym is_now) commit.ensures.behind in
    nothing_more g.L.Charter.settings before.silo before.hand.seen commit.new.hand.seen before.hand.share.parts commit.new.hand.share.parts
    before.hand.share.amount commit.new.hand.share.amount before.receipts.items
    c.self.invariant goes_on commit.ensures.parts c.in_err-receipt.ensures.not_counted

-- its receipt is behind those before
pub invariant_of-self-2 : goal.invariant_of-self-2
invariant_of-self-2 g c =
    let settings = g.L.Charter.settings in
    let before = c.self.inside in
    let board = c.args.board.now in
    let commit = c.commit in
    let after = commit.new.self in
    let told = c.in_ok-receipt.ensures in
    let its = c.requires.its ∙ sym (ap (λ (t : TallyValue). t.silo) c.self.view_is) in
    let receipt = c.in_ok-receipt.receipt in
    let delivered = committed settings before.silo before.hand.seen board.journal commit.new.hand.seen board.world after.world c.args.prepared receipt before.receipts.items
    c.self.invariant.delivered commit.ensures.behind (commit.ensures.seen ∙ ap (λ (b : BoardValue). b.journal) told.journaled)
    (its_world settings board.journal board.world c.journaled.ensures)
    (ap (λ (l : List EntryValue). world_of settings l) commit.ensures.seen
    ∙ its_world settings after.journal after.world c.journaled-2.ensures)
    told.current.mailed its told.told told.event told.number in
    one_more settings before.silo before.hand.seen commit.new.hand.seen before.hand.share.parts commit.new.hand.share.parts
    before.hand.share.amount commit.new.hand.share.amount
    before.receipts.items c.push_reserved.new.self.items receipt
    c.self.invariant commit.ensures.parts told.counted delivered c.push_reserved.ensures.items

-- a refusal is by the world of what was seen then
pub returns-in_err-receipt-clause-declined : goal.returns-in_err-receipt-clause-declined
returns-in_err-receipt-clause-declined g c =
    let settings = g.L.Charter.settings in
    let board = c.args.board.now in
    let is_now = c.commit.ensures.seen ∙ ap (λ (b : BoardValue). b.journal) c.in_err-receipt.ensures.unchanged in
    let world_is = ap (λ (l : List EntryValue). world_of settings l) is_now ∙ its_world settings board.journal board.world c.journaled.ensures in
    let p = err_from_is_err_and c.from_residual.result c.from_residual.ensures.1 in
    rw (p.1, p.2) (subst (λ (w : World). Declines w c.args.prepared c.in_err-receipt.field-0.0.refusal) (sym world_is)
    c.in_err-receipt.ensures.declined)
