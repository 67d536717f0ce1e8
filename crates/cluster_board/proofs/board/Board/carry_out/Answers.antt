use Rattle.std.proofs.Common.{◌≡◌, refl, sym, subst, ap, ◌∙◌}
use Rattle.directory_rules.specs.Event.{Deliver}
use Rattle.cluster_journal.specs.Entry.{EntryValue}
use Rattle.cluster_board.specs.Board.{BoardValue}
use Rattle.cluster_board.specs.Commits.{IsTaken}
use Rattle.cluster_board.specs.Work.{Work}
use Rattle.cluster_board.proofs.Boards.{delivered, with_fewer}
use Rattle.cluster_board.proofs.board.Board.carry_out.Goals as goal

pub deliver-requires-clause-taken : goal.deliver-requires-clause-taken
deliver-requires-clause-taken g c = subst (λ (b : BoardValue). IsTaken b.world c.args.job) (sym c.self.view_is) c.requires.taken

pub invariant_of-self-in-Ok-deliver : goal.invariant_of-self-in-Ok-deliver
invariant_of-self-in-Ok-deliver g c =
    let before = c.self.inside in
    let taken : IsTaken before.world c.args.job = subst (λ (b : BoardValue). IsTaken b.world c.args.job) (sym c.self.view_is) c.requires.taken in
    let told : c.entered-receipt.result.entry.event ≡ Deliver c.args.job.number = ap (λ (e : EntryValue). e.event) c.entered-receipt.ensures.entry ∙ c.in-Ok.ensures.other ∙ ap (λ (w : Work). Deliver w.number) c.job.view_is in
    delivered g.L.Charter.settings before.world c.deliver.new.world before.journal.items c.reserve.new.self.items
    c.entered-receipt.new.journal.items before.keeper before.keeper c.front.new.self before.book.total c.add.new.self.total
    before.marked.entries c.forget.new.marked.entries
    c.args.job c.to.result c.in-Ok-deliver.outcome c.entered-receipt.result.entry
    c.self.invariant c.reserve.ensures.items c.entered-receipt.ensures.journal refl
    (c.front.ensures.unchanged ∙ c.add-in-Ok-deliver.ensures) c.add.ensures.total told
    (ap (λ (e : EntryValue). e.outcome) c.entered-receipt.ensures.entry)
    c.forget.ensures.left taken.0 (c.to.ensures ∙ ap (λ (w : Work). w.letter.to) c.job.view_is) c.forget.ensures.gone
    c.in-Ok-deliver.ensures.told

pub invariant_of-self-in-Err-deliver : goal.invariant_of-self-in-Err-deliver
invariant_of-self-in-Err-deliver g c =
    let before = c.self.inside in
    with_fewer g.L.Charter.settings before.world c.deliver.new.world before.journal.items c.reserve.new.self.items before.keeper
    before.keeper before.book.total before.marked.entries c.forget.new.marked.entries
    c.self.invariant c.in-Err.ensures.unchanged c.reserve.ensures.items refl c.forget.ensures.left
