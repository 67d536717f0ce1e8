use Rattle.std.proofs.Common.{ap, sym, ◌∙◌, List}
use Rattle.std.proofs.lemmas.Result.{IfOk-weaker}
use Rattle.directory_rules.specs.State.{World}
use Rattle.script_rules.specs.Output.{sync_events}
use Rattle.cluster_journal.specs.Entry.{EntryValue}
use Rattle.cluster_journal.specs.Journal.{world_of}
use Rattle.cluster_journal.proofs.Beginnings.{its_world}
use Rattle.silo_threads.proofs.sync.sights_now.Goals as goal

-- the world is that of the journal, which the hand has seen now
pub returns-clause-sights : goal.returns-clause-sights
returns-clause-sights g c =
    let board = c.renew.new.self in
    let world_is = c.world.ensures ∙ (sym (its_world g.L.Charter.settings board.journal board.world c.journaled.ensures) ∙ ap (λ (l : List EntryValue). world_of g.L.Charter.settings l) (ap (λ b. b.journal) c.renew.ensures.unchanged ∙ sym c.renew.ensures.front)) in
    IfOk-weaker c.sights.result _ _ (λ events are. are ∙ ap (λ (w : World). sync_events w) world_is) c.sights.ensures
