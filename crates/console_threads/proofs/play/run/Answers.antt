use Rattle.std.proofs.Common.{◌≡◌, ◌∙◌, false, map, subst, sym}
use Rattle.directory_rules.specs.Settings.{Settings}
use Rattle.threaded_play.specs.CarriedOut.{AreCarriedOut}
use Rattle.console_threads.specs.Driven.{Puts}
use Rattle.script_lines.specs.CommandModel.{command_of}
use Rattle.threaded_play.specs.declared.ended.ThreadsEnded.TheVariants.{Lacking}
use Rattle.threaded_play.proofs.Nothing.{nothing_told}
use Rattle.console_threads.proofs.Entered.{closed_carries_out}
use Rattle.console_threads.proofs.play.run.Goals as goal

pub returns-in-Err-clause-told : goal.returns-in-Err-clause-told
returns-in-Err-clause-told g c = nothing_told g.E.Sink.writes g.E.Sink.contents Lacking c.args.errors.now

pub returns-in-Ok-clause-carried : goal.returns-in-Ok-clause-carried
returns-in-Ok-clause-carried g c =
    let driver = c.new-driver.result in
    let driven = c.drive.new.self in
    closed_carries_out c.args.settings c.close.result (map command_of c.args.commands.now) driver.hand.seen driven.hand.seen
    driver.receipts.items driven.receipts.items driven.lacks
    c.new-driver.ensures.none (c.new-driver.ensures.seen ∙ c.in-Ok.ensures.seen)
    (subst (λ (s : Settings). driven.lacks ≡ false → Puts
    (λ journal from to. AreCarriedOut s journal from to (map command_of c.args.commands.now)) driver.hand.seen driven.hand.seen
    driver.receipts.items driven.receipts.items)
    (sym c.requires.settings) c.drive.ensures)
    c.close.ensures.lacked_nothing c.close.ensures.seen c.close.ensures.beside
