use Rattle.std.proofs.Common.{[], false, refl}
use Rattle.line_loop.specs.Calls.{no_call, no_read, no_text}
use Rattle.silo_rules.specs.SiloValue.{first_silo}
use Rattle.console_command.proofs.Written.{answers_in_turn, nothing_answered, writes_answers}
use Rattle.console_command.proofs.silo_play.play_new_silo.Goals as goal

pub returns-in_default-clause-writes : goal.returns-in_default-clause-writes
returns-in_default-clause-writes g c =
    nothing_answered c.args.settings c.args.silo c.args.token (g.R.Source.remaining c.args.reader.now) (g.W.Sink.contents c.args.writer.now)

pub returns-in_default-clause-calls : goal.returns-in_default-clause-calls
returns-in_default-clause-calls g c = (no_read, no_text)

pub returns-in_default-clause-in_turn : goal.returns-in_default-clause-in_turn
returns-in_default-clause-in_turn g c = ([], [], false, no_call)

pub returns-clause-writes : goal.returns-clause-writes
returns-clause-writes g c =
    writes_answers c.args.settings c.args.silo c.args.token _ _ (g.R.Source.remaining c.args.reader.now) _ _ _ c.play.result refl
    c.in-Ok.ensures c.play.ensures.ends

pub returns-clause-in_turn : goal.returns-clause-in_turn
returns-clause-in_turn g c =
    answers_in_turn g.R.Source.reads g.W.Sink.writes _ _ c.args.token (first_silo c.args.settings c.args.silo) _ c.play.result refl
    c.in-Ok.ensures c.play.ensures.in_turn
