use Rattle.console_command.proofs.LinesPlayed.{script_in_turn, script_written}
use Rattle.console_command.proofs.cluster_play.play.Goals as goal

pub returns-clause-ends : goal.returns-clause-ends
returns-clause-ends g c = script_written _ _ (g.R.Source.remaining c.args.reader.now) _ _ _ c.play.result c.play.ensures.ends

pub returns-clause-in_turn : goal.returns-clause-in_turn
returns-clause-in_turn g c = script_in_turn g.R.Source.reads g.W.Sink.writes _ _ _ c.play.result c.play.ensures.in_turn
