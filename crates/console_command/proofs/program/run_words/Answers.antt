use Rattle.std.proofs.Common.{map}
use Rattle.console_command.proofs.Explained.{explained_in_turn, is_explained}
use Rattle.console_command.proofs.program.run_words.Goals as goal

pub returns-in-Err-clause-does : goal.returns-in-Err-clause-does
returns-in-Err-clause-does g c =
    c.explain.ensures.does (map g.S.AsStr.text c.args.words.now) c.in-Err.ensures.reads (g.R.Source.remaining c.args.source.now)

pub returns-in-Err-clause-calls : goal.returns-in-Err-clause-calls
returns-in-Err-clause-calls g c =
    is_explained g.R.Source.reads g.W.Sink.writes c.args.source.now c.args.output.now c.explain.new.output c.explain.result
    c.explain.ensures.calls

pub returns-in-Ok-clause-does : goal.returns-in-Ok-clause-does
returns-in-Ok-clause-does g c = c.run_line.ensures.does (map g.S.AsStr.text c.args.words.now) c.in-Ok.ensures.reads

pub returns-in-Err-clause-in_turn : goal.returns-in-Err-clause-in_turn
returns-in-Err-clause-in_turn g c =
    explained_in_turn g.R.Source.reads g.W.Sink.writes (map g.S.AsStr.text c.args.words.now) c.args.source.now c.args.output.now
    c.explain.new.output c.explain.result c.explain.ensures.calls

pub returns-in-Ok-clause-in_turn : goal.returns-in-Ok-clause-in_turn
returns-in-Ok-clause-in_turn g c = c.run_line.ensures.in_turn (map g.S.AsStr.text c.args.words.now) c.in-Ok.ensures.reads
