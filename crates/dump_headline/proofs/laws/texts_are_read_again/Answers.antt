use Rattle.dump_headline.proofs.Read.{text_read, text_judged}
use Rattle.dump_headline.proofs.laws.texts_are_read_again.Goals as goal

pub returns : goal.returns
returns c = record { read = text_read; judged = text_judged }
