use Rattle.std.proofs.Common.{refl}
use Rattle.dump_rules.proofs.Opened.{all_opened}
use Rattle.dump_rules.proofs.worked_texts.no_values.Goals as goal

pub returns : goal.returns
unfolding all_opened
returns c = record { no_bytes = refl; no_json = refl; two_values = refl; comma_at_end = refl; no_utf8 = refl }
