use Rattle.std.proofs.Common.{refl}
use Rattle.dump_rules.specs.Values.{grain_in}
use Rattle.dumps.proofs.MembersTold.{text_if}
use Rattle.dumps.proofs.read_text.LentGrainReadText.read_text.Goals as goal

pub returns : goal.returns
returns c = text_if grain_in (λ x. x) _ _ _ _ c.grain.result c.in_ok-text.ensures refl c.grain.ensures.read
