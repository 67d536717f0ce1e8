use Rattle.dump_rules.specs.Values.{from_in}
use Rattle.dumps.proofs.MembersTold.{text_if}
use Rattle.dumps.proofs.read_text.OptionSiloAddressReadText.read_text.Goals as goal

pub returns : goal.returns
returns c = text_if from_in (λ x. x) _ _ _ _ c.from.result c.in_ok-text.ensures c.as_slice.ensures.value c.from.ensures.read
