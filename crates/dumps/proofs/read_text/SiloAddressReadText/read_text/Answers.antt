use Rattle.dump_rules.specs.Values.{silo_in}
use Rattle.dumps.proofs.MembersTold.{text_if}
use Rattle.dumps.proofs.read_text.SiloAddressReadText.read_text.Goals as goal

pub returns : goal.returns
returns c = text_if silo_in (λ x. x) _ _ _ _ c.silo.result c.in_ok-text.ensures c.as_slice.ensures.value c.silo.ensures.read
