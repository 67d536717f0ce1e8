use Rattle.dump_rules.specs.Values.{activation_in}
use Rattle.dumps.proofs.MembersTold.{text_if}
use Rattle.dumps.proofs.read_text.ActivationIdReadText.read_text.Goals as goal

pub returns : goal.returns
returns c =
    text_if activation_in (λ x. x) _ _ _ _ c.activation.result c.in_ok-text.ensures c.as_slice.ensures.value c.activation.ensures.read
