use Rattle.dump_rules.specs.DumpIn.{hashing_in}
use Rattle.dumps.proofs.MembersTold.{text_if}
use Rattle.dumps.proofs.read_text.HashingReadText.read_text.Goals as goal

pub returns : goal.returns
returns c = text_if hashing_in (λ x. x) _ _ _ _ c.hashing.result c.in_ok-text.ensures c.as_slice.ensures.value c.hashing.ensures.read
