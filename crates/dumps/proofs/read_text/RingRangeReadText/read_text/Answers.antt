use Rattle.dump_rules.specs.Values.{range_in}
use Rattle.dumps.proofs.MembersTold.{text_if}
use Rattle.dumps.proofs.read_text.RingRangeReadText.read_text.Goals as goal

pub returns : goal.returns
returns c = text_if range_in (λ x. x) _ _ _ _ c.range.result c.in_ok-text.ensures c.as_slice.ensures.value c.range.ensures.read
