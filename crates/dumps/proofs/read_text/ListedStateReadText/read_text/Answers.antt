use Rattle.dump_rules.specs.DumpIn.{state_in}
use Rattle.dumps.specs.DumpModel.{state_of}
use Rattle.dumps.proofs.MembersTold.{text_if}
use Rattle.dumps.proofs.read_text.ListedStateReadText.read_text.Goals as goal

pub returns : goal.returns
returns c = text_if state_in state_of _ _ _ _ c.state.result c.in_ok-text.ensures c.as_slice.ensures.value c.state.ensures.read
