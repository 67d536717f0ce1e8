use Rattle.dump_rules.specs.DumpIn.{phase_in}
use Rattle.dumps.specs.DumpModel.{phase_of}
use Rattle.dumps.proofs.MembersTold.{text_if}
use Rattle.dumps.proofs.read_text.ListedPhaseReadText.read_text.Goals as goal

pub returns : goal.returns
returns c = text_if phase_in phase_of _ _ _ _ c.phase.result c.in_ok-text.ensures c.as_slice.ensures.value c.phase.ensures.read
