-- Phases and states of the code as those of dumps.
use Rattle.dump_rules.specs.Dump as dump
use Rattle.dump_rules.specs.Dump.{DumpPhase, DumpState}
use Rattle.dumps.specs.declared.dump.ListedPhase.{ListedPhase}
use Rattle.dumps.specs.declared.dump.ListedPhase.TheVariants.{Asking, Firm, Closing}
use Rattle.dumps.specs.declared.dump.ListedState.{ListedState}
use Rattle.dumps.specs.declared.dump.ListedState.TheVariants.{Settled, Awaiting, Recovering}

abbrev pub phase_of : ListedPhase → DumpPhase
phase_of Asking = dump.Asking
phase_of Firm = dump.Firm
phase_of Closing = dump.Closing

abbrev pub state_of : ListedState → DumpState
state_of Settled = dump.Settled
state_of Awaiting = dump.Awaiting
state_of Recovering = dump.Recovering
