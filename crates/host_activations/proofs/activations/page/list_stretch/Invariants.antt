use Rattle.host_activations.proofs.Stretches.{AreListed}
use Rattle.host_activations.proofs.activations.page.list_stretch.Given as goal

-- what was passed is listed, and nothing else
abbrev pub invariant-stretch : goal.invariant-stretch
invariant-stretch l = AreListed l.asked l.held l.fn.stretch l.fn.firm.items l.key-iterator l.last l.firm.items
