use Rattle.std.proofs.Common.{drop, ◌≡◌, ◌++◌}
use Rattle.host_activations.specs.Listing.{asked_for}
use Rattle.host_activations.proofs.activations.page.firm_among_all.Given as goal

-- with those that are left, all are listed
abbrev pub invariant-loop-index : goal.invariant-loop-index
invariant-loop-index l = l.firm.items ++ asked_for l.asked (drop l.index l.held) ≡ asked_for l.asked l.held
