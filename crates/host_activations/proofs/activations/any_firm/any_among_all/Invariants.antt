use Rattle.std.proofs.Common.{drop, ◌≡◌}
use Rattle.host_activations.specs.Listing.{asked_for}
use Rattle.host_activations.proofs.activations.any_firm.any_among_all.Given as goal

-- those that are left have all that is asked for
abbrev pub invariant-loop-index : goal.invariant-loop-index
invariant-loop-index l = asked_for l.asked (drop l.index l.held) ≡ asked_for l.asked l.held
