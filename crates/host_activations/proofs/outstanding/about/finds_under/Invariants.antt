use Rattle.std.proofs.Common.{◌≡◌, ◌++◌, map}
use Rattle.host_activations.specs.declared.asked.OutstandingRequest.TheVariants.{Find}
use Rattle.host_activations.proofs.outstanding.about.finds_under.Given as goal

-- with those that are left, all are listed
abbrev pub invariant-finds : goal.invariant-finds
invariant-finds l =
    l.listed.entries ++ map (λ x. (x.0.number, Find l.grain)) l.key-iterator ≡ map (λ x. (x.0.number, Find l.grain)) l.fn.finds
