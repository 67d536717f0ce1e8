use Rattle.std.proofs.Common.{sym, subst, refl, []}
use Rattle.host_activations.specs.ByHash.{AreKept}
use Rattle.host_activations.proofs.Changes.{none_are}
use Rattle.host_activations.proofs.activations.Activations.new.Goals as goal

pub invariant_of-result : goal.invariant_of-result
invariant_of-result c =
    subst (λ l. AreKept c.hashing.result 1 l (record { asking = 0; closing = 0 }) c.new-2.result.items c.new-3.result.entries)
    (sym c.new.ensures)
    (subst (λ l. AreKept c.hashing.result 1 [] (record { asking = 0; closing = 0 }) c.new-2.result.items l) (sym c.new-3.ensures.empty)
    (record { begun = none_are; under_way = refl; are_hashes = c.new-2.ensures.items; by_hash = λ key index. (λ e. cc, λ e. cc) }))
