use Rattle.std.proofs.Common.{◌≡◌}
use Rattle.std.specs.List.{AllByRecursion}
use Rattle.host_activations.specs.ByHash.{IsUnder}
use Rattle.host_activations.specs.Listing.{asked_for}
use Rattle.host_activations.specs.Stretch.{standing_at}
use Rattle.host_activations.proofs.activations.any_firm.any_in_stretch.Given as goal

-- those that are left have all that is asked for
abbrev pub invariant-stretch : goal.invariant-stretch
invariant-stretch l = record {
  whole : asked_for l.asked (standing_at l.held l.key-iterator) ≡ asked_for l.asked (standing_at l.held l.fn.stretch);
  under : AllByRecursion (IsUnder l.asked.hashing l.held) l.key-iterator;
}
