use Rattle.std.proofs.Common.{◌≡◌, ◌+◌, ◌++◌, ◌<◌, length}
use Rattle.std.specs.List.{AllByRecursion, enumerate_from}
use Rattle.std.specs.Map.{keys_of, values_of}
use Rattle.host_activations.proofs.outstanding.about.renumbered.Given as goal

-- with what is left, under the numbers from the next one on, it is all
abbrev pub invariant-loop-asked : goal.invariant-loop-asked
invariant-loop-asked l = record {
  so_far : l.renewed.entries ++ enumerate_from l.number l.asked-iterator ≡ enumerate_from l.first (values_of l.requests.entries);
  below : AllByRecursion (λ k. k < l.number) (keys_of l.renewed.entries);
  counted : l.number + length l.asked-iterator ≡ l.first + length l.requests.entries;
}
