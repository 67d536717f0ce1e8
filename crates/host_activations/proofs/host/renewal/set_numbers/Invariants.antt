use Rattle.std.proofs.Common.{◌≡◌}
use Rattle.host_activations.specs.Renewal.{with_numbers}
use Rattle.host_activations.proofs.host.renewal.set_numbers.Given as goal

-- with the requests that are left, the activations are those with all numbers
abbrev pub invariant-loop-number : goal.invariant-loop-number
invariant-loop-number l = record {
  all : with_numbers l.number-iterator l.held.entries ≡ with_numbers l.numbered.entries l.initial.held.entries;
  count : l.held.next_count ≡ l.initial.held.next_count;
}
