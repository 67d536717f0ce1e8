-- How the fields of a host mean the rule's host.
use Rattle.host_activations.specs.declared.host.Host.TheInside.{Inside}
use Rattle.directory_rules.specs.State.{Host}
use Rattle.host_activations.specs.Asked.{finds_in}
use Rattle.host_activations.specs.IsHost.{IsHost}

-- the host that the fields mean
abbrev pub host_of : Inside → Host
host_of h = record {
  silo = h.silo;
  next_number = h.next_number;
  next_count = h.held.next_count;
  held = h.held.entries;
  finds = finds_in h.outstanding.entries;
}

-- what the fields keep
abbrev pub IsWhole : Inside → Type 0
IsWhole h = IsHost h.next_number h.held.entries h.outstanding.entries
