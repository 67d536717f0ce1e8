use Rattle.std.proofs.Common.{◌≡◌, ◌++◌, drop}
use Rattle.silo_address.specs.Silo.{Silo}
use Rattle.grain_partition.specs.BySilo.{arcs_under, given_by}
use Rattle.grain_partition.proofs.by_silo.given_arcs.Given as goal

-- each silo's arcs so far, and then those to come
abbrev pub invariant-arcs : goal.invariant-arcs
invariant-arcs l = (silo : Silo) → arcs_under silo l.given.entries ++ given_by silo (drop l.arc-index l.arcs) ≡ given_by silo l.arcs
