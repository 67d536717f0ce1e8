use Rattle.std.proofs.Common.{◌≡◌, ◌++◌, map}
use Rattle.dump_rules.specs.Dump.{dump_row}
use Rattle.directory_core.proofs.rows.listed_rows.Given as goal

abbrev pub invariant-loop-silo : goal.invariant-loop-silo
invariant-loop-silo l =
    l.rows.items ++ map (λ e. dump_row l.world.places e.0 e.1) l.silo-iterator ≡ map (λ e. dump_row l.world.places e.0 e.1)
    l.world.views.rows
