use Rattle.std.proofs.Common.{rules}
use Rattle.directory_core.proofs.Made.{first_kept}
use Rattle.directory_core.proofs.world.World.new.Goals as goal

pub invariant_of-result : goal.invariant_of-result
invariant_of-result c = record {
  world =
      first_kept c.args.settings c.new.result c.new-2.result.entries c.new-3.result c.in_range.ensures c.new.ensures (search rules)
      (search rules);
  shared = tt;
}
