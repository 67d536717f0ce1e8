use Rattle.std.proofs.Common.{◌≡◌, ◌+◌, ◌≤◌, fold, take, length, vec_len, vec_capacity}
use Rattle.directory_rules.specs.Recovery.{with_reported}
use Rattle.range_recovery.specs.Gathered.{without_grains}
use Rattle.range_recovery.proofs.gather.gather_each.Given as goal

abbrev pub invariant-loop-entry : goal.invariant-loop-entry
invariant-loop-entry l = record {
  gathered : l.gathered.entries ≡ fold with_reported l.fn.gathered.entries (take l.entry-index l.entries);
  noted : without_grains l.new.items l.gathered.entries ≡ without_grains l.fn.new.items l.fn.gathered.entries;
  room : vec_len l.new + length l.entries ≤ vec_capacity l.new + l.entry-index;
}
