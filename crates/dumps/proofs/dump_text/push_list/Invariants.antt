use Rattle.std.proofs.Common.{◌≡◌, ◌++◌, take, map}
use Rattle.std.specs.List.{join_with_byte}
use Rattle.dump_rules.specs.Dump.{comma}
use Rattle.dumps.proofs.dump_text.push_list.Given as goal

abbrev pub invariant-loop-index : goal.invariant-loop-index
invariant-loop-index g l = l.out.items ≡ l.initial.out.items ++ join_with_byte comma (map g.T.WriteJson.json (take l.index l.items))
