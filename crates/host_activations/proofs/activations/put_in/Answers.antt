use Rattle.std.proofs.Common.{ap, ◌∙◌}
use Rattle.std.specs.Map.{lookup}
use Rattle.host_activations.proofs.Grains.{tests_alike}
use Rattle.host_activations.proofs.Indexed.{undone}
use Rattle.host_activations.proofs.activations.put_in.Goals as goal

pub put-requires : goal.put-requires
put-requires c = record { new = ap (λ test. lookup test c.args.map.now) (tests_alike c.args.grain.now) ∙ c.requires }

pub returns-in-Err-clause-same_map : goal.returns-in-Err-clause-same_map
returns-in-Err-clause-same_map c =
    undone c.args.map.now c.put.new.self c.swap_remove.new.self _ c.len-last.result c.len-last.ensures c.in_ok-put.ensures.put
    c.swap_remove.ensures
