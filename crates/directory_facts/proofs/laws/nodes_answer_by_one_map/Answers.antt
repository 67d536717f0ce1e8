use Rattle.directory_facts.proofs.OneMap.{nodes_have_one_map, nodes_answer_by_one_map}
use Rattle.directory_facts.proofs.laws.nodes_answer_by_one_map.Goals as goal

pub returns : goal.returns
returns c = record { one_map = nodes_have_one_map; answers = nodes_answer_by_one_map }
