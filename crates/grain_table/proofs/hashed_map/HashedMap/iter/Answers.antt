use Rattle.std.proofs.Common.{◌∙◌, ap}
use Rattle.grain_table.specs.Buckets.{joined}
use Rattle.grain_table.proofs.hashed_map.HashedMap.iter.Goals as goal

pub returns : goal.returns
returns c = c.of.ensures ∙ ap joined c.deref.ensures.value ∙ c.self.view_is
