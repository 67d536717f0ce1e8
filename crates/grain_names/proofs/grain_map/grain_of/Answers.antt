use Rattle.std.proofs.Common.{◌∙◌}
use Rattle.std.specs.Box.{boxed_str_bytes}
use Rattle.silo_address.specs.ReadGrain.{grain_at_slash}
use Rattle.grain_names.proofs.grain_map.grain_of.Goals as goal

pub unreachable-requires : goal.unreachable-requires
unreachable-requires c =
    let is = c.in-Err.ensures.only (grain_at_slash (boxed_str_bytes c.args.name.now)) c.requires.is_grain (c.as_bytes.ensures.value ∙ c.as_str.ensures.value ∙ c.requires.spelled) in
    cc

pub returns : goal.returns
returns c =
    let is = c.in-Ok.ensures.only (grain_at_slash (boxed_str_bytes c.args.name.now)) c.requires.is_grain (c.as_bytes.ensures.value ∙ c.as_str.ensures.value ∙ c.requires.spelled) in
    cc
