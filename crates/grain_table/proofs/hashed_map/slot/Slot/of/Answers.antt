use Rattle.std.proofs.Common.{◌∙◌}
use Rattle.std.specs.Box.{boxed_slice_items}
use Rattle.grain_table.proofs.Slots.{grain_again, is_text}
use Rattle.grain_table.proofs.hashed_map.slot.Slot.of.Goals as goal

pub invariant_of-result : goal.invariant_of-result
invariant_of-result c =
    is_text (boxed_slice_items c.in_ok-text.text) c.args.key.now.grain c.in_range.ensures
    (c.in_ok-text.ensures.ok ∙ c.as_bytes.ensures.text)

pub returns : goal.returns
returns c =
    λ i. (
      record {
        hash = c.args.key.now.hash;
        grain = grain_again (boxed_slice_items c.in_ok-text.text) c.args.key.now.grain c.in_range.ensures
            (c.in_ok-text.ensures.ok ∙ c.as_bytes.ensures.text) i;
      },
      c.args.activation,
    )
