use Rattle.std.proofs.Common.{◌∙◌, ap, sym}
use Rattle.std.specs.Box.{boxed_slice_items}
use Rattle.std.specs.Cmp.Lexicographic.{slice_cmp}
use Rattle.std.specs.Ordering.{is_gt, nat_cmp}
use Rattle.silo_address.specs.ReadGrain.{grain_at_slash}
use Rattle.grain_table.specs.Buckets.{is_before}
use Rattle.grain_table.specs.Hashed.{text_cmp}
use Rattle.grain_table.proofs.Slots.{apart_before, same_hash, text_order}
use Rattle.grain_table.proofs.hashed_map.slot.Slot.is_before.Goals as goal

pub returns-then-self-hash : goal.returns-then-self-hash
returns-then-self-hash c =
    sym
    (apart_before c.args.key.now.hash c.self.inside.hash
    (text_cmp c.args.key.now.grain (grain_at_slash (boxed_slice_items c.self.inside.text)))
    c.if-self-hash.true)
    ∙ ap (is_before c.args.key.now) c.self.view_is

pub returns : goal.returns
returns c =
    let text = boxed_slice_items c.self.inside.text in
    c.is_gt.ensures
    ∙ ap is_gt
    (c.cmp.ensures ∙ ap (slice_cmp nat_cmp c.as_bytes.result.now) c.as_slice.ensures.value
    ∙ text_order c.args.key.now.grain c.in_range.ensures c.as_bytes.result.now c.as_bytes.ensures.text text c.self.invariant
    ∙ sym (same_hash c.args.key.now.hash c.self.inside.hash (text_cmp c.args.key.now.grain (grain_at_slash text)) c.if-self-hash.false))
    ∙ ap (is_before c.args.key.now) c.self.view_is
