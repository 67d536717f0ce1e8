use Rattle.std.proofs.Common.{◌∙◌, ap, sym}
use Rattle.std.specs.Box.{boxed_slice_items}
use Rattle.std.specs.BTreeMap.{is_at}
use Rattle.std.specs.Cmp.Lexicographic.{slice_cmp}
use Rattle.std.specs.Ordering.{is_eq, nat_cmp}
use Rattle.silo_address.specs.ReadGrain.{grain_at_slash}
use Rattle.silo_address.specs.declared.ActivationId.{ActivationId}
use Rattle.grain_table.specs.declared.hashed_grain.HashedGrain.{HashedGrain}
use Rattle.grain_table.specs.Hashed.{hashed_cmp, text_cmp}
use Rattle.grain_table.proofs.Slots.{apart_under, same_hash, text_order}
use Rattle.grain_table.proofs.hashed_map.slot.Slot.is_under.Goals as goal

pub returns-then-self-hash : goal.returns-then-self-hash
returns-then-self-hash c =
    sym
    (apart_under c.args.key.now.hash c.self.inside.hash
    (text_cmp c.args.key.now.grain (grain_at_slash (boxed_slice_items c.self.inside.text)))
    c.if-self-hash.true)
    ∙ ap (λ (e : HashedGrain × ActivationId). is_at (hashed_cmp c.args.key.now) e.0) c.self.view_is

pub returns : goal.returns
returns c =
    let text = boxed_slice_items c.self.inside.text in
    c.is_eq.ensures
    ∙ ap is_eq
    (c.cmp.ensures ∙ ap (slice_cmp nat_cmp c.as_bytes.result.now) c.as_slice.ensures.value
    ∙ text_order c.args.key.now.grain c.in_range.ensures c.as_bytes.result.now c.as_bytes.ensures.text text c.self.invariant
    ∙ sym (same_hash c.args.key.now.hash c.self.inside.hash (text_cmp c.args.key.now.grain (grain_at_slash text)) c.if-self-hash.false))
    ∙ ap (λ (e : HashedGrain × ActivationId). is_at (hashed_cmp c.args.key.now) e.0) c.self.view_is
