use Rattle.std.proofs.Common.{◌∙◌, ap, set, subst, sym}
use Rattle.std.specs.BTreeMap.{insert_entry}
use Rattle.std.specs.List.{insert}
use Rattle.std.specs.List.Sorted.{IsStrictlySortedBy}
use Rattle.std.specs.Map.{keys_of}
use Rattle.texts.proofs.Entries.{sorted-insert_entry}
use Rattle.grain_table.specs.Hashed.{Hashed, hashed_cmp}
use Rattle.grain_table.proofs.Order.{hashed_cmp_total}
use Rattle.grain_table.proofs.Searched.{insert_between, insert_there}
use Rattle.grain_table.proofs.hashed_map.bucket.Bucket.insert.Goals as goal

pub invariant_of-self : goal.invariant_of-self
invariant_of-self c =
    subst (λ (es : Hashed). IsStrictlySortedBy hashed_cmp (keys_of es))
    (sym
    (ap (set c.self.inside.slots.items c.index_of-index.result) c.in_ok-slot.ensures
    ∙ insert_there c.args.key.now c.self.inside.slots.items c.self.invariant c.deref.result.now c.deref-2.result.now c.deref.ensures.value
    c.deref-2.ensures.value c.index_of-index.result c.index_of-index.ensures.split c.stands_at.result c.stands_at.ensures.first
    c.stands_at.ensures.within c.if-stands_at.true c.args.activation))
    (sorted-insert_entry hashed_cmp_total c.args.key.now c.args.activation c.self.inside.slots.items c.self.invariant)

pub returns-then-stands_at-clause-entries : goal.returns-then-stands_at-clause-entries
returns-then-stands_at-clause-entries c =
    ap (set c.self.inside.slots.items c.index_of-index.result) c.in_ok-slot.ensures
    ∙ insert_there c.args.key.now c.self.inside.slots.items c.self.invariant c.deref.result.now c.deref-2.result.now c.deref.ensures.value
    c.deref-2.ensures.value c.index_of-index.result c.index_of-index.ensures.split c.stands_at.result c.stands_at.ensures.first
    c.stands_at.ensures.within c.if-stands_at.true c.args.activation
    ∙ ap (λ (es : Hashed). insert_entry hashed_cmp es c.args.key.now c.args.activation) c.self.view_is

pub invariant_of-self-2 : goal.invariant_of-self-2
invariant_of-self-2 c =
    subst (λ (es : Hashed). IsStrictlySortedBy hashed_cmp (keys_of es))
    (sym
    (c.in_ok-insert.ensures.items ∙ (λ i. insert (c.make_room.ensures i) c.index_of-index.result (c.in_ok-slot.ensures i))
    ∙ insert_between c.args.key.now c.self.inside.slots.items c.self.invariant c.deref.result.now c.deref-2.result.now
    c.deref.ensures.value c.deref-2.ensures.value c.index_of-index.result c.index_of-index.ensures.split c.stands_at.result
    c.stands_at.ensures.first c.if-stands_at.false c.args.activation))
    (sorted-insert_entry hashed_cmp_total c.args.key.now c.args.activation c.self.inside.slots.items c.self.invariant)

pub returns-clause-entries : goal.returns-clause-entries
returns-clause-entries c =
    c.in_ok-insert.ensures.items ∙ (λ i. insert (c.make_room.ensures i) c.index_of-index.result (c.in_ok-slot.ensures i))
    ∙ insert_between c.args.key.now c.self.inside.slots.items c.self.invariant c.deref.result.now c.deref-2.result.now
    c.deref.ensures.value c.deref-2.ensures.value c.index_of-index.result c.index_of-index.ensures.split c.stands_at.result
    c.stands_at.ensures.first c.if-stands_at.false c.args.activation
    ∙ ap (λ (es : Hashed). insert_entry hashed_cmp es c.args.key.now c.args.activation) c.self.view_is
