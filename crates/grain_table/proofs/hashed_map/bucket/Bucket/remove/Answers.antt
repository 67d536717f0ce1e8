use Rattle.std.proofs.Common.{◌∙◌, ap, sym, subst}
use Rattle.std.specs.BTreeMap.{is_at}
use Rattle.std.specs.List.Sorted.{IsStrictlySortedBy}
use Rattle.std.specs.Map.{keys_of, remove_entry}
use Rattle.texts.proofs.Entries.{sorted-remove_entry}
use Rattle.grain_table.specs.Hashed.{Hashed, hashed_cmp}
use Rattle.grain_table.proofs.Searched.{remove_nothing, remove_there}
use Rattle.grain_table.proofs.hashed_map.bucket.Bucket.remove.Goals as goal

pub invariant_of-self : goal.invariant_of-self
invariant_of-self c =
    subst (λ (es : Hashed). IsStrictlySortedBy hashed_cmp (keys_of es))
    (sym
    (c.give_room_back.ensures ∙ c.remove.ensures.items
    ∙ remove_there c.args.key.now c.self.inside.slots.items c.self.invariant c.deref.result.now c.deref-2.result.now c.deref.ensures.value
    c.deref-2.ensures.value c.index_of-index.result c.index_of-index.ensures.split c.stands_at.result c.stands_at.ensures.first
    c.stands_at.ensures.within c.if-not-stands_at.false c.remove.result.1))
    (sorted-remove_entry (is_at (hashed_cmp c.args.key.now)) hashed_cmp c.self.inside.slots.items c.self.invariant)

pub returns-clause-entries : goal.returns-clause-entries
returns-clause-entries c =
    c.give_room_back.ensures ∙ c.remove.ensures.items
    ∙ remove_there c.args.key.now c.self.inside.slots.items c.self.invariant c.deref.result.now c.deref-2.result.now c.deref.ensures.value
    c.deref-2.ensures.value c.index_of-index.result c.index_of-index.ensures.split c.stands_at.result c.stands_at.ensures.first
    c.stands_at.ensures.within c.if-not-stands_at.false c.remove.result.1
    ∙ ap (remove_entry (is_at (hashed_cmp c.args.key.now))) c.self.view_is

pub returns-then-not-stands_at-clause-entries : goal.returns-then-not-stands_at-clause-entries
returns-then-not-stands_at-clause-entries c =
    sym c.self.view_is
    ∙ remove_nothing c.args.key.now c.self.inside.slots.items c.self.invariant c.deref.result.now c.deref-2.result.now c.deref.ensures.value
    c.deref-2.ensures.value c.index_of-index.result c.index_of-index.ensures.split c.stands_at.result c.stands_at.ensures.first
    c.if-not-stands_at.true
    ∙ ap (remove_entry (is_at (hashed_cmp c.args.key.now))) c.self.view_is
