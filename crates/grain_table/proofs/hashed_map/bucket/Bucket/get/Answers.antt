use Rattle.std.proofs.Common.{◌∙◌, ap}
use Rattle.std.specs.BTreeMap.{is_at}
use Rattle.std.specs.Map.{lookup}
use Rattle.std.specs.Prelude.{Some}
use Rattle.grain_table.specs.Hashed.{hashed_cmp}
use Rattle.grain_table.proofs.Searched.{get_nowhere, get_there}
use Rattle.grain_table.proofs.hashed_map.bucket.Bucket.get.Goals as goal

pub returns-then-stands_at : goal.returns-then-stands_at
returns-then-stands_at c =
    ap Some c.activation.ensures
    ∙ get_there c.args.key.now c.self.inside.slots.items c.self.invariant c.deref.result.now c.deref-2.result.now c.deref.ensures.value
    c.deref-2.ensures.value c.index_of-index.result c.index_of-index.ensures.split c.stands_at.result c.stands_at.ensures.first
    c.stands_at.ensures.within c.if-stands_at.true c.index.result.now c.index.ensures
    ∙ ap (lookup (is_at (hashed_cmp c.args.key.now))) c.self.view_is

pub returns : goal.returns
returns c =
    get_nowhere c.args.key.now c.self.inside.slots.items c.self.invariant c.deref.result.now c.deref-2.result.now c.deref.ensures.value
    c.deref-2.ensures.value c.index_of-index.result c.index_of-index.ensures.split c.stands_at.result c.stands_at.ensures.first
    c.if-stands_at.false
    ∙ ap (lookup (is_at (hashed_cmp c.args.key.now))) c.self.view_is
