use Rattle.std.proofs.Common.{◌∙◌, ap}
use Rattle.std.specs.Prelude.{filter}
use Rattle.hash_ring.specs.Hash.{hash_grain}
use Rattle.ring_range.specs.Range.{holds}
use Rattle.silo_address.specs.declared.ActivationId.{ActivationId}
use Rattle.grain_table.specs.declared.hashed_grain.HashedGrain.{HashedGrain}
use Rattle.grain_table.proofs.StillCut.{kept_are, kept_entries, kept_most}
use Rattle.grain_table.proofs.hashed_map.HashedMap.keep_hashed_into.Goals as goal

pub count-self-inside-requires : goal.count-self-inside-requires
count-self-inside-requires c =
    kept_most (λ e. holds c.args.range.now (hash_grain c.args.hashing e.0.grain)) c.self.inside.cuts.items c.self.inside.buckets.items
    c.keep_each_hashed_into.new.buckets.items
    c.self.inside.len c.self.invariant c.keep_each_hashed_into.ensures c.deref.result.now c.deref.ensures.value

pub invariant_of-self : goal.invariant_of-self
invariant_of-self c =
    kept_are (λ e. holds c.args.range.now (hash_grain c.args.hashing e.0.grain)) c.self.inside.cuts.items c.self.inside.buckets.items
    c.keep_each_hashed_into.new.buckets.items
    c.self.inside.len c.self.invariant c.keep_each_hashed_into.ensures c.deref.result.now c.deref.ensures.value c.count-self-inside.result
    c.count-self-inside.ensures

pub returns : goal.returns
returns c =
    let test = λ (e : HashedGrain × ActivationId). holds c.args.range.now (hash_grain c.args.hashing e.0.grain) in
    kept_entries test c.self.inside.cuts.items c.self.inside.buckets.items c.keep_each_hashed_into.new.buckets.items c.self.inside.len
    c.self.invariant c.keep_each_hashed_into.ensures
    ∙ ap (filter test) c.self.view_is
