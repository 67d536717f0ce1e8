use Rattle.std.proofs.Common.{refl, sym, ap, ◌∙◌, ◌+◌, length}
use Rattle.std.specs.Prelude.{filter, not}
use Rattle.std.proofs.lemmas.List.Filters.{length-filter_both}
use Rattle.silo_address.specs.declared.ActivationId.{ActivationId}
use Rattle.ring_range.specs.Range.{holds}
use Rattle.hash_ring.specs.Hash.{hash_grain}
use Rattle.grain_table.specs.declared.hashed_grain.HashedGrain.{HashedGrain}
use Rattle.grain_table.specs.Hashed.{Hashed}
use Rattle.grain_table.proofs.table.count.count_hashed_into.Goals as goal

pub entries-init : goal.entries-init
entries-init c =
    c.len-count.ensures
    ∙ sym (length-filter_both (λ (e : HashedGrain × ActivationId). holds c.args.range.now (hash_grain c.args.hashing e.0.grain))
    (λ e. not (holds c.args.range.now (hash_grain c.args.hashing e.0.grain))) (λ e. refl) c.args.map.now)
    ∙ ap (λ (rest : Hashed). length (filter (λ e. holds c.args.range.now (hash_grain c.args.hashing e.0.grain)) c.args.map.now) + length
    (filter (λ e. not (holds c.args.range.now (hash_grain c.args.hashing e.0.grain))) rest))
    (sym (c.into_iter-key-iterator.ensures.into_iter_gives ∙ c.iter-key-items.ensures))
