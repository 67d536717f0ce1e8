use Rattle.std.proofs.Common.{◌≡◌, ◌+◌, sym, ap, subst, ◌∙◌, cond, swap_remove, None, arith}
use Rattle.std.specs.Map.{lookup}
use Rattle.std.specs.BTreeMap.{is_at}
use Rattle.std.specs.Prelude.{slice_get}
use Rattle.host_activations.specs.ByHash.{hashed_count_cmp}
use Rattle.host_activations.proofs.Changes.{Gives, gives_out}
use Rattle.host_activations.proofs.Hashes.{ended_hashes, has_hash, its_key}
use Rattle.host_activations.proofs.Indexed.{at_some, ended_by_hash, none_gone, still_there}
use Rattle.host_activations.specs.UnderWay.{in_phase, one_if}
use Rattle.host_activations.proofs.PhaseCounts.{phase_out}
use Rattle.host_activations.proofs.activations.take_out.Goals as goal

pub returns-in_default-clause-gone : goal.returns-in_default-clause-gone
returns-in_default-clause-gone c = none_gone c.args.map.now c.args.grain.now (sym c.in_default.ensures.value)

pub returns-in_default-clause-one : goal.returns-in_default-clause-one
returns-in_default-clause-one c = λ test. omega arith

pub returns-clause-one : goal.returns-clause-one
returns-clause-one c =
    let new : c.swap_remove.new.self ≡ swap_remove c.args.map.now c.in-Some.index (c.args.grain.now, c.in-Some.held) =
    at_some _ (λ e. c.swap_remove.new.self ≡ swap_remove c.args.map.now c.in-Some.index e) (slice_get c.args.map.now c.in-Some.index)
    (c.args.grain.now, c.in-Some.held) c.in-Some.ensures.entry c.swap_remove.ensures in
    λ test. ap (λ l. in_phase test l + one_if (test c.in-Some.held.phase)) new
    ∙ phase_out test c.args.map.now c.in-Some.index (c.args.grain.now, c.in-Some.held) c.in-Some.ensures.entry

pub hash_at-requires : goal.hash_at-requires
hash_at-requires c =
    has_hash c.args.hashing c.args.map.now c.args.hashes.now.items c.requires.hashes c.in-Some.index _ c.in-Some.ensures.entry

pub note_index-requires : goal.note_index-requires
note_index-requires c =
    let key = its_key c.args.hashing c.args.map.now c.args.hashes.now.items c.requires.hashes c.in-Some.index _ c.in-Some.ensures.entry c.hash_at.result c.hash_at.ensures in
    let new : c.swap_remove.new.self ≡ swap_remove c.args.map.now c.in-Some.index (c.args.grain.now, c.in-Some.held) =
    at_some _ (λ e. c.swap_remove.new.self ≡ swap_remove c.args.map.now c.in-Some.index e) (slice_get c.args.map.now c.in-Some.index)
    (c.args.grain.now, c.in-Some.held) c.in-Some.ensures.entry c.swap_remove.ensures in
    record {
      hashes =
          ended_hashes c.args.hashing c.args.map.now c.args.hashes.now.items c.requires.hashes c.in-Some.index
          (c.args.grain.now, c.in-Some.held) c.in-Some.ensures.entry c.swap_remove.new.self new _ c.swap_remove-2.new.self.items
          c.swap_remove-2.ensures.items;
      there =
          still_there c.args.hashing c.args.map.now c.args.by_hash.now.entries c.requires.by_hash c.in-Some.index
          (c.args.grain.now, c.in-Some.held) c.in-Some.ensures.entry c.swap_remove.new.self new c.remove.new.self.entries
          (λ q. c.remove.ensures.updates.0 q ∙ ap (λ k. cond (is_at (hashed_count_cmp k) q) None
          (lookup (is_at (hashed_count_cmp q)) c.args.by_hash.now.entries)) key);
    }

pub returns-clause-gone : goal.returns-clause-gone
returns-clause-gone c =
    let new : c.swap_remove.new.self ≡ swap_remove c.args.map.now c.in-Some.index (c.args.grain.now, c.in-Some.held) =
    at_some _ (λ e. c.swap_remove.new.self ≡ swap_remove c.args.map.now c.in-Some.index e) (slice_get c.args.map.now c.in-Some.index)
    (c.args.grain.now, c.in-Some.held) c.in-Some.ensures.entry c.swap_remove.ensures in
    subst (λ l. Gives c.args.grain.now None c.args.map.now l) (sym new)
    (gives_out c.args.map.now c.apart.ensures c.in-Some.index (c.args.grain.now, c.in-Some.held) c.in-Some.ensures.entry)

pub returns-clause-by_hash : goal.returns-clause-by_hash
returns-clause-by_hash c =
    let key = its_key c.args.hashing c.args.map.now c.args.hashes.now.items c.requires.hashes c.in-Some.index _ c.in-Some.ensures.entry c.hash_at.result c.hash_at.ensures in
    let new : c.swap_remove.new.self ≡ swap_remove c.args.map.now c.in-Some.index (c.args.grain.now, c.in-Some.held) =
    at_some _ (λ e. c.swap_remove.new.self ≡ swap_remove c.args.map.now c.in-Some.index e) (slice_get c.args.map.now c.in-Some.index)
    (c.args.grain.now, c.in-Some.held) c.in-Some.ensures.entry c.swap_remove.ensures in
    ended_by_hash c.args.hashing c.args.map.now c.args.by_hash.now.entries c.requires.by_hash c.in-Some.index
    (c.args.grain.now, c.in-Some.held) c.in-Some.ensures.entry c.swap_remove.new.self new c.remove.new.self.entries
    (λ q. c.remove.ensures.updates.0 q ∙ ap (λ k. cond (is_at (hashed_count_cmp k) q) None
    (lookup (is_at (hashed_count_cmp q)) c.args.by_hash.now.entries)) key)
    c.note_index.new.by_hash.entries c.note_index.ensures

pub returns-clause-hashes : goal.returns-clause-hashes
returns-clause-hashes c =
    let new : c.swap_remove.new.self ≡ swap_remove c.args.map.now c.in-Some.index (c.args.grain.now, c.in-Some.held) =
    at_some _ (λ e. c.swap_remove.new.self ≡ swap_remove c.args.map.now c.in-Some.index e) (slice_get c.args.map.now c.in-Some.index)
    (c.args.grain.now, c.in-Some.held) c.in-Some.ensures.entry c.swap_remove.ensures in
    ended_hashes c.args.hashing c.args.map.now c.args.hashes.now.items c.requires.hashes c.in-Some.index (c.args.grain.now, c.in-Some.held)
    c.in-Some.ensures.entry c.swap_remove.new.self new _ c.swap_remove-2.new.self.items c.swap_remove-2.ensures.items
