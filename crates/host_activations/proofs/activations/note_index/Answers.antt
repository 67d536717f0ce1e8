use Rattle.std.proofs.Common.{sym, subst, ◌≡◌}
use Rattle.std.specs.Prelude.{⊤, MatchOption, IsSome, Some, if◌then◌else◌}
use Rattle.std.specs.Map.{lookup}
use Rattle.std.specs.BTreeMap.{is_at}
use Rattle.host_activations.specs.declared.by_hash.HashedCount.{HashedCount}
use Rattle.host_activations.specs.ByHash.{hashed_count_cmp, key_of}
use Rattle.host_activations.proofs.Hashes.{has_hash, its_key}
use Rattle.host_activations.proofs.activations.note_index.Goals as goal

pub hash_at-requires : goal.hash_at-requires
hash_at-requires c = has_hash c.args.hashing c.args.map.now c.args.hashes.now.items c.requires.hashes c.args.index _ (sym c.in-Some.ensures)

pub move_to-requires : goal.move_to-requires
move_to-requires c =
    let key = its_key c.args.hashing c.args.map.now c.args.hashes.now.items c.requires.hashes c.args.index _ (sym c.in-Some.ensures) c.hash_at.result c.hash_at.ensures in
    subst (λ k. IsSome (lookup (is_at (hashed_count_cmp k)) c.args.by_hash.now.entries)) (sym key)
    (subst (λ o. MatchOption o ⊤ (λ e. IsSome (lookup (is_at (hashed_count_cmp (key_of c.args.hashing e))) c.args.by_hash.now.entries)))
    (sym c.in-Some.ensures) c.requires.there)

pub returns-in-Some : goal.returns-in-Some
returns-in-Some c =
    let key = its_key c.args.hashing c.args.map.now c.args.hashes.now.items c.requires.hashes c.args.index _ (sym c.in-Some.ensures) c.hash_at.result c.hash_at.ensures in
    let old = c.args.by_hash.now.entries in
    let new = c.move_to.new.by_hash.entries in
    subst (λ o. MatchOption o (new ≡ old) (λ e. (q : HashedCount)
    → lookup (is_at (hashed_count_cmp q)) new ≡ (if is_at (hashed_count_cmp (key_of c.args.hashing e)) q then Some c.args.index else
    lookup (is_at (hashed_count_cmp q)) old))) c.in-Some.ensures
    (subst (λ k. (q : HashedCount) → lookup (is_at (hashed_count_cmp q)) new
    ≡ (if is_at (hashed_count_cmp k) q then Some c.args.index else lookup (is_at (hashed_count_cmp q)) old)) key c.move_to.ensures)
