use Rattle.std.proofs.Common.{ap, ◌∙◌}
use Rattle.hash_ring.specs.declared.Hashing.{Hashing}
use Rattle.hash_ring.specs.Hash.{hash_grain}
use Rattle.host_activations.proofs.Hashes.{has_hash, is_hash}
use Rattle.host_activations.proofs.activations.Activations.hash_of.Goals as goal

pub hash_at-requires : goal.hash_at-requires
hash_at-requires c =
    has_hash c.self.inside.hashing c.self.inside.map c.self.inside.hashes.items c.self.invariant.are_hashes c.in-Some.index _
    c.in-Some.ensures.entry

pub returns-in-Some : goal.returns-in-Some
returns-in-Some c =
    is_hash c.self.inside.hashing c.self.inside.map c.self.inside.hashes.items c.self.invariant.are_hashes c.in-Some.index _
    c.in-Some.ensures.entry c.hash_at.result c.hash_at.ensures
    ∙ ap (λ (h : Hashing). hash_grain h c.args.grain.now) (c.same.ensures.0 c.if-same.true)
