-- The places of a silo's points under Sha256, one after another.
use Rattle.std.proofs.Common.{◌≡◌, ℕ, ◌+◌, List, [], ◌∷◌, ◌++◌, sym, ◌∙◌, ap, arith}
use Rattle.std.proofs.lemmas.List.FromFn.{map-range_with_len_more}
use Rattle.silo_address.specs.Silo.{Silo}
use Rattle.hash_ring.specs.Hash.{hash_text, point_text, hashed_places}

pub hashed_more : (silo : Silo) (points : ℕ) (xs : List ℕ) (place : ℕ) → xs ≡ hashed_places points silo
    → place ≡ hash_text (point_text silo points)
    → xs ++ place ∷ [] ≡ hashed_places (points + 1) silo
hashed_more silo points xs place so_far is =
    ap (λ l. l ++ place ∷ []) so_far
    ∙ ap (λ p. hashed_places points silo ++ p ∷ []) is
    ∙ sym (map-range_with_len_more (λ index. hash_text (point_text silo index)) 0 points points (omega arith))
