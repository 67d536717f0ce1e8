-- What the comparisons of `GrainId` owe.
use Rattle.std.specs.Prelude.{◌≡◌, [], ◌∷◌, ◌++◌, IsTrue}
use Rattle.std.proofs.lemmas.Bool.Decides.{Decides-and}
use Rattle.std.proofs.lemmas.Slice.Eq.{bytes_eq-Decides}
use Rattle.silo_address.specs.Marks.{slash}
use Rattle.silo_address.specs.Grain.{Grain, grain_eq, grain_text}

-- equal grains are hashed by the same write
pub equal_texts : (a b : Grain) → IsTrue (grain_eq a b) → (grain_text a ∷ []) ≡ (grain_text b ∷ [])
equal_texts a b equal =
    let parts = (Decides-and _ _ (bytes_eq-Decides a.kind b.kind) (bytes_eq-Decides a.key b.key)).0 equal in
    λ i. (parts.0 i ++ slash ∷ parts.1 i) ∷ []
