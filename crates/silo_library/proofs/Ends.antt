-- How the walk of `grain_directory_open_with_token` ends: what is left of its parameters, and the tokens of its lifetimes.
use Rattle.std.proofs.Common.{List, [], ◌∷◌}
use base.Fml.{ftrue}
use types.Kit.{Item, Goal, Step, step, ‵, ◌⊛◌, ◌$◌, move, drop, split3, join, group}
use types.Logic.{Logic}
use denote.Steps.{nothing}
use seplogic.Ra.Ura.{Ura}

-- what is left of seven parameters: nothing but of the last, which is the handle
pub left_of_seven : {M : Type 1} {𝓤 : Ura M} {𝓛 : Logic 𝓤} {K : Type 0} {X : Item 𝓤} {Γ : List (Item 𝓤)} {G : Goal 𝓤 𝓛.H} → K
    → Step K 𝓛 ((‵ ftrue ⊛ ‵ ftrue ⊛ ‵ ftrue ⊛ ‵ ftrue ⊛ ‵ ftrue ⊛ ‵ ftrue ⊛ X ⊛ ‵ ftrue) ∷ Γ) G (X ∷ Γ) G
left_of_seven t =
    step (λ s. nothing t $ move t (1 ∷ 0 ∷ []) $ join t $ nothing t $ join t $ nothing t $ join t $ nothing t $ join t $ nothing t $ join t
    $ nothing t $ join t $ nothing t $ join t $ s)

-- the tokens of two slices, kept as one, and that of the handle, with what is left of the parameters and the result
pub tokens_back : {M : Type 1} {𝓤 : Ura M} {𝓛 : Logic 𝓤} {K : Type 0} {A B C P R : Item 𝓤} {Γ : List (Item 𝓤)} {G : Goal 𝓤 𝓛.H} → K
    → Step K 𝓛 (((A ⊛ B ⊛ C ⊛ ‵ ftrue) ⊛ P ⊛ R) ∷ Γ) G (P ∷ C ∷ (A ⊛ B ⊛ ‵ ftrue) ∷ R ∷ Γ) G
tokens_back t =
    step (λ s. move t (2 ∷ []) $ split3 t $ move t (2 ∷ []) $ drop t $ nothing t $ move t (4 ∷ 0 ∷ []) $ join t $ move t (2 ∷ 0 ∷ []) $ join
    t $ move t (1 ∷ 0 ∷ []) $ join t $ group t 3 $ s)
