-- Bytes that are looked at one after another, each of them visible.
use Rattle.std.proofs.Common.{arith, ◌≡◌, ℕ, ◌+◌, ◌<◌, ◌≤◌, suc, ap, ◌∙◌, ◌++◌, ◌∷◌, [], List, length, take, get_or, refl, take_all}
use Rattle.std.specs.Prelude.{◌↔◌, ◌&&◌, Bool, true, false, Some, All, IsTrue}
use Rattle.std.proofs.Math.Seq.{take-suc}
use Rattle.std.proofs.lemmas.List.Elements.{All-more, All-pop}
use Rattle.silo_address.specs.Grain.{IsVisible}

longer : (text : List ℕ) (i : ℕ) → i < length text → take (i + 1) text ≡ take i text ++ get_or text i 0 ∷ []
longer text i below = let next : i + 1 ≡ suc i = omega arith in ap (λ n. take n text) next ∙ take-suc text i 0 below

-- one more
pub visible_more : (all one : Bool) (text : List ℕ) (i : ℕ) → i < length text
    → (IsTrue all ↔ All IsVisible (take i text)) → (IsTrue one ↔ IsVisible (get_or text i 0))
    → IsTrue (all && one) ↔ All IsVisible (take (i + 1) text)
visible_more true one text i below before here = (
  λ both. All-more IsVisible text i 0 below (before.0 refl) (here.0 both),
  λ more. here.1 (All-pop IsVisible (take (i + 1) text) (take i text) (Some (get_or text i 0)) (longer text i below) more).1,
)
visible_more false one text i below before here = (
  λ both. absurd (cc),
  λ more. before.1 (All-pop IsVisible (take (i + 1) text) (take i text) (Some (get_or text i 0)) (longer text i below) more).0,
)

-- all of them
pub visible_whole : (all : Bool) (text : List ℕ) (i : ℕ) → length text ≤ i → (IsTrue all ↔ All IsVisible (take i text))
    → IsTrue all ↔ All IsVisible text
visible_whole all text i over before = rw (take_all i text over) at before
