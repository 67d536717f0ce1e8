-- A silo is chosen exactly if one is Active, and it is Active.
use Rattle.std.proofs.Common.{◌≡◌, ◌↔◌, ℕ, ◌<◌, ◌==◌, ◌%◌, nat_le, Bool, true, false, List, [], ◌∷◌, length, Option, Some, None, IsNone, IfSome, IsTrue, inl, inr, refl, sym, ◌∙◌, arith, if◌then◌else◌}
use Rattle.std.specs.List.{slice_get}
use Rattle.std.proofs.lemmas.Bool.{eqb-true}
use Rattle.std.proofs.lemmas.Option.{slice_get-get_or, slice_get_within, get_or_from_slice_get}
use Rattle.silo_address.specs.Silo.{Silo}
use Rattle.membership_view.specs.View.{ViewValue, IsByAddress, active_silos}
use Rattle.hash_ring.specs.Ring.{is_active_in}
use Rattle.hash_ring.proofs.Members.{In, In-from_place}
use Rattle.hash_ring.proofs.Advanced.{active_in, In-active}
use Rattle.directory_rules.specs.declared.Policy.{Policy}
use Rattle.directory_rules.specs.declared.Policy.TheVariants.{PreferLocal, HashBased, LeastHeld}
use Rattle.directory_rules.specs.Placement.{by_hash, by_least, count_of, fewer_of, silo_for}

-- what is chosen of some silos: one of them, if there is one
pub record IsChosenOf (silos : List Silo) (chosen : Option Silo) : Type 0 where
  pub none : IsNone chosen ↔ (silos ≡ [])
  pub one : IfSome chosen (λ silo. In silo silos)

abbrev at_hash : List Silo → ℕ → Option Silo
at_hash silos hash = if length silos == 0 then None else slice_get silos (hash % length silos)

in_at : (silos : List Silo) (index : ℕ) (silo : Silo) → slice_get silos index ≡ Some silo → In silo silos
in_at silos index silo at =
    In-from_place silo silos index (slice_get_within silos index silo at) (get_or_from_slice_get silos index silo silo at)

chosen_at : (silos : List Silo) (silo : Silo) (index : ℕ) → (o : Option Silo) → slice_get (silo ∷ silos) index ≡ o
    → index < length (silo ∷ silos) → IsChosenOf (silo ∷ silos) o
chosen_at silos silo index None at below = let found = slice_get-get_or (silo ∷ silos) index silo below in let no = sym at ∙ found in cc
chosen_at silos silo index (Some other) at below = record { none = (λ h. cc, λ h. cc); one = in_at (silo ∷ silos) index other at }

pub chosen_by_hash : (silos : List Silo) (hash : ℕ) → IsChosenOf silos (at_hash silos hash)
chosen_by_hash [] hash = record { none = (λ _. refl, λ _. refl); one = tt }
chosen_by_hash (silo ∷ silos) hash = by (length (silo ∷ silos) == 0) refl
  where
    by : (b : Bool) → (length (silo ∷ silos) == 0) ≡ b
        → IsChosenOf (silo ∷ silos) (if b then None else slice_get (silo ∷ silos) (hash % length (silo ∷ silos)))
    by true is = let none : length (silo ∷ silos) ≡ 0 = eqb-true _ _ is in absurd (omega arith)
    by false is =
        chosen_at silos silo (hash % length (silo ∷ silos)) (slice_get (silo ∷ silos) (hash % length (silo ∷ silos))) refl (omega arith)

module _ (counts : List (Silo × ℕ)) where
  among : (silo : Silo) (silos : List Silo) → (other : Option Silo) → IfSome other (λ s. In s silos)
      → In (fewer_of counts silo other) (silo ∷ silos)
  among silo silos None there = inl refl
  among silo silos (Some other) there = by (nat_le (count_of counts silo) (count_of counts other))
    where
      by : (b : Bool) → In (if b then silo else other) (silo ∷ silos)
      by true = inl refl
      by false = inr there

  pub chosen_by_least : (silos : List Silo) → IsChosenOf silos (by_least counts silos)
  chosen_by_least [] = record { none = (λ _. refl, λ _. refl); one = tt }
  chosen_by_least (silo ∷ silos) =
      record { none = (λ h. cc, λ h. cc); one = among silo silos (by_least counts silos) (chosen_by_least silos).one }

some_in : (silos : List Silo) (silo : Silo) → In silo silos → IsChosenOf silos (Some silo)
some_in [] silo there = absurd there
some_in (s ∷ silos) silo there = record { none = (λ h. cc, λ h. cc); one = there }

pub chosen : (policy : Policy) (view : ViewValue) (local : Silo) (hash : ℕ) (counts : List (Silo × ℕ))
    → IsChosenOf (active_silos view) (silo_for policy view local hash counts)
chosen PreferLocal view local hash counts = by (is_active_in view local) refl
  where
    by : (b : Bool) → is_active_in view local ≡ b → IsChosenOf (active_silos view) (if b then Some local else by_hash view hash)
    by true is = some_in (active_silos view) local (In-active view local is)
    by false is = chosen_by_hash (active_silos view) hash
chosen HashBased view local hash counts = chosen_by_hash (active_silos view) hash
chosen LeastHeld view local hash counts = chosen_by_least counts (active_silos view)

pub chosen_is_active : (view : ViewValue) → IsByAddress view → (o : Option Silo) → IsChosenOf (active_silos view) o
    → IfSome o (λ silo. IsTrue (is_active_in view silo))
chosen_is_active view by_address None is = tt
chosen_is_active view by_address (Some silo) is = active_in view by_address silo is.one
