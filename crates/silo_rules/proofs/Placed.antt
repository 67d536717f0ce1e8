-- Each silo that is Active in a view has its places.
use Rattle.std.proofs.Common.{◌≡◌, ℕ, ◌≤◌, Bool, true, false, ◌&&◌, List, [], ◌∷◌, Option, Some, None, refl, sym, ap, ◌∙◌, inl, inr, option_and_then, nat_le, if◌then◌else◌}
use Rattle.std.proofs.lemmas.Bool.{leb-true}
use Rattle.std.specs.List.{filter, list_all}
use Rattle.std.specs.Map.{keys_of}
use Rattle.std.specs.Option.{option_map_or}
use Rattle.silo_address.specs.Silo.{Silo}
use Rattle.membership_view.specs.declared.row.Row.{Row}
use Rattle.membership_view.specs.declared.status.Status.{Status}
use Rattle.membership_view.specs.declared.status.Status.TheVariants.{Active, Leaving, Dead}
use Rattle.membership_view.specs.Row.{is_active, status_in, was_dead}
use Rattle.membership_view.specs.View.{active_silos, listed_rows, status_of}
use Rattle.membership_view.specs.Views.{ViewsValue, row_of, rows_in, view_at}
use Rattle.membership_view.specs.Whole.{IsViews}
use Rattle.membership_view.proofs.Said.{active_lived, said_alive, view_in_order}
use Rattle.hash_ring.specs.Places.{PlacesValue, is_added}
use Rattle.hash_ring.specs.Ring.{are_added}
use Rattle.hash_ring.proofs.Advanced.{active_in}
use Rattle.hash_ring.proofs.Members.{In}

-- each silo with a row has its places, but for one that was Dead in the version with which the views begin
abbrev pub ArePlaced : ViewsValue → PlacesValue → Type 0
ArePlaced views places = (silo : Silo) (row : Row) → row_of views silo ≡ Some row → was_dead row ≡ false → is_added places silo ≡ true

all_of : (p : Silo → Bool) (silos : List Silo) → ((silo : Silo) → In silo silos → p silo ≡ true) → list_all p silos ≡ true
all_of p [] each = refl
all_of p (silo ∷ silos) each =
    ap (λ b. b && list_all p silos) (each silo (inl refl)) ∙ all_of p silos (λ other there. each other (inr there))

pub only_active : (o : Option Status) → option_map_or (λ status. is_active status) o false ≡ true → o ≡ Some Active
only_active None active = absurd (cc (active))
only_active (Some Active) active = refl
only_active (Some Leaving) active = absurd (cc (active))
only_active (Some Dead) active = absurd (cc (active))

module _ (views : ViewsValue) (places : PlacesValue) (whole : IsViews views) (placed : ArePlaced views places) (version : ℕ) where
  has_row : (silo : Silo) (o : Option Row) → row_of views silo ≡ o → option_and_then (status_in version) o ≡ Some Active
      → is_added places silo ≡ true
  has_row silo None at active = absurd (cc (active))
  has_row silo (Some row) at active = placed silo row at (active_lived version row active)

  has_places : version ≤ views.version → (silo : Silo) → In silo (active_silos (view_at views version)) → is_added places silo ≡ true
  has_places made silo there =
      let active = only_active (status_of (view_at views version) silo) (active_in (view_at views version) (view_in_order views whole.in_order version) silo there) in
      has_row silo (row_of views silo) refl (said_alive views whole.in_order version silo made Active (λ e. cc (e)) active)

  pub placed_view : are_added (view_at views version) places ≡ true
  placed_view = by (nat_le version views.version) refl
    where
      by : (b : Bool) → nat_le version views.version ≡ b
          → list_all (is_added places) (keys_of (filter (λ row. is_active row.1) (if b then listed_rows (rows_in version views.rows) else [])))
          ≡ true
      by false at = refl
      by true at =
          ap (λ b. list_all (is_added places) (keys_of (filter (λ row. is_active row.1) (if b then listed_rows (rows_in version views.rows) else []))))
          (sym at)
          ∙ all_of (is_added places) (active_silos (view_at views version)) (has_places (leb-true version views.version at))
