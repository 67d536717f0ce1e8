-- The places that a world's dump tells of a silo are those of the world.
use Rattle.std.proofs.Common.{◌≡◌, ℕ, List, [], ◌∷◌, map, refl, sym, ap}
use Rattle.std.specs.Prelude.{cond, Some}
use Rattle.std.specs.Map.{lookup}
use Rattle.std.specs.BTreeMap.{is_at}
use Rattle.std.specs.Option.{unwrap_or}
use Rattle.silo_address.specs.Silo.{Silo, silo_cmp}
use Rattle.silo_address.proofs.Order.{silo_cmp_exact}
use Rattle.membership_view.specs.declared.row.Row.{Row}
use Rattle.hash_ring.specs.declared.hashing.Hashing.{Hashing}
use Rattle.hash_ring.specs.declared.hashing.Hashing.TheVariants.{Sha256, Stated}
use Rattle.hash_ring.specs.Places.{PlacesValue, IsPlaces, places_of, places_for, named_places}
use Rattle.directory_rules.proofs.Cases.{on_bool}
use Rattle.directory_facts.proofs.Entries.{same_key}
use Rattle.dump_rules.specs.Dump.{dump_row}

-- those that were named at a join, or are hashed, are the silo's
pub told_places : (hashing : Hashing) (places : PlacesValue) (silo : Silo) (list : List ℕ) → IsPlaces places → places.hashing ≡ hashing
    → places_of places silo ≡ Some list
    → places_for hashing places.points silo (named_places hashing places silo) ≡ list
told_places Sha256 places silo list is hashing found = sym ((is.each silo list found).hashed hashing)
told_places Stated places silo list is hashing found = ap (λ o. unwrap_or o []) found

-- what is told of a silo that has a row
module _ (hashing : Hashing) (points : ℕ) (places : PlacesValue) (silo : Silo) where
  abbrev told : Silo → List ℕ
  told q = places_for hashing points q (named_places places.hashing places q)

  abbrev all_told : List (Silo × Row) → List (Silo × List ℕ)
  all_told rows = map (λ row. (row.silo, places_for hashing points row.silo row.places)) (map (λ e. dump_row places e.0 e.1) rows)

  pub told_at : (rows : List (Silo × Row)) (row : Row) → lookup (is_at (silo_cmp silo)) rows ≡ Some row
      → lookup (is_at (silo_cmp silo)) (all_told rows) ≡ Some (told silo)
  told_at [] row found = absurd (cc (found))
  told_at (e ∷ es) row found =
      on_bool (λ b. is_at (silo_cmp silo) e.0 ≡ b → cond b (Some e.1) (lookup (is_at (silo_cmp silo)) es) ≡ Some row
      → cond b (Some (told e.0)) (lookup (is_at (silo_cmp silo)) (all_told es)) ≡ Some (told silo))
      (is_at (silo_cmp silo) e.0)
      (λ t at has. ap (λ (q : Silo). Some (told q)) (sym (same_key silo_cmp silo_cmp_exact silo e.0 at))) (λ f at has. told_at es row has)
      refl found
