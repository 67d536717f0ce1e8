-- The rows of a world's dump have the shape that they must have.
use Rattle.std.proofs.Common.{arith, ◌≡◌, ℕ, ◌<◌, ◌≤◌, List, [], IsSome, refl, sym, subst}
use Rattle.std.specs.Prelude.{◌^◌, true, is_some, length, All, Option, Some, None}
use Rattle.std.specs.Option.{unwrap_or}
use Rattle.std.proofs.lemmas.List.Elements.{All-nil, All-map}
use Rattle.silo_address.specs.Silo.{Silo, silo_cmp}
use Rattle.silo_address.specs.Grain.{Grain}
use Rattle.silo_address.proofs.Order.{silo_cmp_total, silo_cmp_exact}
use Rattle.membership_view.specs.declared.row.Row.{Row}
use Rattle.membership_view.specs.Views.{ViewsValue, row_of}
use Rattle.membership_view.specs.Whole.{IsViews, IsInTime}
use Rattle.membership_view.proofs.Kept.{versions_fit}
use Rattle.ring_range.specs.Range.{circle}
use Rattle.hash_ring.specs.declared.hashing.Hashing.{Hashing}
use Rattle.hash_ring.specs.declared.hashing.Hashing.TheVariants.{Sha256, Stated}
use Rattle.hash_ring.specs.Places.{PlacesValue, IsPlaces, places_of, is_added, named_places}
use Rattle.directory_rules.specs.State.{World}
use Rattle.directory_facts.proofs.Places.{added_row}
use Rattle.directory_headline.proofs.Facts.{WorldFacts}
use Rattle.dump_rules.specs.Dump.{dump_row, dump_of}
use Rattle.dump_rules.specs.RightShape as right
use Rattle.dump_headline.proofs.Orders.{all_found}

-- ---- versions
pub few_versions : (views : ViewsValue) → IsViews views → views.version < 2 ^ 64
few_versions views is = let fits = versions_fit views is in omega (arith, fits)

made_or_never : (made : Option ℕ) (version : ℕ) → version < 2 ^ 64 → ((m : ℕ) → made ≡ Some m → m ≤ version) → unwrap_or made 0 < 2 ^ 64
made_or_never None version few by = omega (arith, few)
made_or_never (Some m) version few by = let upto = by m refl in omega (arith, upto, few)

-- ---- places
named_many : (hashing : Hashing) (places : PlacesValue) (silo : Silo) → IsPlaces places → is_added places silo ≡ true
    → right.MayName hashing (length (named_places hashing places silo))
named_many Sha256 places silo is added = refl
named_many Stated places silo is added = by (places_of places silo) refl added
  where
    by : (found : Option (List ℕ)) → places_of places silo ≡ found → is_some found ≡ true
        → right.MayName Stated (length (unwrap_or found []))
    by None at some = absurd (cc (some))
    by (Some list) at some = let its = is.each silo list at in (its.some, its.most)

named_hashes : (hashing : Hashing) (places : PlacesValue) (silo : Silo) → IsPlaces places
    → All (λ place. place < circle) (named_places hashing places silo)
named_hashes Sha256 places silo is = All-nil (λ place. place < circle)
named_hashes Stated places silo is = by (places_of places silo) refl
  where
    by : (found : Option (List ℕ)) → places_of places silo ≡ found → All (λ place. place < circle) (unwrap_or found [])
    by None at = All-nil (λ place. place < circle)
    by (Some list) at = (is.each silo list at).hashes

-- ---- rows
module _ (hash : Grain → ℕ) (f : World) (facts : WorldFacts hash f) where
  few : f.views.version < 2 ^ 64
  few = few_versions f.views facts.peopled.whole

  row_numbers : (silo : Silo) (row : Row) → row_of f.views silo ≡ Some row → right.HasRowNumbers (dump_row f.places silo row)
  row_numbers silo row found =
      let is : IsInTime f.views.first f.views.version row = facts.peopled.whole.in_time silo row found in
      record {
        dead = made_or_never row.dead f.views.version few (λ m at. (is.dead_after m at).1);
        joined = let upto = is.joined_by in let most = few in omega (arith, upto, most);
        left = made_or_never row.left f.views.version few (λ m at. (is.left_after m at).1);
        places = named_hashes f.places.hashing f.places silo facts.places;
      }

  pub rows_numbers : All right.HasRowNumbers (dump_of f).rows
  unfolding dump_of
  rows_numbers =
      All-map right.HasRowNumbers (λ (e : Silo × Row). dump_row f.places e.0 e.1) f.views.rows
      (all_found silo_cmp silo_cmp_total silo_cmp_exact (λ e. right.HasRowNumbers (dump_row f.places e.0 e.1)) f.views.rows
      facts.peopled.whole.in_order row_numbers)

  row_is : (silo : Silo) (row : Row) → row_of f.views silo ≡ Some row → right.IsRowOf (dump_of f) (dump_row f.places silo row)
  unfolding dump_of
  row_is silo row found =
      let is : IsInTime f.views.first f.views.version row = facts.peopled.whole.in_time silo row found in
      record {
        joined = is.joined_above;
        made = is.joined_by;
        places =
            subst (λ (hashing : Hashing). right.MayName hashing (length (named_places f.places.hashing f.places silo))) facts.views.hashing
            (named_many f.places.hashing f.places silo facts.places
            (added_row f.views f.places silo facts.views.added (subst (λ o. IsSome o) (sym found) refl)));
      }

  pub rows_are : All (right.IsRowOf (dump_of f)) (dump_of f).rows
  unfolding dump_of
  rows_are =
      All-map (right.IsRowOf (dump_of f)) (λ (e : Silo × Row). dump_row f.places e.0 e.1) f.views.rows
      (all_found silo_cmp silo_cmp_total silo_cmp_exact (λ e. right.IsRowOf (dump_of f) (dump_row f.places e.0 e.1)) f.views.rows
      facts.peopled.whole.in_order row_is)
