-- What the view of a version lists, with the places that are told, stays as it is, whatever changes follow.
use Rattle.std.proofs.Common.{arith, ◌≡◌, ◌≢◌, List, [], ◌∷◌, refl, sym, ap, ◌∙◌, subst}
use Rattle.std.specs.Prelude.{true, All, Some, map}
use Rattle.std.specs.Map.{lookup}
use Rattle.std.specs.BTreeMap.{is_at}
use Rattle.std.proofs.lemmas.List.Elements.{All-head, All-tail}
use Rattle.silo_address.specs.Silo.{Silo, silo_cmp}
use Rattle.membership_view.specs.declared.status.Status.{Status}
use Rattle.membership_view.specs.declared.status.Status.TheVariants.{Active, Leaving, Dead}
use Rattle.membership_view.specs.View.{ViewValue}
use Rattle.hash_ring.specs.Places.{is_added, named_places}
use Rattle.directory_rules.specs.Settings.{Settings}
use Rattle.directory_rules.specs.Membership.{Change, Membership, listing, listing_of, places_told}
use Rattle.silo_rules.proofs.Whole.{Are}
use Rattle.deployment_headline.proofs.Memberships.{Leads, leads_to}
use Rattle.deployment_headline.proofs.PlacesStay.{leads_stay, named_same}
use Rattle.deployment_headline.proofs.ViewRows.{listed_added, all_found, is_in, listed_in, listed_sorted, view_rows}

map_agree : {X Y : Type 0} (f g : X → Y) (xs : List X) → All (λ x. f x ≡ g x) xs → map f xs ≡ map g xs
map_agree f g [] all = refl
map_agree f g (x ∷ xs) all =
    ap (λ y. y ∷ map f xs) (All-head (λ x. f x ≡ g x) x xs all)
    ∙ ap (λ ys. g x ∷ ys) (map_agree f g xs (All-tail (λ x. f x ≡ g x) x xs all))

module _ (settings : Settings) (m n : Membership) (cs : List Change) (are : Are settings m) (leads : Leads settings m cs n) where
  told_same : (q : Silo) (status : Status) → (status ≢ Dead → is_added m.places q ≡ true)
      → places_told status n.places q ≡ places_told status m.places q
  told_same q status added = by status added
    where
      hashing : n.places.hashing ≡ m.places.hashing
      hashing = (leads_to settings m n cs are leads).1.hashing ∙ sym are.hashing

      named : is_added m.places q ≡ true → named_places n.places.hashing n.places q ≡ named_places m.places.hashing m.places q
      named there =
          named_same n.places.hashing n.places m.places q (leads_stay settings m n cs leads q there)
          ∙ ap (λ h. named_places h m.places q) hashing

      by : (status : Status) → (status ≢ Dead → is_added m.places q ≡ true) → places_told status n.places q ≡ places_told status m.places q
      by Active added = named (added (λ e. cc (e)))
      by Leaving added = named (added (λ e. cc (e)))
      by Dead added = refl

  same_listing : (q : Silo) (status : Status) → lookup (is_at (silo_cmp q)) (listed_in m.views m.views.version) ≡ Some status
      → listing n.places (q, status) ≡ listing m.places (q, status)
  same_listing q status there =
      ap (λ places. record { silo = q; status = status; places = places })
      (told_same q status (λ lives. listed_added settings m are m.views.version q status lives (is_in m.views are.whole m.views.version q status there)))

  pub listing_stays : listing_of n m.views.version ≡ listing_of m m.views.version
  listing_stays =
      let v = m.views.version in
      let on = (leads_to settings m n cs are leads).0 in
      ap (λ (view : ViewValue). map (listing n.places) view.rows) (on.views v (omega arith) (omega arith))
      ∙ subst (λ rows. map (listing n.places) rows ≡ map (listing m.places) rows) (sym (view_rows m.views are.whole v (omega arith)))
      (map_agree (listing n.places) (listing m.places) (listed_in m.views v)
      (all_found (λ e. listing n.places e ≡ listing m.places e) (listed_in m.views v) (listed_sorted m.views are.whole v) same_listing))
