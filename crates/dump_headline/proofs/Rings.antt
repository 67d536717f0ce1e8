-- The ring of each node in a world's dump is that of the view that its silo has seen, sorted anew from the dump.
use Rattle.std.proofs.Common.{◌≡◌, ℕ, List, [], ◌∷◌, ◌++◌, IsSome, refl, sym, ap, subst, ◌∙◌}
use Rattle.std.specs.Prelude.{true, not, nat_le, is_some, cond, filter, flat_map, All, Option, Some, None}
use Rattle.std.specs.List.{cons_option}
use Rattle.std.specs.Option.{option_map}
use Rattle.std.specs.Map.{keys_of}
use Rattle.std.proofs.lemmas.List.Elements.{All-nil, All-cons, All-head, All-tail, All-map, All-filter}
use Rattle.silo_address.specs.Silo.{Silo, silo_cmp}
use Rattle.silo_address.specs.Grain.{Grain}
use Rattle.silo_address.proofs.Order.{silo_cmp_total, silo_cmp_exact}
use Rattle.membership_view.specs.declared.row.Row.{Row}
use Rattle.membership_view.specs.declared.status.Status.{Status}
use Rattle.membership_view.specs.Row.{is_active, status_in}
use Rattle.membership_view.specs.View.{active_silos, is_spare, listed_rows}
use Rattle.membership_view.specs.Views.{rows_in, row_of, view_at}
use Rattle.hash_ring.specs.Places.{PlacesValue, places_of, places_for, named_places}
use Rattle.hash_ring.specs.Ring.{points_if, silo_points, sorted_points, sorted_ring}
use Rattle.directory_rules.specs.State.{Node, World}
use Rattle.directory_rules.specs.Happens.{node_of}
use Rattle.directory_rules.proofs.Cases.{on_bool}
use Rattle.directory_facts.proofs.Places.{added_row}
use Rattle.directory_headline.proofs.Facts.{WorldFacts}
use Rattle.dump_rules.specs.Dump.{dump_node, dump_of}
use Rattle.dump_rules.specs.Verdict.{dump_places}
use Rattle.dump_rules.specs.RightDump.{HasItsRing}
use Rattle.dump_headline.proofs.Orders.{all_found}
use Rattle.dump_headline.proofs.Rows.{dumped_view}
use Rattle.dump_headline.proofs.Placed.{told_at, told_places}

-- ---- what holds of all silos with rows holds of the Active ones of each view
module _ (P : Silo → Type 0) where
  abbrev AllOf : {X : Type 0} → List (Silo × X) → Type 0
  AllOf es = All (λ e. P e.0) es

  with_status : (silo : Silo) (status : Option Status) (rows : List (Silo × Status)) → P silo → AllOf rows
      → AllOf (cons_option (option_map (λ s. (silo, s)) status) rows)
  with_status silo None rows so all = all
  with_status silo (Some status) rows so all = All-cons (λ (e : Silo × Status). P e.0) (silo, status) rows so all

  rows_so : (version : ℕ) (rows : List (Silo × Row)) → AllOf rows → AllOf (rows_in version rows)
  rows_so version [] all = All-nil (λ (e : Silo × Status). P e.0)
  rows_so version (e ∷ es) all =
      with_status e.0 (status_in version e.1) (rows_in version es) (All-head (λ (x : Silo × Row). P x.0) e es all)
      (rows_so version es (All-tail (λ (x : Silo × Row). P x.0) e es all))

  active_so : (rows : List (Silo × Status)) → AllOf rows → All P (keys_of (filter (λ row. is_active row.1) rows))
  active_so rows all =
      All-map P (λ (e : Silo × Status). e.0) (filter (λ row. is_active row.1) rows)
      (All-filter (λ (row : Silo × Status). is_active row.1) (λ (e : Silo × Status). P e.0) rows all)

-- ---- rings by places that agree
abbrev Agree : PlacesValue → PlacesValue → Silo → Type 0
Agree one other silo = places_of one silo ≡ places_of other silo

same_points : (one other : PlacesValue) (silos : List Silo) → All (Agree one other) silos
    → flat_map (silo_points one) silos ≡ flat_map (silo_points other) silos
same_points one other [] all = refl
same_points one other (s ∷ ss) all =
    let first = All-head (Agree one other) s ss all in
    let rest = same_points one other ss (All-tail (Agree one other) s ss all) in
    λ i. points_if s (first i) ++ rest i

module _ (hash : Grain → ℕ) (f : World) (facts : WorldFacts hash f) where
  -- the places that the dump tells of a silo are those of the world
  told : (silo : Silo) (row : Row) → row_of f.views silo ≡ Some row → Agree (dump_places (dump_of f)) f.places silo
  unfolding dump_of
  told silo row found =
      by (places_of f.places silo) refl (added_row f.views f.places silo facts.views.added (subst (λ o. IsSome o) (sym found) refl))
    where
      by : (list : Option (List ℕ)) → places_of f.places silo ≡ list → is_some (places_of f.places silo) ≡ true
          → Agree (dump_places (dump_of f)) f.places silo
      by None at there = let none = ap is_some at in absurd (cc (none, there))
      by (Some list) at there =
          told_at f.settings.hashing f.settings.points f.places silo f.views.rows row found
          ∙ ap (λ points. Some (places_for f.settings.hashing points silo (named_places f.places.hashing f.places silo)))
          (sym facts.views.points)
          ∙ ap (λ hashing. Some (places_for f.settings.hashing f.places.points silo (named_places hashing f.places silo)))
          facts.views.hashing
          ∙ ap Some (told_places f.settings.hashing f.places silo list facts.places facts.views.hashing at) ∙ sym at

  agree : (version : ℕ) → All (Agree (dump_places (dump_of f)) f.places) (active_silos (view_at f.views version))
  agree version =
      let P = Agree (dump_places (dump_of f)) f.places in
      on_bool (λ b. All P (keys_of (filter (λ row. is_active row.1) (cond b (listed_rows (rows_in version f.views.rows)) []))))
      (nat_le version f.views.version)
      (λ t. active_so P (listed_rows (rows_in version f.views.rows))
      (All-filter (λ (row : Silo × Status). not (is_spare (rows_in version f.views.rows) row.0 row.1)) (λ (e : Silo × Status). P e.0)
      (rows_in version f.views.rows)
      (rows_so P version f.views.rows
      (all_found silo_cmp silo_cmp_total silo_cmp_exact (λ (e : Silo × Row). P e.0) f.views.rows facts.peopled.whole.in_order told))))
      (λ f. All-nil P)

  pub has_its_ring : (silo : Silo) (node : Node) → node_of f silo ≡ Some node → HasItsRing (dump_of f) (dump_node silo node)
  has_its_ring silo node there =
      let sees = (facts.nodes silo node there).sees in
      let places = dump_places (dump_of f) in
      ap (λ ring. ring.points) sees.ring_is
      ∙ ap (λ view. sorted_ring view f.places) sees.view_is
      ∙ sym (ap sorted_points (same_points places f.places (active_silos (view_at f.views node.view.version)) (agree node.view.version)))
      ∙ ap (λ view. sorted_ring view places) (sym (dumped_view f facts.peopled.whole node.view.version sees.within))
