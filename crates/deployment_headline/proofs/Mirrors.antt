-- What a silo knows that began with a view, beside what all changes decided made: from that version on, both have the same views and rings.
use Rattle.std.proofs.Common.{arith, ◌≡◌, ◌⊎◌, inl, inr, ℕ, ◌≤◌, Bool, true, false, List, [], ◌∷◌, ◌++◌, IsSome, is_none, refl, sym, ap, ◌∙◌, subst, option_and_then, if◌then◌else◌}
use Rattle.std.specs.Prelude.{Option, Some, None, flat_map}
use Rattle.std.specs.Map.{lookup, keys_of}
use Rattle.std.specs.BTreeMap.{is_at}
use Rattle.std.specs.List.Sorted.{IsStrictlySortedBy}
use Rattle.std.proofs.lemmas.Bool.{le-leb}
use Rattle.texts.proofs.Entries.{lookup-picked, sorted-picked}
use Rattle.silo_address.specs.Silo.{Silo, silo_cmp}
use Rattle.silo_address.proofs.Order.{silo_cmp_exact, silo_cmp_total}
use Rattle.membership_view.specs.declared.row.Row.{Row}
use Rattle.membership_view.specs.declared.status.Status.{Status}
use Rattle.membership_view.specs.declared.status.Status.TheVariants.{Active, Leaving, Dead}
use Rattle.membership_view.specs.Row.{has_come, status_in, was_dead}
use Rattle.membership_view.specs.View.{active_silos, is_newer, is_spare, listed_rows, status_of}
use Rattle.membership_view.specs.Views.{ViewsValue, row_of, rows_in, view_at}
use Rattle.membership_view.specs.Whole.{IsViews}
use Rattle.membership_view.proofs.After.{row_status}
use Rattle.membership_view.proofs.Found.{same_entries}
use Rattle.membership_view.proofs.Listed.{lookup_listed, newer_along, sorted_listed, unless_spare}
use Rattle.membership_view.proofs.Said.{IsOutlived, active_lived, outlived_if, outlived_in, outlived_only, said_alive, view_in_order}
use Rattle.membership_view.proofs.Statuses.{dead_by_come, has_come_later, there_from}
use Rattle.hash_ring.specs.Places.{is_added, places_of}
use Rattle.hash_ring.specs.Ring.{points_if, ring_of, silo_points, sorted_points}
use Rattle.hash_ring.proofs.Advanced.{active_in}
use Rattle.hash_ring.proofs.Members.{In}
use Rattle.directory_rules.specs.Membership.{Membership}
use Rattle.silo_rules.proofs.Placed.{only_active}

-- one row reads as the other from a version on, and is it, if its silo joined later
pub record ReadsAs (first : ℕ) (row other : Row) : Type 0 where
  pub statuses : (k : ℕ) → first ≤ k → status_in k row ≡ status_in k other
  pub later : (other.joined ≤ first) ⊎ (row ≡ other)
  pub lives : is_none row.dead ≡ is_none other.dead

-- a silo whose row was left out was Dead, and a newer one of its endpoint was listed
pub record WasLeftOut (views : ViewsValue) (silo : Silo) (other : Row) : Type 0 where
  pub dead : has_come other.dead views.first ≡ true
  pub newer : Silo
  pub row : Row
  pub found : row_of views newer ≡ Some row
  pub is : is_newer newer silo ≡ true
  pub early : row.joined ≤ views.first

pub record Mirrors (m d : Membership) : Type 0 where
  pub version : m.views.version ≡ d.views.version
  pub known : (q : Silo) (row : Row) → row_of m.views q ≡ Some row → (other : Row) × (row_of d.views q ≡ Some other) × ReadsAs m.views.first row other
  pub left_out : (q : Silo) (other : Row) → row_of d.views q ≡ Some other → row_of m.views q ≡ None → WasLeftOut m.views q other
  pub places : (q : Silo) (row : Row) → row_of m.views q ≡ Some row → was_dead row ≡ false → places_of m.places q ≡ places_of d.places q
  pub added : (q : Silo) → is_added m.places q ≡ true → is_added d.places q ≡ true

pub mirrors_itself : (m : Membership) → Mirrors m m
mirrors_itself m = record {
  version = refl;
  known = λ q row found. (row, found, record { statuses = λ k from. refl; later = inr refl; lives = refl });
  left_out = λ q other found none. absurd (let never : Some other ≡ None = sym found ∙ none in cc (never));
  places = λ q row found lived. refl;
  added = λ q there. there;
}

-- what is the same at each place of a list
pub flat_same : {X Y : Type 0} (f g : X → List Y) (xs : List X) → ((x : X) → In x xs → f x ≡ g x) → flat_map f xs ≡ flat_map g xs
flat_same f g [] each = refl
flat_same f g (x ∷ xs) each =
    ap (λ l. l ++ flat_map f xs) (each x (inl refl)) ∙ ap (λ l. g x ++ l) (flat_same f g xs (λ y there. each y (inr there)))

module _ (m d : Membership) (whole : IsViews m.views) (all : IsViews d.views) (is : Mirrors m d) (k : ℕ) (from : m.views.first ≤ k)
    (made : k ≤ m.views.version) where
  abbrev mine : List (Silo × Row)
  mine = m.views.rows

  abbrev theirs : List (Silo × Row)
  theirs = d.views.rows

  some_by : (o : Option Status) → IsSome o → (status : Status) × (o ≡ Some status)
  some_by None there = absurd (cc (there))
  some_by (Some status) there = (status, refl)

  -- the status by rows that are found
  status_by : (rows : List (Silo × Row)) (q : Silo) (row : Row) → lookup (is_at (silo_cmp q)) rows ≡ Some row
      → row_status k rows q ≡ status_in k row
  status_by rows q row found = ap (λ o. option_and_then (status_in k) o) found

  on_row : (q : Silo) (status : Status) (o : Option Row) → row_of m.views q ≡ o → option_and_then (status_in k) o ≡ Some status
      → row_status k theirs q ≡ Some status
  on_row q status None at there = absurd (cc (there))
  on_row q status (Some row) at there =
      let its = is.known q row at in
      status_by theirs q its.0 its.1 ∙ sym (its.2.statuses k from) ∙ there

  -- who is there by what the silo knows is there by all changes
  on : (q : Silo) (status : Status) → row_status k mine q ≡ Some status → row_status k theirs q ≡ Some status
  on q status there = on_row q status (row_of m.views q) refl there

  outlived_on : (q : Silo) → outlived_in k mine q ≡ true → outlived_in k theirs q ≡ true
  outlived_on q at =
      let it = outlived_only k mine whole.in_order q at in
      outlived_if k theirs all.in_order q it.newer it.status (on it.newer it.status it.there) it.is

  early_there : (row : Row) → row.joined ≤ m.views.first → IsSome (status_in k row)
  early_there row early = there_from k row (omega (early, from, arith))

  back_by : (q : Silo) (it : IsOutlived k theirs q) (o : Option Row) → row_of m.views it.newer ≡ o → (p : Option Row)
      → row_of d.views it.newer ≡ p → outlived_in k mine q ≡ true
  back_by q it (Some row) known p there =
      let its = is.known it.newer row known in
      let says = status_by mine it.newer row known ∙ its.2.statuses k from ∙ sym (status_by theirs it.newer its.0 its.1) ∙ it.there in
      outlived_if k mine whole.in_order q it.newer it.status says it.is
  back_by q it None known (Some other) there =
      let out = is.left_out it.newer other there known in
      let some = some_by (status_in k out.row) (early_there out.row out.early) in
      outlived_if k mine whole.in_order q out.newer some.0 (status_by mine out.newer out.row out.found ∙ some.1)
      (newer_along out.newer it.newer q out.is it.is)
  back_by q it None known None there =
      let none : row_status k theirs it.newer ≡ None = ap (λ o. option_and_then (status_in k) o) there in
      absurd (let never : None ≡ Some it.status = sym none ∙ it.there in cc (never))

  outlived_back : (q : Silo) → outlived_in k theirs q ≡ true → outlived_in k mine q ≡ true
  outlived_back q at =
      let it = outlived_only k theirs all.in_order q at in back_by q it (row_of m.views it.newer) refl (row_of d.views it.newer) refl

  outlived_alike : (q : Silo) → outlived_in k mine q ≡ outlived_in k theirs q
  outlived_alike q = by (outlived_in k mine q) refl (outlived_in k theirs q) refl
    where
      by : (a : Bool) → outlived_in k mine q ≡ a → (b : Bool) → outlived_in k theirs q ≡ b → a ≡ b
      by true at true other = refl
      by false at false other = refl
      by true at false other = let yes = outlived_on q at in absurd (cc (yes, other))
      by false at true other = let yes = outlived_back q other in absurd (cc (yes, at))

  spare_alike : (q : Silo) (status : Status) → is_spare (rows_in k mine) q status ≡ is_spare (rows_in k theirs) q status
  spare_alike q Active = refl
  spare_alike q Leaving = refl
  spare_alike q Dead = outlived_alike q

  unless_alike : (q : Silo) (o : Option Status) → unless_spare (rows_in k mine) q o ≡ unless_spare (rows_in k theirs) q o
  unless_alike q None = refl
  unless_alike q (Some status) = ap (λ b. if b then None else Some status) (spare_alike q status)

  -- who is left out isn't listed by all changes either
  out_unlisted : (q : Silo) (other : Row) → row_of d.views q ≡ Some other → row_of m.views q ≡ None
      → unless_spare (rows_in k theirs) q (row_status k theirs q) ≡ None
  out_unlisted q other found none =
      let out = is.left_out q other found none in
      let come = has_come_later other.dead m.views.first k from out.dead in
      let some = some_by (status_in k out.row) (early_there out.row out.early) in
      let there = on out.newer some.0 (status_by mine out.newer out.row out.found ∙ some.1) in
      ap (λ o. unless_spare (rows_in k theirs) q o) (status_by theirs q other found ∙ dead_by_come k other come)
      ∙ ap (λ b. if b then None else Some Dead) (outlived_if k theirs all.in_order q out.newer some.0 there out.is)

  listed_alike : (q : Silo) → unless_spare (rows_in k mine) q (row_status k mine q) ≡ unless_spare (rows_in k theirs) q (row_status k theirs q)
  listed_alike q = by (row_of m.views q) refl (row_of d.views q) refl
    where
      by : (o : Option Row) → row_of m.views q ≡ o → (p : Option Row) → row_of d.views q ≡ p
          → unless_spare (rows_in k mine) q (row_status k mine q) ≡ unless_spare (rows_in k theirs) q (row_status k theirs q)
      by (Some row) known p there =
          let its = is.known q row known in
          unless_alike q (row_status k mine q)
          ∙ ap (λ o. unless_spare (rows_in k theirs) q o)
          (status_by mine q row known ∙ its.2.statuses k from ∙ sym (status_by theirs q its.0 its.1))
      by None known (Some other) there =
          ap (λ o. unless_spare (rows_in k mine) q (option_and_then (status_in k) o)) known ∙ sym (out_unlisted q other there known)
      by None known None there =
          ap (λ o. unless_spare (rows_in k mine) q (option_and_then (status_in k) o)) known
          ∙ sym (ap (λ o. unless_spare (rows_in k theirs) q (option_and_then (status_in k) o)) there)

  found_in : (rows : List (Silo × Row)) → IsStrictlySortedBy silo_cmp (keys_of rows) → (q : Silo)
      → lookup (is_at (silo_cmp q)) (listed_rows (rows_in k rows)) ≡ unless_spare (rows_in k rows) q (row_status k rows q)
  found_in rows s q =
      lookup_listed q (rows_in k rows) (sorted-picked silo_cmp_total (status_in k) rows s)
      ∙ ap (λ o. unless_spare (rows_in k rows) q o) (lookup-picked silo_cmp_total (status_in k) q rows s)

  same_rows : listed_rows (rows_in k theirs) ≡ listed_rows (rows_in k mine)
  same_rows =
      same_entries silo_cmp_total silo_cmp_exact (listed_rows (rows_in k theirs)) (listed_rows (rows_in k mine))
      (sorted_listed (rows_in k theirs) (sorted-picked silo_cmp_total (status_in k) theirs all.in_order))
      (sorted_listed (rows_in k mine) (sorted-picked silo_cmp_total (status_in k) mine whole.in_order))
      (λ q. found_in theirs all.in_order q ∙ sym (listed_alike q) ∙ sym (found_in mine whole.in_order q))

  pub mirror_view : view_at d.views k ≡ view_at m.views k
  mirror_view =
      ap (λ b. record { version = k; rows = if b then listed_rows (rows_in k theirs) else [] })
      (le-leb k d.views.version (subst (λ n. k ≤ n) is.version made))
      ∙ ap (λ r. record { version = k; rows = r }) same_rows
      ∙ sym (ap (λ b. record { version = k; rows = if b then listed_rows (rows_in k mine) else [] }) (le-leb k m.views.version made))

  -- each Active silo has the same places
  active_row : (q : Silo) (o : Option Row) → row_of m.views q ≡ o → option_and_then (status_in k) o ≡ Some Active
      → places_of d.places q ≡ places_of m.places q
  active_row q None at active = absurd (cc (active))
  active_row q (Some row) at active = sym (is.places q row at (active_lived k row active))

  same_points : (q : Silo) → In q (active_silos (view_at m.views k)) → silo_points d.places q ≡ silo_points m.places q
  same_points q there =
      let active = only_active (status_of (view_at m.views k) q) (active_in (view_at m.views k) (view_in_order m.views whole.in_order k) q there) in
      ap (λ o. points_if q o)
      (active_row q (row_of m.views q) refl (said_alive m.views whole.in_order k q made Active (λ e. cc (e)) active))

  pub mirror_ring : ring_of (view_at m.views k) d.places ≡ ring_of (view_at m.views k) m.places
  mirror_ring =
      ap (λ points. record { version = k; points = sorted_points points })
      (flat_same (silo_points d.places) (silo_points m.places) (active_silos (view_at m.views k)) same_points)
