-- The silos of one endpoint among the rows: which is the newest, and which is not Dead.
use Rattle.std.proofs.Common.{◌≡◌, inl, inr, ℕ, ◌<◌, Bool, true, false, not, ◌&&◌, ◌||◌, nat_lt, List, find, Option, Some, None, is_none, refl, sym, ◌∙◌, ap}
use Rattle.std.proofs.lemmas.Bool.{ltb-true, lt-ltb, and_parts, and_from, cases_order}
use Rattle.std.specs.Option.{option_map}
use Rattle.std.specs.List.Sorted.{IsStrictlySortedBy}
use Rattle.std.specs.Map.{lookup, keys_of}
use Rattle.std.specs.BTreeMap.{is_at}
use Rattle.silo_address.specs.Silo.{Silo, silo_cmp}
use Rattle.membership_view.specs.declared.row.Row.{Row}
use Rattle.membership_view.specs.Row.{has_come}
use Rattle.membership_view.specs.View.{shares_endpoint}
use Rattle.membership_view.specs.Changes.{is_newest, occupant}
use Rattle.membership_view.specs.Whole.{OlderAreDead}
use Rattle.membership_view.proofs.Found.{all_found, all_from_found, find_found, find_none}
use Rattle.membership_view.proofs.Order.{shares_back, shares_along, same_generation, Decides-shares}
use Rattle.silo_address.proofs.Order.{silo_cmp_exact, silo_cmp_total}

-- the row of a silo in a list of rows
abbrev pub found_row : List (Silo × Row) → Silo → Option Row
found_row rows silo = lookup (is_at (silo_cmp silo)) rows

newer : (shares : Bool) (m n : ℕ) → (not shares || nat_lt m n) ≡ true → shares ≡ true → m < n
newer true m n h is = ltb-true m n h
newer false m n h is = cc

newer_from : (shares : Bool) (m n : ℕ) → (shares ≡ true → m < n) → (not shares || nat_lt m n) ≡ true
newer_from true m n h = lt-ltb m n (h refl)
newer_from false m n h = refl

-- the newest of an endpoint has a higher generation than every silo of it that has a row
pub lower_generation : (silo : Silo) (rows : List (Silo × Row)) → is_newest silo rows ≡ true → (other : Silo) (row : Row)
    → found_row rows other ≡ Some row
    → shares_endpoint silo other ≡ true → other.generation < silo.generation
lower_generation silo rows newest other row found shares =
    newer (shares_endpoint silo other) other.generation silo.generation
    (all_found silo_cmp_total (λ k _. not (shares_endpoint silo k) || nat_lt k.generation silo.generation) silo_cmp_exact rows newest other
    row found) shares

-- and the way back
pub newest_from : (silo : Silo) (rows : List (Silo × Row)) → IsStrictlySortedBy silo_cmp (keys_of rows)
    → ((other : Silo) (row : Row) → found_row rows other ≡ Some row → shares_endpoint silo other ≡ true
    → other.generation < silo.generation)
    → is_newest silo rows ≡ true
newest_from silo rows s each =
    all_from_found silo_cmp_total (λ k _. not (shares_endpoint silo k) || nat_lt k.generation silo.generation) rows s
    (λ q x found. newer_from (shares_endpoint silo q) q.generation silo.generation (each q x found))

none_is : {A : Type 0} (o : Option A) → is_none o ≡ true → o ≡ None
none_is None h = refl
none_is (Some x) h = cc

-- the occupant has a row, shares the endpoint and is not Dead
pub record IsOccupant (silo : Silo) (rows : List (Silo × Row)) (old : Silo) : Type 0 where
  pub row : Row
  pub found : found_row rows old ≡ Some row
  pub shares : shares_endpoint silo old ≡ true
  pub not_dead : row.dead ≡ None

pub occupant_is : (silo : Silo) (rows : List (Silo × Row)) → IsStrictlySortedBy silo_cmp (keys_of rows) → (old : Silo)
    → occupant silo rows ≡ Some old → IsOccupant silo rows old
occupant_is silo rows s old is = by (find (λ e. shares_endpoint silo e.0 && is_none e.1.dead) rows) refl is
  where
    by : (o : Option (Silo × Row)) → find (λ e. shares_endpoint silo e.0 && is_none e.1.dead) rows ≡ o → option_map (λ e. e.0) o ≡ Some old
        → IsOccupant silo rows old
    by None h is = cc
    by (Some e) h is =
        let same : e.0 ≡ old = cc in
        let both = find_found silo_cmp_total (λ k x. shares_endpoint silo k && is_none x.dead) rows s e h in
        let parts = and_parts (shares_endpoint silo e.0) (is_none e.1.dead) both.1 in
        record {
          row = e.1;
          found = ap (λ q. found_row rows q) (sym same) ∙ both.0;
          shares = ap (λ q. shares_endpoint silo q) (sym same) ∙ parts.0;
          not_dead = none_is e.1.dead parts.1;
        }

-- of two silos of one endpoint that are not Dead each is the other
pub one_occupant : (rows : List (Silo × Row)) → OlderAreDead rows → (a b : Silo) (row next : Row) → found_row rows a ≡ Some row
    → found_row rows b ≡ Some next
    → shares_endpoint a b ≡ true → row.dead ≡ None → next.dead ≡ None → a ≡ b
one_occupant rows older_dead a b row next at_a at_b shares a_lives b_lives =
    elim (cases_order a.generation b.generation) [
      | inl same ↦ same_generation a b shares same
      | inr k ↦ elim k [
        | inl lower ↦ absurd (no row next.joined a_lives
            (older_dead a b row next at_a at_b ((Decides-shares b a).0 (shares_back a b shares)) lower))
        | inr higher ↦ absurd (no next row.joined b_lives (older_dead b a next row at_b at_a ((Decides-shares a b).0 shares) higher))
      ]
    ]
  where
    no : (row : Row) (version : ℕ) → row.dead ≡ None → has_come row.dead version ≡ true → ⊥
    no row version none come = let e : has_come row.dead version ≡ false = ap (λ c. has_come c version) none in cc

-- without an occupant, every silo of the endpoint is Dead
pub occupant_none : (rows : List (Silo × Row)) (silo : Silo) → occupant silo rows ≡ None → (q : Silo) (row : Row)
    → found_row rows q ≡ Some row
    → (shares_endpoint silo q && is_none row.dead) ≡ false
occupant_none rows silo none q row found =
    find_none silo_cmp_total (λ k x. shares_endpoint silo k && is_none x.dead) silo_cmp_exact rows
    (nothing (find (λ e. shares_endpoint silo e.0 && is_none e.1.dead) rows) none) q row found
  where
    nothing : (o : Option (Silo × Row)) → option_map (λ e. e.0) o ≡ None → o ≡ None
    nothing None h = refl
    nothing (Some e) h = cc

-- a silo of the endpoint that is not Dead is the occupant
pub occupant_some : (rows : List (Silo × Row)) → IsStrictlySortedBy silo_cmp (keys_of rows) → OlderAreDead rows
    → (silo q : Silo) (row : Row)
    → found_row rows q ≡ Some row → shares_endpoint silo q ≡ true → row.dead ≡ None → occupant silo rows ≡ Some q
occupant_some rows s older_dead silo q row found shares not_dead = by (occupant silo rows) refl
  where
    at_none : occupant silo rows ≡ None → ⊥
    at_none none =
        let no : (shares_endpoint silo q && is_none row.dead) ≡ false = occupant_none rows silo none q row found in
        let yes : (shares_endpoint silo q && is_none row.dead) ≡ true = and_from (shares_endpoint silo q) (is_none row.dead) shares (ap is_none not_dead) in
        cc

    by : (o : Option Silo) → occupant silo rows ≡ o → occupant silo rows ≡ Some q
    by None h = absurd (at_none h)
    by (Some old) h =
        let is = occupant_is silo rows s old h in
        h ∙ ap (λ k. Some k) (one_occupant rows older_dead old q is.row row is.found found
        (shares_along old silo q (shares_back silo old is.shares) shares) is.not_dead not_dead)
