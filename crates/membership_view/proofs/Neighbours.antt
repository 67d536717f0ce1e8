-- The rows next to where a silo is, or would be, tell of its whole endpoint.
use Rattle.std.proofs.Common.{◌≡◌, inl, inr, ℕ, ◌<◌, Bool, true, false, not, ◌&&◌, List, Option, Some, None, IsSome, is_some, is_none, refl, sym, ◌∙◌, ap, arith, if◌then◌else◌}
use Rattle.std.proofs.lemmas.Bool.{cases_lt, cases_order, and_from}
use Rattle.std.proofs.lemmas.Bool.Decides.{nat_tests}
use Rattle.std.proofs.lemmas.Option.{same_Some}
use Rattle.std.specs.List.Sorted.{IsStrictlySortedBy}
use Rattle.std.specs.Map.{keys_of}
use Rattle.std.specs.Ordering.{is_gt, is_lt, nat_cmp, ordering_reverse}
use Rattle.std.specs.declared.cmp.Ordering.{Ordering}
use Rattle.std.specs.declared.cmp.Ordering.TheVariants.{Less, Equal, Greater}
use Rattle.texts.proofs.Orderings.{upto_nat, less_is}
use Rattle.silo_address.specs.Silo.{Silo, silo_cmp}
use Rattle.membership_view.specs.declared.row.Row.{Row}
use Rattle.membership_view.specs.Row.{has_come}
use Rattle.membership_view.specs.View.{shares_endpoint}
use Rattle.membership_view.specs.Changes.{is_newest, occupant}
use Rattle.membership_view.specs.Whole.{OlderAreDead}
use Rattle.membership_view.proofs.Order.{shares_back, shares_between, same_generation, by_generation, Decides-shares}
use Rattle.membership_view.proofs.SameEndpoint.{found_row, lower_generation, newest_from, IsOccupant, occupant_is, occupant_none}
use Rattle.silo_address.proofs.Order.{silo_cmp_total}

above : (a b : ℕ) → b < a → is_gt (nat_cmp a b) ≡ true
above a b h = grind (arith, nat_tests)

-- where no row is the silo's or after it, the silo is the newest
pub newest_none : (silo : Silo) (rows : List (Silo × Row)) → IsStrictlySortedBy silo_cmp (keys_of rows)
    → ((q : Silo) → is_gt (silo_cmp silo q) ≡ false → found_row rows q ≡ None) → is_newest silo rows ≡ true
newest_none silo rows s none = newest_from silo rows s lower
  where
    lower : (other : Silo) (row : Row) → found_row rows other ≡ Some row → shares_endpoint silo other ≡ true
        → other.generation < silo.generation
    lower other row found shares = elim (cases_lt other.generation silo.generation) [
      | inl h ↦ h
      | inr h ↦
          let after : is_gt (silo_cmp silo other) ≡ false = ap is_gt (by_generation silo other shares) ∙ upto_nat silo.generation other.generation h in
          let e : Some row ≡ None = sym found ∙ none other after in
          cc
    ]

-- what the first row that isn't before the silo tells
pub newest_next : (silo : Silo) (rows : List (Silo × Row)) → IsStrictlySortedBy silo_cmp (keys_of rows) → (next : Silo) (row : Row)
    → found_row rows next ≡ Some row → is_gt (silo_cmp silo next) ≡ false
    → ((q : Silo) → is_gt (silo_cmp silo q) ≡ false → IsSome (found_row rows q) → is_gt (silo_cmp next q) ≡ false)
    → not (shares_endpoint silo next) ≡ is_newest silo rows
newest_next silo rows s next row found inside first = by (shares_endpoint silo next) refl (is_newest silo rows) refl
  where
    not_newest : shares_endpoint silo next ≡ true → is_newest silo rows ≡ true → ⊥
    not_newest shares newest =
        let e : is_gt (nat_cmp silo.generation next.generation) ≡ true = above silo.generation next.generation (lower_generation silo rows newest next row found shares) in
        let f : is_gt (nat_cmp silo.generation next.generation) ≡ false = ap is_gt (sym (by_generation silo next shares)) ∙ inside in
        cc

    lower : shares_endpoint silo next ≡ false → (other : Silo) (row : Row) → found_row rows other ≡ Some row
        → shares_endpoint silo other ≡ true → other.generation < silo.generation
    lower apart other row found shares = elim (cases_lt other.generation silo.generation) [
      | inl h ↦ h
      | inr h ↦
          let after : is_gt (silo_cmp silo other) ≡ false = ap is_gt (by_generation silo other shares) ∙ upto_nat silo.generation other.generation h in
          let e : shares_endpoint silo next ≡ true = shares_between silo next other inside (first other after (ap is_some found)) shares in
          cc
    ]

    by : (b : Bool) → shares_endpoint silo next ≡ b → (n : Bool) → is_newest silo rows ≡ n → not b ≡ n
    by true shares true newest = absurd (not_newest shares newest)
    by true shares false newest = refl
    by false apart true newest = refl
    by false apart false newest = let e : is_newest silo rows ≡ true = newest_from silo rows s (lower apart) in cc

pub upto_from : (r : Ordering) → is_lt r ≡ false → is_gt (ordering_reverse r) ≡ false
upto_from Less h = cc
upto_from Equal h = refl
upto_from Greater h = refl

-- an endpoint's occupant is before a newer silo of that endpoint
occupant_before : (silo : Silo) (rows : List (Silo × Row)) → is_newest silo rows ≡ true → (old : Silo) → IsOccupant silo rows old
    → silo_cmp old silo ≡ Less
occupant_before silo rows newest old is =
    by_generation old silo (shares_back silo old is.shares)
    ∙ less_is old.generation silo.generation (lower_generation silo rows newest old is.row is.found is.shares)

-- where no row is before a silo, its endpoint has no occupant
pub occupant_first : (silo : Silo) (rows : List (Silo × Row)) → IsStrictlySortedBy silo_cmp (keys_of rows) → is_newest silo rows ≡ true
    → ((q : Silo) → silo_cmp q silo ≡ Less → found_row rows q ≡ None) → None ≡ occupant silo rows
occupant_first silo rows s newest none = by (occupant silo rows) refl
  where
    never : (old : Silo) → IsOccupant silo rows old → ⊥
    never old is = let e : Some is.row ≡ None = sym is.found ∙ none old (occupant_before silo rows newest old is) in cc

    by : (o : Option Silo) → occupant silo rows ≡ o → None ≡ o
    by None h = refl
    by (Some old) h = absurd (never old (occupant_is silo rows s old h))

-- what the last row before the newest silo tells
pub occupant_last : (silo : Silo) (rows : List (Silo × Row)) → IsStrictlySortedBy silo_cmp (keys_of rows) → is_newest silo rows ≡ true
    → OlderAreDead rows
    → (last : Silo) (row : Row) → found_row rows last ≡ Some row → silo_cmp last silo ≡ Less
    → ((q : Silo) → silo_cmp q silo ≡ Less → IsSome (found_row rows q) → is_lt (silo_cmp last q) ≡ false)
    → (if shares_endpoint silo last && is_none row.dead then Some last else None) ≡ occupant silo rows
occupant_last silo rows s newest older_dead last row found before greatest = by (occupant silo rows) refl
  where
    shares_last : (old : Silo) → IsOccupant silo rows old → shares_endpoint old last ≡ true
    shares_last old is =
        let earlier = occupant_before silo rows newest old is in
        let upto : is_gt (silo_cmp old last) ≡ false = ap is_gt (silo_cmp_total.antisymm old last) ∙ upto_from (silo_cmp last old) (greatest old earlier (ap is_some is.found)) in
        shares_between old last silo upto (ap is_gt before) (shares_back silo old is.shares)

    dead_before : (old : Silo) (is : IsOccupant silo rows old) → old.generation < last.generation → ⊥
    dead_before old is lower =
        let come : has_come is.row.dead row.joined ≡ true = older_dead old last is.row row is.found found ((Decides-shares last old).0 (shares_back old last (shares_last old is))) lower in
        let none : has_come is.row.dead row.joined ≡ false = ap (λ c. has_come c row.joined) is.not_dead in
        cc

    not_behind : (old : Silo) (is : IsOccupant silo rows old) → last.generation < old.generation → ⊥
    not_behind old is higher =
        let lt : silo_cmp last old ≡ Less = by_generation last old (shares_back old last (shares_last old is)) ∙ less_is last.generation old.generation higher in
        let e : is_lt (silo_cmp last old) ≡ false = greatest old (occupant_before silo rows newest old is) (ap is_some is.found) in
        let f : is_lt (silo_cmp last old) ≡ true = ap is_lt lt in
        cc

    only : (old : Silo) → IsOccupant silo rows old → old ≡ last
    only old is = elim (cases_order old.generation last.generation) [
      | inl same ↦ same_generation old last (shares_last old is) same
      | inr k ↦ elim k [ inl lower ↦ absurd (dead_before old is lower) | inr higher ↦ absurd (not_behind old is higher) ]
    ]

    passes : (old : Silo) → IsOccupant silo rows old → (shares_endpoint silo last && is_none row.dead) ≡ true
    passes old is =
        let same = only old is in
        let e : is.row ≡ row = same_Some is.row row (sym is.found ∙ ap (λ k. found_row rows k) same ∙ found) in
        and_from (shares_endpoint silo last) (is_none row.dead) (ap (λ k. shares_endpoint silo k) (sym same) ∙ is.shares)
        (ap (λ (r : Row). is_none r.dead) (sym e) ∙ ap is_none is.not_dead)

    by : (o : Option Silo) → occupant silo rows ≡ o → (if shares_endpoint silo last && is_none row.dead then Some last else None) ≡ o
    by None h = ap (λ b. if b then Some last else None) (occupant_none rows silo h last row found)
    by (Some old) h =
        let is = occupant_is silo rows s old h in
        ap (λ b. if b then Some last else None) (passes old is) ∙ ap (λ k. Some k) (sym (only old is))
