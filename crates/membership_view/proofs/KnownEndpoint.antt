-- Whether a silo of an endpoint has a row: the rows next to where a silo of it is, or would be, tell.
use Rattle.std.proofs.Common.{◌≡◌, Bool, true, false, not, ◌&&◌, ◌||◌, nat_lt, List, [], ◌∷◌, Some, None, IsSome, is_some, refl, sym, ◌∙◌, ap}
use Rattle.std.proofs.lemmas.Bool.{or_left, or_right, false_from_ne_true}
use Rattle.std.proofs.lemmas.Map.Keys.{sorted_tail}
use Rattle.std.specs.List.Sorted.{IsStrictlySortedBy}
use Rattle.std.specs.Map.{keys_of}
use Rattle.std.specs.Ordering.{is_gt, is_lt}
use Rattle.std.specs.declared.cmp.Ordering.TheVariants.{Less}
use Rattle.texts.proofs.Orderings.{less_is}
use Rattle.silo_address.specs.Silo.{Silo, silo_cmp}
use Rattle.silo_address.proofs.Order.{silo_cmp_exact, silo_cmp_total}
use Rattle.membership_view.specs.declared.row.Row.{Row}
use Rattle.membership_view.specs.View.{shares_endpoint}
use Rattle.membership_view.specs.Beginning.{is_known_endpoint}
use Rattle.membership_view.specs.Changes.{is_newest}
use Rattle.membership_view.proofs.Found.{any_from_found, found_behind, found_first}
use Rattle.membership_view.proofs.Neighbours.{upto_from}
use Rattle.membership_view.proofs.Order.{by_generation, shares_along, shares_back, shares_between}
use Rattle.membership_view.proofs.SameEndpoint.{found_row, lower_generation}

-- the endpoint of whoever has a row is known
pub known_endpoint : (silo other : Silo) (rows : List (Silo × Row)) (row : Row) → found_row rows other ≡ Some row
    → shares_endpoint silo other ≡ true → is_known_endpoint silo rows ≡ true
known_endpoint silo other rows row found shares =
    any_from_found silo_cmp_total (λ k _. shares_endpoint silo k) silo_cmp_exact rows other row found shares

-- and the way back
pub record IsOfEndpoint (silo : Silo) (rows : List (Silo × Row)) : Type 0 where
  pub other : Silo
  pub row : Row
  pub found : found_row rows other ≡ Some row
  pub shares : shares_endpoint silo other ≡ true

pub known_is : (silo : Silo) (rows : List (Silo × Row)) → IsStrictlySortedBy silo_cmp (keys_of rows) → is_known_endpoint silo rows ≡ true
    → IsOfEndpoint silo rows
known_is silo [] s is = absurd (cc (is))
known_is silo (e ∷ es) s is =
    by (shares_endpoint silo e.0) refl is (known_is silo es (sorted_tail silo_cmp e.0 (keys_of es) s))
  where
    by : (b : Bool) → shares_endpoint silo e.0 ≡ b → (b || is_known_endpoint silo es) ≡ true
        → (is_known_endpoint silo es ≡ true → IsOfEndpoint silo es) → IsOfEndpoint silo (e ∷ es)
    by true at h later = record { other = e.0; row = e.1; found = found_first silo_cmp_total e es; shares = at }
    by false at h later =
        let it = later h in
        record { other = it.other; row = it.row; found = found_behind silo_cmp_total e es s it.other it.row it.found; shares = it.shares }

-- where a silo isn't the newest of its endpoint, another one is
pub known_unless_newest : (silo : Silo) (rows : List (Silo × Row)) → is_newest silo rows ≡ false → is_known_endpoint silo rows ≡ true
known_unless_newest silo [] is = absurd (cc (is))
known_unless_newest silo (e ∷ es) is = by (shares_endpoint silo e.0) refl is (known_unless_newest silo es)
  where
    by : (b : Bool) → shares_endpoint silo e.0 ≡ b
        → ((not b || nat_lt e.0.generation silo.generation) && is_newest silo es) ≡ false
        → (is_newest silo es ≡ false → is_known_endpoint silo es ≡ true) → (shares_endpoint silo e.0 || is_known_endpoint silo es) ≡ true
    by true at h later = or_left (shares_endpoint silo e.0) (is_known_endpoint silo es) at
    by false at h later = or_right (shares_endpoint silo e.0) (is_known_endpoint silo es) (later h)

-- all of its endpoint are before the newest
before_newest : (silo : Silo) (rows : List (Silo × Row)) → is_newest silo rows ≡ true → (it : IsOfEndpoint silo rows)
    → silo_cmp it.other silo ≡ Less
before_newest silo rows newest it =
    by_generation it.other silo (shares_back silo it.other it.shares)
    ∙ less_is it.other.generation silo.generation (lower_generation silo rows newest it.other it.row it.found it.shares)

-- where no row is before the newest, nobody is of its endpoint
pub known_first : (silo : Silo) (rows : List (Silo × Row)) → IsStrictlySortedBy silo_cmp (keys_of rows) → is_newest silo rows ≡ true
    → ((q : Silo) → silo_cmp q silo ≡ Less → found_row rows q ≡ None) → is_known_endpoint silo rows ≡ false
known_first silo rows s newest none = false_from_ne_true (is_known_endpoint silo rows) (λ known. never (known_is silo rows s known))
  where
    never : IsOfEndpoint silo rows → ⊥
    never it = let e : Some it.row ≡ None = sym it.found ∙ none it.other (before_newest silo rows newest it) in cc

-- what the last row before the newest tells
pub known_last : (silo : Silo) (rows : List (Silo × Row)) → IsStrictlySortedBy silo_cmp (keys_of rows) → is_newest silo rows ≡ true
    → (last : Silo) (row : Row) → found_row rows last ≡ Some row → silo_cmp last silo ≡ Less
    → ((q : Silo) → silo_cmp q silo ≡ Less → IsSome (found_row rows q) → is_lt (silo_cmp last q) ≡ false)
    → shares_endpoint silo last ≡ is_known_endpoint silo rows
known_last silo rows s newest last row found before greatest = by (shares_endpoint silo last) refl
  where
    shares : IsOfEndpoint silo rows → shares_endpoint silo last ≡ true
    shares it =
        let earlier = before_newest silo rows newest it in
        let upto : is_gt (silo_cmp it.other last) ≡ false =
        ap is_gt (silo_cmp_total.antisymm it.other last) ∙ upto_from (silo_cmp last it.other) (greatest it.other earlier (ap is_some it.found)) in
        let one : shares_endpoint it.other last ≡ true =
        shares_between it.other last silo upto (ap is_gt before) (shares_back silo it.other it.shares) in
        shares_along silo it.other last it.shares one

    by : (b : Bool) → shares_endpoint silo last ≡ b → b ≡ is_known_endpoint silo rows
    by true at = sym (known_endpoint silo last rows row found at)
    by false at =
        sym (false_from_ne_true (is_known_endpoint silo rows)
        (λ known. let yes = shares (known_is silo rows s known) in cc (yes, at)))
