-- The ranges of a silo have just the hashes that it owns, each once.
use Rattle.std.proofs.Common.{◌≡◌, ◌≢◌, ◌⊎◌, ℕ, ◌+◌, ◌<◌, ◌≤◌, ◌&&◌, List, [], ◌∷◌, map, Bool, true, false, cond, Option, Some, None, Result, Ok, Err, refl, sym, ◌∙◌, ap, subst, inl, inr, arith}
use Rattle.std.specs.Prelude.{count_by}
use Rattle.std.specs.List.{All, filter}
use Rattle.std.specs.List.Sorted.{IsStrictlySortedBy}
use Rattle.std.specs.Result.{IfOk}
use Rattle.std.proofs.lemmas.Bool.{cases_lt, cases_order, ltb-true, false_from_ne_true}
use Rattle.std.proofs.lemmas.Bool.Decides.{Decides-ltb}
use Rattle.std.proofs.lemmas.List.Recursion.{is_count_by}
use Rattle.silo_address.specs.Silo.{Silo, silo_eq}
use Rattle.ring_range.specs.Range.{circle, Range, holds}
use Rattle.hash_ring.specs.declared.point.Point.{Point}
use Rattle.hash_ring.specs.Point.{back, point_cmp, IsOnCircle}
use Rattle.hash_ring.specs.Owner.{owner_of, owns, is_of_silo, IsOwner}
use Rattle.hash_ring.specs.Ranges.{steps_to, room, range_of, is_point, owns_its_place, ranges_of, CoverOwned}
use Rattle.hash_ring.proofs.Members.{In, In-from_Contains, All-of, All-from_each}
use Rattle.hash_ring.proofs.Order.{point_cmp_total, Decides-point}
use Rattle.hash_ring.proofs.StrictOrder.{Rising, Rising-from_sorted, never_itself}
use Rattle.hash_ring.proofs.Nearness.{back_below, back_above, back_exact}
use Rattle.hash_ring.proofs.Ownership.{owner_is, owner_from, one_owner}
use Rattle.hash_ring.proofs.Rooms.{least_above, least_below, steps_itself, steps_other}

-- ---- three places on the circle: what is nearer back from the hash lies between
nearer_between : (hash p q : ℕ) → p < circle → q < circle → hash < circle → back hash q < back hash p → back q p ≤ back hash p
nearer_between hash p q on_p on_q on_hash nearer = by (cases_lt hash p) (cases_lt hash q) (cases_lt q p)
  where
    by : (hash < p) ⊎ (p ≤ hash) → (hash < q) ⊎ (q ≤ hash) → (q < p) ⊎ (p ≤ q) → back q p ≤ back hash p
    by (inl a) (inl b) (inl c) = let x = back_above hash p a in let y = back_above hash q b in omega arith
    by (inl a) (inl b) (inr c) = let x = back_above hash p a in let y = back_above hash q b in let z = back_below q p c in omega arith
    by (inl a) (inr b) (inl c) = let x = back_above hash p a in let z = back_above q p c in omega arith
    by (inl a) (inr b) (inr c) = absurd (omega arith)
    by (inr a) (inl b) any = let x = back_below hash p a in let y = back_above hash q b in absurd (omega arith)
    by (inr a) (inr b) (inl c) = let x = back_below hash p a in let y = back_below hash q b in absurd (omega arith)
    by (inr a) (inr b) (inr c) = let x = back_below hash p a in let y = back_below hash q b in let z = back_below q p c in omega arith

farther_beyond : (hash p q : ℕ) → p < circle → q < circle → hash < circle → back hash p < back hash q → back hash p < back q p
farther_beyond hash p q on_p on_q on_hash farther = by (cases_lt hash p) (cases_lt hash q) (cases_lt q p)
  where
    by : (hash < p) ⊎ (p ≤ hash) → (hash < q) ⊎ (q ≤ hash) → (q < p) ⊎ (p ≤ q) → back hash p < back q p
    by (inl a) (inl b) (inl c) = let x = back_above hash p a in let y = back_above hash q b in let z = back_above q p c in omega arith
    by (inl a) (inl b) (inr c) = let x = back_above hash p a in let y = back_above hash q b in absurd (omega arith)
    by (inl a) (inr b) any = let x = back_above hash p a in let y = back_below hash q b in absurd (omega arith)
    by (inr a) (inl b) (inl c) = absurd (omega arith)
    by (inr a) (inl b) (inr c) = let x = back_below hash p a in let z = back_below q p c in omega arith
    by (inr a) (inr b) (inl c) = let x = back_below hash p a in let y = back_below hash q b in let z = back_above q p c in omega arith
    by (inr a) (inr b) (inr c) = let x = back_below hash p a in let y = back_below hash q b in absurd (omega arith)

-- ---- the range of a point that owns its place has just the hashes that the point owns
itself : (points : List Point) (p : Point) (o : Option Point) → owner_of points p.place ≡ o → is_point p o ≡ true → IsOwner points p.place p
itself points p None is its = cc
itself points p (Some q) is its = subst (λ x. IsOwner points p.place x) (sym ((Decides-point p q).0 its)) (owner_is points p.place q is)

not_nearer : (points : List Point) (hash : ℕ) (p q : Point) → hash < circle → All IsOnCircle points → In p points → In q points
    → back hash p.place < room points p.place
    → (back hash q.place < back hash p.place) ⊎ (back hash p.place ≤ back hash q.place) → back hash p.place ≤ back hash q.place
not_nearer points hash p q on_hash on_circle in_p in_q has (inr upto) = upto
not_nearer points hash p q on_hash on_circle in_p in_q has (inl nearer) =
    let least = least_below (λ (x : Point). steps_to p.place x.place) circle points q in_q in
    let apart : q.place ≢ p.place = λ same. let e = ap (λ n. back hash n) same in omega arith in
    let steps = steps_other p.place q.place apart in
    let between = nearer_between hash p.place q.place (All-of IsOnCircle points p on_circle in_p) (All-of IsOnCircle points q on_circle in_q) on_hash nearer in
    absurd (omega arith)

pub owner_by_range : (points : List Point) (hash : ℕ) (p : Point) → hash < circle → All IsOnCircle points → owns_its_place points p ≡ true
    → holds (range_of points p) hash ≡ true → IsOwner points hash p
owner_by_range points hash p on_hash on_circle first has =
    let there = itself points p (owner_of points p.place) refl first in
    let in_p = In-from_Contains p points there.there in
    let within : back hash p.place < room points p.place = ltb-true _ _ has in
    record {
      there = there.there;
      nearest = All-from_each (λ q. back hash p.place ≤ back hash q.place) points
          (λ q in_q. not_nearer points hash p q on_hash on_circle in_p in_q within (cases_lt (back hash q.place) (back hash p.place)));
      first_silo = there.first_silo;
      first_index = there.first_index;
    }

pub owner_owns_its_place : (points : List Point) (hash : ℕ) (p : Point) → All IsOnCircle points → IsOwner points hash p
    → owns_its_place points p ≡ true
owner_owns_its_place points hash p on_circle is =
    let none : back p.place p.place ≡ 0 = back_below p.place p.place (omega arith) ∙ omega arith in
    let there : IsOwner points p.place p = record {
      there = is.there;
      nearest = All-from_each (λ q. back p.place p.place ≤ back p.place q.place) points (λ q in_q. omega arith);
      first_silo = is.first_silo;
      first_index = is.first_index;
    } in
    ap (λ o. is_point p o) (owner_from points p.place p (All-of IsOnCircle points p on_circle (In-from_Contains p points is.there))
    on_circle there) ∙ (Decides-point p p).1 refl

back_within : (hash p : ℕ) → p < circle → hash < circle → back hash p < circle
back_within hash p on_p on_hash = by (cases_lt hash p)
  where
    by : (hash < p) ⊎ (p ≤ hash) → back hash p < circle
    by (inl a) = let x = back_above hash p a in omega arith
    by (inr a) = let x = back_below hash p a in omega arith

steps_beyond : (hash p q : ℕ) → p < circle → q < circle → hash < circle → back hash p ≤ back hash q → (p ≡ q) ⊎ ((p < q) ⊎ (q < p))
    → back hash p + 1 ≤ steps_to p q
steps_beyond hash p q on_p on_q on_hash upto (inl same) =
    let is = steps_itself p q (sym same) in let below = back_within hash p on_p on_hash in omega arith
steps_beyond hash p q on_p on_q on_hash upto (inr differ) =
    let apart : q ≢ p = λ same. go same differ in
    let steps = steps_other p q apart in
    let farther : back hash p < back hash q = strictly (cases_order (back hash p) (back hash q)) apart in
    let beyond = farther_beyond hash p q on_p on_q on_hash farther in
    omega arith
  where
    go : q ≡ p → (p < q) ⊎ (q < p) → ⊥
    go same (inl a) = omega arith
    go same (inr a) = omega arith

    strictly : (back hash p ≡ back hash q) ⊎ ((back hash p < back hash q) ⊎ (back hash q < back hash p)) → q ≢ p → back hash p < back hash q
    strictly (inl tied) apart = absurd (apart (sym (back_exact hash p q on_p on_q on_hash tied)))
    strictly (inr (inl less)) apart = less
    strictly (inr (inr more)) apart = absurd (omega arith)

pub owner_has : (points : List Point) (hash : ℕ) (p : Point) → hash < circle → All IsOnCircle points → IsOwner points hash p
    → holds (range_of points p) hash ≡ true
owner_has points hash p on_hash on_circle is =
    let on_p = All-of IsOnCircle points p on_circle (In-from_Contains p points is.there) in
    let below = back_within hash p.place on_p on_hash in
    let within : back hash p.place + 1 ≤ room points p.place =
    least_above (λ (x : Point). steps_to p.place x.place) (back hash p.place + 1) circle points (omega arith) (λ q in_q.
    steps_beyond hash p.place q.place on_p (All-of IsOnCircle points q on_circle in_q) on_hash
    (All-of (λ x. back hash p.place ≤ back hash x.place) points q is.nearest in_q) (cases_order p.place q.place)) in
    (Decides-ltb _ _).1 (omega arith)

-- ---- how many of the ranges have the hash
abbrev hits : ℕ → List Range → ℕ
hits hash [] = 0
hits hash (r ∷ rs) = cond (holds r hash) (1 + hits hash rs) (hits hash rs)

counted : (hash : ℕ) (rs : List Range) → hits hash rs ≡ count_by (λ range. holds range hash) rs
counted hash rs = is_count_by (hits hash) (λ range. holds range hash) refl (λ _ _. refl) rs

-- whether a point is the silo's, owns its place, and has the hash from there on
abbrev has_it : List Point → Silo → ℕ → Point → Bool
has_it points silo hash p = (silo_eq p.silo silo && owns_its_place points p) && holds (range_of points p) hash

abbrev hits_of : List Point → Silo → ℕ → List Point → ℕ
hits_of points silo hash some = hits hash (map (range_of points) (filter (λ p. silo_eq p.silo silo && owns_its_place points p) some))

one_step : (points : List Point) (silo : Silo) (hash : ℕ) (p : Point) (ps : List Point)
    → hits_of points silo hash (p ∷ ps) ≡ cond (has_it points silo hash p) (1 + hits_of points silo hash ps) (hits_of points silo hash ps)
one_step points silo hash p ps = by (silo_eq p.silo silo && owns_its_place points p)
  where
    by : (b : Bool) → hits hash (map (range_of points)
        (cond b (p ∷ filter (λ p. silo_eq p.silo silo && owns_its_place points p) ps)
        (filter (λ p. silo_eq p.silo silo && owns_its_place points p) ps)))
        ≡ cond (b && holds (range_of points p) hash) (1 + hits_of points silo hash ps) (hits_of points silo hash ps)
    by true = refl
    by false = refl

no_hit : (points : List Point) (silo : Silo) (hash : ℕ) (some : List Point) → ((p : Point) → In p some → has_it points silo hash p ≡ false)
    → hits_of points silo hash some ≡ 0
no_hit points silo hash [] none = refl
no_hit points silo hash (p ∷ ps) none =
    one_step points silo hash p ps
    ∙ ap (λ b. cond b (1 + hits_of points silo hash ps) (hits_of points silo hash ps)) (none p (inl refl))
    ∙ no_hit points silo hash ps (λ q there. none q (inr there))

one_hit : (points : List Point) (silo : Silo) (hash : ℕ) (owner : Point) → has_it points silo hash owner ≡ true → (some : List Point)
    → Rising point_cmp some → In owner some
    → ((p : Point) → In p some → has_it points silo hash p ≡ true → p ≡ owner) → hits_of points silo hash some ≡ 1
one_hit points silo hash owner its [] rising there only = absurd there
one_hit points silo hash owner its (p ∷ ps) rising there only =
    one_step points silo hash p ps ∙ by (has_it points silo hash p) refl there
    (λ later. one_hit points silo hash owner its ps rising.1 later (λ q in_q. only q (inr in_q)))
  where
    none_later : p ≡ owner → (q : Point) → In q ps → has_it points silo hash q ≡ false
    none_later same q in_q =
        false_from_ne_true (has_it points silo hash q) (λ hit.
        never_itself point_cmp_total p (ap (λ x. point_cmp p x) (same ∙ sym (only q (inr in_q) hit)) ∙ rising.0 q in_q))

    by : (b : Bool) → has_it points silo hash p ≡ b → In owner (p ∷ ps) → (In owner ps → hits_of points silo hash ps ≡ 1)
        → cond b (1 + hits_of points silo hash ps) (hits_of points silo hash ps) ≡ 1
    by true hit any again = ap (λ n. 1 + n) (no_hit points silo hash ps (none_later (only p (inl refl) hit)))
    by false miss (inl here) again = let no : true ≡ false = sym its ∙ ap (has_it points silo hash) (sym here) ∙ miss in cc
    by false miss (inr later) again = again later

parts_of : (a b c : Bool) → ((a && b) && c) ≡ true → (a ≡ true) × (b ≡ true) × (c ≡ true)
parts_of true true c all = (refl, refl, all)
parts_of true false c all = cc
parts_of false b c all = cc

covers_one : (points : List Point) (silo : Silo) (hash : ℕ) → hash < circle → IsStrictlySortedBy point_cmp points → All IsOnCircle points
    → (o : Option Point) → owner_of points hash ≡ o
    → (mine : Bool) → is_of_silo silo o ≡ mine → hits_of points silo hash points ≡ cond mine 1 0
covers_one points silo hash on_hash sorted on_circle None is mine of =
    no_hit points silo hash points (λ p there. false_from_ne_true (has_it points silo hash p) (λ hit.
    let parts = parts_of (silo_eq p.silo silo) (owns_its_place points p) (holds (range_of points p) hash) hit in
    let no : None ≡ Some p = sym is ∙ owner_from points hash p on_hash on_circle (owner_by_range points hash p on_hash on_circle parts.1 parts.2) in cc))
    ∙ ap (λ b. cond b 1 0) of
covers_one points silo hash on_hash sorted on_circle (Some owner) is true of =
    let owns = owner_is points hash owner is in
    let its : has_it points silo hash owner ≡ true =
    ap (λ a. (a && owns_its_place points owner) && holds (range_of points owner) hash) of
    ∙ ap (λ b. b && holds (range_of points owner) hash) (owner_owns_its_place points hash owner on_circle owns)
    ∙ owner_has points hash owner on_hash on_circle owns in
    one_hit points silo hash owner its points (Rising-from_sorted point_cmp points sorted) (In-from_Contains owner points owns.there)
    (λ p there hit.
    let parts = parts_of (silo_eq p.silo silo) (owns_its_place points p) (holds (range_of points p) hash) hit in
    one_owner points hash p owner on_hash on_circle (owner_by_range points hash p on_hash on_circle parts.1 parts.2) owns)
covers_one points silo hash on_hash sorted on_circle (Some owner) is false of =
    let owns = owner_is points hash owner is in
    no_hit points silo hash points (λ p there. false_from_ne_true (has_it points silo hash p) (λ hit.
    let parts = parts_of (silo_eq p.silo silo) (owns_its_place points p) (holds (range_of points p) hash) hit in
    let same : p ≡ owner = one_owner points hash p owner on_hash on_circle (owner_by_range points hash p on_hash on_circle parts.1 parts.2) owns in
    let no : true ≡ false = sym parts.0 ∙ ap (λ (x : Point). silo_eq x.silo silo) same ∙ of in cc))

pub ranges_cover : (points : List Point) (silo : Silo) → IsStrictlySortedBy point_cmp points → All IsOnCircle points
    → CoverOwned points silo (ranges_of points silo)
ranges_cover points silo sorted on_circle hash on_hash =
    sym (counted hash (ranges_of points silo)) ∙ covers_one points silo hash on_hash sorted on_circle (owner_of points hash) refl
    (owns points silo hash) refl

pub cover_if : {T E : Type 0} (r : Result T E) (items : T → List Range) (points : List Point) (silo : Silo)
    → IsStrictlySortedBy point_cmp points → All IsOnCircle points
    → IfOk r (λ x. items x ≡ ranges_of points silo) → IfOk r (λ x. CoverOwned points silo (items x))
cover_if (Ok x) items points silo sorted on_circle is =
    subst (λ l. CoverOwned points silo l) (sym is) (ranges_cover points silo sorted on_circle)
cover_if (Err e) items points silo sorted on_circle is = tt
