-- How far back a place lies, and the order of points by it.
use Rattle.std.proofs.Common.{◌≡◌, ◌⊎◌, ℕ, ◌+◌, ◌-◌, ◌<◌, ◌≤◌, false, refl, sym, ◌∙◌, ap, inl, inr, arith, if◌then◌else◌}
use Rattle.std.specs.Cmp.{IsTotalOrder}
use Rattle.std.specs.Ordering.{nat_cmp, ordering_then, is_gt}
use Rattle.std.specs.declared.cmp.Ordering.{Ordering}
use Rattle.std.specs.declared.cmp.Ordering.TheVariants.{Less, Equal, Greater}
use Rattle.std.proofs.lemmas.Bool.{le-leb, lt-leb, cases_lt}
use Rattle.std.proofs.lemmas.Cmp.{then_total, on_total, nat_cmp_total, tied_itself}
use Rattle.std.proofs.lemmas.Map.Lookups.{exact_unsigned}
use Rattle.std.proofs.lemmas.Map.Keys.{le_from_not_gt}
use Rattle.texts.proofs.Orderings.{first_upto, level, upto_nat}
use Rattle.silo_address.specs.Silo.{silo_cmp}
use Rattle.silo_address.proofs.Order.{silo_cmp_total, silo_cmp_exact}
use Rattle.ring_range.specs.Range.{circle}
use Rattle.hash_ring.specs.declared.point.Point.{Point}
use Rattle.hash_ring.specs.Point.{back, IsOnCircle}
use Rattle.hash_ring.specs.Owner.{nearness_cmp}
use Rattle.hash_ring.proofs.Order.{same_point}

-- ---- by cases
pub back_below : (hash place : ℕ) → place ≤ hash → back hash place ≡ hash - place
back_below hash place below = let test = le-leb place hash below in ap (λ b. if b then hash - place else (hash + circle) - place) test

pub back_above : (hash place : ℕ) → hash < place → back hash place ≡ (hash + circle) - place
back_above hash place above = let test = lt-leb _ _ above in ap (λ b. if b then hash - place else (hash + circle) - place) test

-- two places equally far back are one place
pub back_exact : (hash p q : ℕ) → p < circle → q < circle → hash < circle → back hash p ≡ back hash q → p ≡ q
back_exact hash p q in_p in_q in_hash same = by (cases_lt hash p) (cases_lt hash q)
  where
    by : (hash < p) ⊎ (p ≤ hash) → (hash < q) ⊎ (q ≤ hash) → p ≡ q
    by (inl a) (inl b) =
        let e : (hash + circle) - p ≡ (hash + circle) - q = sym (back_above hash p a) ∙ same ∙ back_above hash q b in omega arith
    by (inl a) (inr b) = let e : (hash + circle) - p ≡ hash - q = sym (back_above hash p a) ∙ same ∙ back_below hash q b in omega arith
    by (inr a) (inl b) = let e : hash - p ≡ (hash + circle) - q = sym (back_below hash p a) ∙ same ∙ back_above hash q b in omega arith
    by (inr a) (inr b) = let e : hash - p ≡ hash - q = sym (back_below hash p a) ∙ same ∙ back_below hash q b in omega arith

-- ---- points by nearness
pub nearness_total : (hash : ℕ) → IsTotalOrder (nearness_cmp hash)
nearness_total hash =
    then_total (on_total (λ p. back hash p.place) nat_cmp_total)
    (then_total (on_total (λ p. p.silo) silo_cmp_total) (on_total (λ p. p.index) nat_cmp_total))

-- what it says that one point isn't farther back than another
pub record IsNoFarther (hash : ℕ) (p q : Point) : Type 0 where
  pub nearer : back hash p.place ≤ back hash q.place
  pub silo : q.place ≡ p.place → is_gt (silo_cmp p.silo q.silo) ≡ false
  pub index : q.place ≡ p.place → q.silo ≡ p.silo → p.index ≤ q.index

tied_place : (hash : ℕ) (p q : Point) → q.place ≡ p.place → nat_cmp (back hash p.place) (back hash q.place) ≡ Equal
tied_place hash p q same = ap (λ n. nat_cmp (back hash p.place) (back hash n)) same ∙ tied_itself nat_cmp_total (back hash p.place)

pub no_farther : (hash : ℕ) (p q : Point) → is_gt (nearness_cmp hash p q) ≡ false → IsNoFarther hash p q
no_farther hash p q upto =
    let silo_upto : q.place ≡ p.place → is_gt (ordering_then (silo_cmp p.silo q.silo) (nat_cmp p.index q.index)) ≡ false =
    λ same. sym (ap (λ r. is_gt (ordering_then r (ordering_then (silo_cmp p.silo q.silo) (nat_cmp p.index q.index))))
    (tied_place hash p q same)) ∙ upto in
    record {
      nearer =
          le_from_not_gt _ _ (first_upto (nat_cmp (back hash p.place) (back hash q.place))
          (ordering_then (silo_cmp p.silo q.silo) (nat_cmp p.index q.index)) upto);
      silo = λ same. first_upto (silo_cmp p.silo q.silo) (nat_cmp p.index q.index) (silo_upto same);
      index = λ same silo.
          let tied : silo_cmp p.silo q.silo ≡ Equal = ap (λ s. silo_cmp p.silo s) silo ∙ tied_itself silo_cmp_total p.silo in
          le_from_not_gt _ _ (sym (ap (λ r. is_gt (ordering_then r (nat_cmp p.index q.index))) tied) ∙ silo_upto same);
    }

by_silo : (p q : Point) (r : Ordering) → silo_cmp p.silo q.silo ≡ r → is_gt r ≡ false → (q.silo ≡ p.silo → p.index ≤ q.index)
    → is_gt (ordering_then r (nat_cmp p.index q.index)) ≡ false
by_silo p q Less is upto index = refl
by_silo p q Equal is upto index = upto_nat p.index q.index (index (sym (silo_cmp_exact p.silo q.silo is)))
by_silo p q Greater is upto index = upto

by_place : (hash : ℕ) (p q : Point) → (r : Ordering) → nat_cmp (back hash p.place) (back hash q.place) ≡ r → is_gt r ≡ false
    → (r ≡ Equal → is_gt (ordering_then (silo_cmp p.silo q.silo) (nat_cmp p.index q.index)) ≡ false)
    → is_gt (ordering_then r (ordering_then (silo_cmp p.silo q.silo) (nat_cmp p.index q.index))) ≡ false
by_place hash p q Less is upto later = refl
by_place hash p q Equal is upto later = later refl
by_place hash p q Greater is upto later = upto

pub from_no_farther : (hash : ℕ) (p q : Point) → hash < circle → IsOnCircle p → IsOnCircle q → IsNoFarther hash p q
    → is_gt (nearness_cmp hash p q) ≡ false
from_no_farther hash p q on_hash on_p on_q upto =
    by_place hash p q (nat_cmp (back hash p.place) (back hash q.place)) refl (upto_nat _ _ upto.nearer) (λ tied.
    let same : q.place ≡ p.place = sym (back_exact hash p.place q.place on_p on_q on_hash (exact_unsigned _ _ tied)) in
    by_silo p q (silo_cmp p.silo q.silo) refl (upto.silo same) (upto.index same))

-- two points neither of which is farther back are one point
pub one_nearest : (hash : ℕ) (p q : Point) → hash < circle → IsOnCircle p → IsOnCircle q → IsNoFarther hash p q → IsNoFarther hash q p
    → p ≡ q
one_nearest hash p q on_hash on_p on_q pq qp =
    let place : p.place ≡ q.place = back_exact hash p.place q.place on_p on_q on_hash (let l = pq.nearer in let r = qp.nearer in omega arith) in
    let silo : p.silo ≡ q.silo = silo_cmp_exact p.silo q.silo (level (silo_cmp p.silo q.silo) (pq.silo (sym place)) (sym (ap is_gt (silo_cmp_total.antisymm q.silo p.silo)) ∙ qp.silo place)) in
    same_point p q place silo (let l = pq.index (sym place) (sym silo) in let r = qp.index place silo in omega arith)
