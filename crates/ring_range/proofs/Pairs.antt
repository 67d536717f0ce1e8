-- Two parts, and what a pair of parts has to be for two ranges to meet there.
use Rattle.std.proofs.Common.{◌≡◌, ℕ, zero, suc, ◌+◌, ◌<◌, ◌≤◌, ◌&&◌, ◌||◌, ◌⊎◌, nat_lt, Bool, true, false, cond, [], ◌∷◌, length, Any, AllPairs, refl, sym, ◌∙◌, ap, subst, arith, inl, inr}
use Rattle.std.specs.Bool.{Decides}
use Rattle.std.proofs.lemmas.Bool.{ltb-true, false≢true}
use Rattle.std.proofs.lemmas.Bool.Decides.{same_from_decides, Decides-at, Decides-like, Decides-and, Decides-or, nat_tests}
use Rattle.std.proofs.lemmas.List.Elements.{All-nil, All-cons, All-head}
use Rattle.ring_range.specs.Range.{circle, Range, IsRange, holds, Holds, distance, ahead}
use Rattle.ring_range.specs.Meet.{AreCommon, AreApart, AreFewest, AreNearerFirst, AreAbsentAtStart}
use Rattle.ring_range.proofs.Circle.{Decides-holds, hash-lt, distance-lt, distance-turn, distance-ahead, distance-itself, ahead-lt, Holds-ahead}

-- lists of two
Any-two : (P : Range → Type 0) (p q : Range) → Any P (p ∷ q ∷ []) → P p ⊎ P q
Any-two P p q (zero, x, lt, e, has) = inl (subst P (sym e) has)
Any-two P p q (suc zero, x, lt, e, has) = inr (subst P (sym e) has)
Any-two P p q (suc (suc k), x, lt, e, has) = absurd (omega arith)

Any-first : (P : Range → Type 0) (p q : Range) → P p → Any P (p ∷ q ∷ [])
Any-first P p q has = (0, p, omega arith, refl, has)

Any-second : (P : Range → Type 0) (p q : Range) → P q → Any P (p ∷ q ∷ [])
Any-second P p q has = (1, q, omega arith, refl, has)

Any-one : (P : Range → Type 0) (p : Range) → Any P (p ∷ []) → P p
Any-one P p (zero, x, lt, e, has) = subst P (sym e) has
Any-one P p (suc k, x, lt, e, has) = absurd (omega arith)

Any-only : (P : Range → Type 0) (p : Range) → P p → Any P (p ∷ [])
Any-only P p has = (0, p, omega arith, refl, has)

Any-none : (P : Range → Type 0) → Any P [] → ⊥
Any-none P (k, x, lt, e, has) = omega arith

AllPairs-two : (R : Range → Range → Type 0) (p q : Range) → R p q → AllPairs R (p ∷ q ∷ [])
AllPairs-two R p q h zero zero d lt below = absurd (omega arith)
AllPairs-two R p q h zero (suc zero) d lt below = h
AllPairs-two R p q h zero (suc (suc j)) d lt below = absurd (omega arith)
AllPairs-two R p q h (suc i) zero d lt below = absurd (omega arith)
AllPairs-two R p q h (suc i) (suc zero) d lt below = absurd (omega arith)
AllPairs-two R p q h (suc i) (suc (suc j)) d lt below = absurd (omega arith)

AllPairs-one : (R : Range → Range → Type 0) (p : Range) → AllPairs R (p ∷ [])
AllPairs-one R p i j d lt below = absurd (omega arith)

AllPairs-none : (R : Range → Range → Type 0) → AllPairs R []
AllPairs-none R i j d lt below = absurd (omega arith)

pairs_of : (R : Range → Range → Type 0) (p q : Range) (some more : Bool) → (more ≡ true → R p q)
    → AllPairs R (cond some (p ∷ cond more (q ∷ []) []) (cond more (q ∷ []) []))
pairs_of R p q true true h = AllPairs-two R p q (h refl)
pairs_of R p q true false h = AllPairs-one R p
pairs_of R p q false true h = AllPairs-one R q
pairs_of R p q false false h = AllPairs-none R

present_len : (p q : Range) (some more : Bool) → length (cond some (p ∷ cond more (q ∷ []) []) (cond more (q ∷ []) [])) ≡ cond some 1 0 +
    cond more 1 0
present_len p q true true = refl
present_len p q true false = refl
present_len p q false true = refl
present_len p q false false = refl

-- two parts, of which the second isn't empty: with a gap on either side
pub record Two (this first second : Range) : Type 0 where
  pub first_some : 0 < first.size
  pub first_at : first.start ≡ this.start
  pub gap : first.size < distance this.start second.start
  pub end : distance this.start second.start + second.size < circle

nearer : (this first second : Range) → Two this first second → distance this.start first.start < distance this.start second.start
nearer this first second two = rw (two.first_at, distance-itself this.start) (let gap = two.gap in omega arith)

inside : (near far more k : ℕ) → (k < near) ⊎ ((far ≤ k) × (k < far + more)) → (nat_lt k near || nat_lt (distance far k) more) ≡ true
inside near far more k (inl lt) = grind (arith, nat_tests)
inside near far more k (inr between) = grind (arith, nat_tests)

outside : (near far more k : ℕ) → near ≤ k → (k < far) ⊎ (far + more ≤ k) → k < circle → far + more < circle
    → (nat_lt k near || nat_lt (distance far k) more) ≡ false
outside near far more k past (inl lt) below end = grind (arith, nat_tests)
outside near far more k past (inr le) below end = grind (arith, nat_tests)

round : (from size near far end : ℕ) → from < circle → size ≤ circle → 0 < near → near < far → far < end → end < circle
    → nat_lt (distance from 0) size ≡ true → nat_lt (distance from near) size ≡ false → nat_lt (distance from far) size ≡ true
    → nat_lt (distance from end) size ≡ false → ⊥
round from size near far end f z n g m e at_0 at_near at_far at_end = grind (arith, nat_tests)

-- no one range has the steps from 0 on and the steps from `far` on, and not those between and not those behind
no_gaps : (from size near far more : ℕ) → from < circle → size ≤ circle → 0 < near → near < far → far + more < circle → 0 < more
    → ((k : ℕ) → k < circle → nat_lt (distance from k) size ≡ (nat_lt k near || nat_lt (distance far k) more)) → ⊥
no_gaps from size near far more f z n g e m same =
    let at_0 : nat_lt (distance from 0) size ≡ true = same 0 (omega arith) ∙ inside near far more 0 (inl n) in
    let at_near : nat_lt (distance from near) size ≡ false = same near (omega arith) ∙ outside near far more near (omega arith) (inl (omega arith)) (omega arith) (omega arith) in
    let at_far : nat_lt (distance from far) size ≡ true = same far (omega arith) ∙ inside near far more far (inr (omega arith, omega arith)) in
    let at_end : nat_lt (distance from (far + more)) size ≡ false = same (far + more) (omega arith) ∙ outside near far more (far + more) (omega arith) (inr (omega arith)) (omega arith) (omega arith) in
    round from size near far (far + more) f z n g (omega arith) e at_0 at_near at_far at_end

-- what the first and the second part are
pub record Pair (this other first second : Range) : Type 0 where
  pub first_ok : IsRange first
  pub second_ok : IsRange second
  pub both : (hash : ℕ) → hash < circle → (holds first hash || holds second hash) ≡ (holds this hash && holds other hash)
  pub apart : (hash : ℕ) → hash < circle → (holds first hash && holds second hash) ≡ false
  pub first_absent : first.size ≡ 0 → first.start ≡ this.start
  pub second_absent : second.size ≡ 0 → second.start ≡ this.start
  pub two : 0 < second.size → Two this first second

module _ (this other first second : Range) (t : IsRange this) (o : IsRange other) (p : Pair this other first second) where
  pub pair_common : AreCommon this other (first ∷ second ∷ [])
  pair_common hash = (to, from)
    where
      decided : hash < circle → Decides (holds this hash && holds other hash) (Holds this hash × Holds other hash)
      decided h = Decides-and _ _ (Decides-holds this hash t h) (Decides-holds other hash o h)

      parts : hash < circle → Decides (holds this hash && holds other hash) (Holds first hash ⊎ Holds second hash)
      parts h =
          Decides-at _ _ (sym (p.both hash h)) (Decides-or _ _ (Decides-holds first hash p.first_ok h)
          (Decides-holds second hash p.second_ok h))

      below : Holds first hash ⊎ Holds second hash → hash < circle
      below (inl has) = hash-lt first hash p.first_ok has
      below (inr has) = hash-lt second hash p.second_ok has

      to : Any (λ part. Holds part hash) (first ∷ second ∷ []) → Holds this hash × Holds other hash
      to some =
          let one = Any-two (λ part. Holds part hash) first second some in
          (decided (below one)).0 ((parts (below one)).1 one)

      back : Holds first hash ⊎ Holds second hash → Any (λ part. Holds part hash) (first ∷ second ∷ [])
      back (inl has) = Any-first (λ part. Holds part hash) first second has
      back (inr has) = Any-second (λ part. Holds part hash) first second has

      from : Holds this hash × Holds other hash → Any (λ part. Holds part hash) (first ∷ second ∷ [])
      from has =
          let h : hash < circle = hash-lt this hash t has.0 in
          back ((parts h).0 ((decided h).1 has))

  pub pair_apart : AreApart (first ∷ second ∷ [])
  pair_apart = AllPairs-two (λ part later. (hash : ℕ) → ¬ (Holds part hash × Holds later hash)) first second (λ hash has.
      let h : hash < circle = hash-lt first hash p.first_ok has.0 in
      let together = (Decides-and _ _ (Decides-holds first hash p.first_ok h) (Decides-holds second hash p.second_ok h)).1 has in
      absurd (false≢true (sym (p.apart hash h) ∙ together)))

  pub pair_absent : AreAbsentAtStart this (first ∷ second ∷ [])
  pair_absent =
      let P : Range → Type 0 = λ part. part.size ≡ 0 → part.start ≡ this.start in
      All-cons P first (second ∷ []) p.first_absent (All-cons P second [] p.second_absent (All-nil P))

  pub pair_nearer : AreNearerFirst this (first ∷ second ∷ [])
  pair_nearer =
      pairs_of (λ part later. distance this.start part.start < distance this.start later.start) first second (nat_lt 0 first.size)
      (nat_lt 0 second.size)
      (λ e. let two = p.two (ltb-true 0 second.size e) in nearer this first second two)

  -- a range of the common hashes, at so many steps from this one's start
  single_at : (range : Range) → IsRange range → AreCommon this other (range ∷ []) → (k : ℕ) → k < circle
      → nat_lt (distance (distance this.start range.start) k) range.size
      ≡ (holds first (ahead this.start k) || holds second (ahead this.start k))
  single_at range r same k lt =
      let hash : ℕ = ahead this.start k in
      let h : hash < circle = ahead-lt this.start k t.start_below (omega arith) in
      let held : Decides (holds range hash) (Holds this hash × Holds other hash) =
      Decides-like _ (λ has. (same hash).0 (Any-only (λ part. Holds part hash) range has))
      (λ has. Any-one (λ part. Holds part hash) range ((same hash).1 has)) (Decides-holds range hash r h) in
      let both : Decides (holds this hash && holds other hash) (Holds this hash × Holds other hash) = Decides-and _ _ (Decides-holds this hash t h) (Decides-holds other hash o h) in
      let turned : distance range.start hash ≡ distance (distance this.start range.start) k =
      distance-turn this.start range.start hash t.start_below r.start_below h
      ∙ ap (distance (distance this.start range.start)) (distance-ahead this.start k t.start_below lt) in
      ap (λ d. nat_lt d range.size) (sym turned) ∙ same_from_decides _ _ held both ∙ sym (p.both hash h)

  -- the same, where there are two parts
  single_steps : (range : Range) → IsRange range → AreCommon this other (range ∷ []) → Two this first second → (k : ℕ) → k < circle
      → nat_lt (distance (distance this.start range.start) k) range.size
      ≡ (nat_lt k first.size || nat_lt (distance (distance this.start second.start) k) second.size)
  single_steps range r same two k lt =
      let hash : ℕ = ahead this.start k in
      let h : hash < circle = ahead-lt this.start k t.start_below (omega arith) in
      let steps : distance this.start hash ≡ k = distance-ahead this.start k t.start_below lt in
      let front : holds first hash ≡ nat_lt k first.size = ap (λ place. nat_lt (distance place hash) first.size) two.first_at ∙ ap (λ d. nat_lt d first.size) steps in
      let back : holds second hash ≡ nat_lt (distance (distance this.start second.start) k) second.size =
      ap (λ d. nat_lt d second.size) (distance-turn this.start second.start hash t.start_below p.second_ok.start_below h
      ∙ ap (distance (distance this.start second.start)) steps) in
      single_at range r same k lt ∙ ap (λ b. b || holds second hash) front ∙ ap (λ b. nat_lt k first.size || b) back

  -- no one range has the common hashes where the second part isn't empty
  no_single : (range : Range) → IsRange range → AreCommon this other (range ∷ []) → ¬ (0 < second.size)
  no_single range r same some =
      let two = p.two some in
      no_gaps (distance this.start range.start) range.size first.size (distance this.start second.start) second.size
      (distance-lt this.start range.start t.start_below r.start_below) r.size_within two.first_some two.gap two.end some
      (single_steps range r same two)

  -- a part that has a hash has a common one
  some_first : AreCommon this other [] → ¬ (0 < first.size)
  some_first none some =
      let has = Holds-ahead first 0 p.first_ok some in
      Any-none (λ part. Holds part (ahead first.start 0))
      ((none (ahead first.start 0)).1 ((pair_common (ahead first.start 0)).0
      (Any-first (λ part. Holds part (ahead first.start 0)) first second has)))

  some_second : AreCommon this other [] → ¬ (0 < second.size)
  some_second none some =
      let has = Holds-ahead second 0 p.second_ok some in
      Any-none (λ part. Holds part (ahead second.start 0))
      ((none (ahead second.start 0)).1 ((pair_common (ahead second.start 0)).0
      (Any-second (λ part. Holds part (ahead second.start 0)) first second has)))

  pub pair_fewest : AreFewest this other (first ∷ second ∷ [])
  pair_fewest [] ok same =
      let a = some_first same in
      let b = some_second same in
      rw present_len (grind (arith, nat_tests))
  pair_fewest (r ∷ []) ok same =
      let b = no_single r (All-head IsRange r [] ok) same in
      rw present_len (grind (arith, nat_tests))
  pair_fewest (r ∷ s ∷ rest) ok same = rw present_len (grind (arith, nat_tests))
