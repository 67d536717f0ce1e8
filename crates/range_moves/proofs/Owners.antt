-- The owners of the hashes of a range that no place cuts: they are those of its first hash.
use Rattle.std.proofs.Common.{◌≡◌, ℕ, ◌+◌, ◌<◌, ◌≤◌, ◌⊎◌, Bool, true, false, cond, List, [], ◌∷◌, All, Option, Some, None, IfSome, refl, ◌∙◌, ap, arith, inl, inr}
use Rattle.std.specs.Ordering.{nat_cmp, on, then_cmp, is_lt}
use Rattle.std.specs.declared.cmp.Ordering.{Ordering}
use Rattle.std.proofs.lemmas.Bool.{cases_lt}
use Rattle.std.proofs.lemmas.Bool.Decides.{nat_tests}
use Rattle.std.proofs.lemmas.List.Elements.{All-head, All-tail}
use Rattle.silo_address.specs.Silo.{silo_cmp}
use Rattle.ring_range.specs.Range.{circle, Range, IsRange, distance}
use Rattle.ring_range.specs.Cut.{IsInside}
use Rattle.hash_ring.specs.declared.Point.{Point}
use Rattle.hash_ring.specs.Owner.{nearness_cmp, nearer_of, owner_of}

-- the place is a hash, and at the start of the range or outside
abbrev pub IsClear : Range → ℕ → Type 0
IsClear range place = (place < circle) × (¬ (IsInside range place))

clear_cases : (range : Range) (place : ℕ) → IsClear range place → (distance range.start place ≡ 0)
    ⊎ (range.size ≤ distance range.start place)
clear_cases range place clear =
    elim (cases_lt 0 (distance range.start place)) [
      | inl up ↦ elim (cases_lt (distance range.start place) range.size)
          [ inl below ↦ absurd (clear.1 (up, below)) | inr behind ↦ inr behind ]
      | inr none ↦ inl (omega arith)
    ]

further : (start place hash : ℕ) → start < circle → place < circle → hash < circle → (distance start place ≡ 0)
    ⊎ (distance start hash < distance start place) → distance place hash ≡ distance place start + distance start hash
further start place hash s p h (inl none) = grind (arith, nat_tests)
further start place hash s p h (inr behind) = grind (arith, nat_tests)

weaker : (a b c : ℕ) → c < b → (a ≡ 0) ⊎ (b ≤ a) → (a ≡ 0) ⊎ (c < a)
weaker a b c lt (inl none) = inl none
weaker a b c lt (inr behind) = inr (omega arith)

nat_cmp-shift : (a b k : ℕ) → nat_cmp (a + k) (b + k) ≡ nat_cmp a b
nat_cmp-shift a b k = grind (arith, nat_tests)

module _ (range : Range) (hash : ℕ) (ok : IsRange range) (h : hash < circle) (held : distance range.start hash < range.size) where
  -- from the hash it is further back to a place than from the start, by the same for all places
  back_from : (place : ℕ) → IsClear range place → distance place hash ≡ distance place range.start + distance range.start hash
  back_from place clear =
      further range.start place hash ok.start_below clear.0 h (weaker _ range.size _ held (clear_cases range place clear))

  same_back_cmp : (a b : ℕ) → IsClear range a → IsClear range b
      → nat_cmp (distance a hash) (distance b hash) ≡ nat_cmp (distance a range.start) (distance b range.start)
  same_back_cmp a b p q =
      ap (λ n. nat_cmp n (distance b hash)) (back_from a p)
      ∙ ap (nat_cmp (distance a range.start + distance range.start hash)) (back_from b q)
      ∙ nat_cmp-shift (distance a range.start) (distance b range.start) (distance range.start hash)

  by_back : Ordering → Point → Point → Ordering
  by_back first a b = then_cmp (λ _ _. first) (then_cmp (on (λ (p : Point). p.silo) silo_cmp) (on (λ (p : Point). p.index) nat_cmp)) a b

  same_nearness : (a b : Point) → IsClear range a.place → IsClear range b.place → nearness_cmp hash a b ≡ nearness_cmp range.start a b
  unfolding by_back
  same_nearness a b p q = ap (λ first. by_back first a b) (same_back_cmp a.place b.place p q)

  same_nearer : (point : Point) (other : Option Point) → IsClear range point.place → IfSome other (λ p. IsClear range p.place)
      → nearer_of hash point other ≡ nearer_of range.start point other
  same_nearer point None p q = refl
  same_nearer point (Some other) p q = ap (λ first. cond (is_lt first) other point) (same_nearness other point q p)

  clear_nearer : (point : Point) (other : Option Point) → IsClear range point.place → IfSome other (λ p. IsClear range p.place)
      → IsClear range (nearer_of hash point other).place
  clear_nearer point None p q = p
  clear_nearer point (Some other) p q = either (is_lt (nearness_cmp hash other point)) other point q p
    where
      either : (b : Bool) (x y : Point) → IsClear range x.place → IsClear range y.place → IsClear range (cond b x y).place
      either true x y p q = p
      either false x y p q = q

  clear_owner : (points : List Point) → All (λ p. IsClear range p.place) points → IfSome (owner_of points hash) (λ p. IsClear range p.place)
  clear_owner [] all = tt
  clear_owner (point ∷ points) all =
      clear_nearer point (owner_of points hash) (All-head (λ (p : Point). IsClear range p.place) point points all)
      (clear_owner points (All-tail (λ (p : Point). IsClear range p.place) point points all))

  -- so the owner is the same
  pub same_owner : (points : List Point) → All (λ p. IsClear range p.place) points → owner_of points hash ≡ owner_of points range.start
  same_owner [] all = refl
  same_owner (point ∷ points) all =
      let rest : All (λ (p : Point). IsClear range p.place) points = All-tail (λ (p : Point). IsClear range p.place) point points all in
      ap Some
      (same_nearer point (owner_of points hash) (All-head (λ (p : Point). IsClear range p.place) point points all) (clear_owner points rest)
      ∙ ap (nearer_of range.start point) (same_owner points rest))
