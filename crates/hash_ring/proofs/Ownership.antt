-- Who owns a hash: the owner by going over all points is the one nearest back.
use Rattle.std.proofs.Common.{◌≡◌, ℕ, ◌<◌, ◌≤◌, ◌↔◌, List, [], ◌∷◌, false, if◌then◌else◌, Option, Some, None, refl, sym, ◌∙◌, ap, subst, inl, inr, ⊎_elim}
use Rattle.std.specs.List.{All}
use Rattle.std.specs.Option.{IfSome, IfNone}
use Rattle.std.specs.Ordering.{is_gt, is_lt, ordering_reverse}
use Rattle.std.specs.declared.cmp.Ordering.{Ordering}
use Rattle.std.specs.declared.cmp.Ordering.TheVariants.{Less, Equal, Greater}
use Rattle.std.proofs.lemmas.Cmp.{tied_itself, upto}
use Rattle.std.proofs.lemmas.Option.{same_Some}
use Rattle.ring_range.specs.Range.{circle}
use Rattle.hash_ring.specs.declared.point.Point.{Point}
use Rattle.hash_ring.specs.Point.{back, IsOnCircle}
use Rattle.silo_address.specs.Silo.{silo_cmp}
use Rattle.hash_ring.specs.Owner.{nearness_cmp, nearer_of, owner_of, IsOwner}
use Rattle.hash_ring.proofs.Members.{In, In-from_Contains, Contains-from_In, All-of, All-from_each}
use Rattle.hash_ring.proofs.Nearness.{nearness_total, IsNoFarther, no_farther, one_nearest}

-- of the points no other is nearer
pub record IsNearest (hash : ℕ) (points : List Point) (owner : Point) : Type 0 where
  pub there : In owner points
  pub each : (p : Point) → In p points → is_gt (nearness_cmp hash owner p) ≡ false

no_owner : (hash : ℕ) (points : List Point) → owner_of points hash ≡ None → points ≡ []
no_owner hash [] none = refl
no_owner hash (p ∷ ps) none = cc

only_one : (hash : ℕ) (point : Point) (points : List Point) → owner_of points hash ≡ None → IsNearest hash (point ∷ points) point
only_one hash point points none =
    subst (λ l. IsNearest hash (point ∷ l) point) (sym (no_owner hash points none)) (record {
      there = inl refl;
      each =
          λ p there. ⊎_elim (λ here. subst (λ q. is_gt (nearness_cmp hash point q) ≡ false) here
          (ap is_gt (tied_itself (nearness_total hash) point))) (λ none. absurd none) there;
    })

not_before : (hash : ℕ) (point other : Point) (points : List Point) → IsNearest hash points other
    → is_gt (nearness_cmp hash point other) ≡ false → IsNearest hash (point ∷ points) point
not_before hash point other points nearest before = record {
  there = inl refl;
  each =
      λ p there. ⊎_elim (λ here. subst (λ q. is_gt (nearness_cmp hash point q) ≡ false) here
      (ap is_gt (tied_itself (nearness_total hash) point)))
      (λ later. upto (nearness_total hash) point other p before (nearest.each p later)) there;
}

nearer_one : (hash : ℕ) (point other : Point) (points : List Point) → IsNearest hash points other → (r : Ordering)
    → nearness_cmp hash other point ≡ r
    → IsNearest hash (point ∷ points) (if is_lt r then other else point)
nearer_one hash point other points nearest Less is = record {
  there = inr nearest.there;
  each =
      λ p there. ⊎_elim (λ here. subst (λ q. is_gt (nearness_cmp hash other q) ≡ false) here (ap is_gt is)) (λ later. nearest.each p later)
      there;
}
nearer_one hash point other points nearest Equal is =
    not_before hash point other points nearest (ap is_gt ((nearness_total hash).antisymm point other ∙ ap ordering_reverse is))
nearer_one hash point other points nearest Greater is =
    not_before hash point other points nearest (ap is_gt ((nearness_total hash).antisymm point other ∙ ap ordering_reverse is))

pub owner_is_nearest : (hash : ℕ) (points : List Point) (owner : Point) → owner_of points hash ≡ Some owner → IsNearest hash points owner
owner_is_nearest hash [] owner is = cc
owner_is_nearest hash (p ∷ ps) owner is = by (owner_of ps hash) refl (λ other known. owner_is_nearest hash ps other known) is
  where
    by : (o : Option Point) → owner_of ps hash ≡ o → ((other : Point) → owner_of ps hash ≡ Some other → IsNearest hash ps other)
        → Some (nearer_of hash p o) ≡ Some owner → IsNearest hash (p ∷ ps) owner
    by None known again same = subst (λ x. IsNearest hash (p ∷ ps) x) (same_Some p owner same) (only_one hash p ps known)
    by (Some other) known again same =
        subst (λ x. IsNearest hash (p ∷ ps) x) (same_Some (nearer_of hash p (Some other)) owner same)
        (nearer_one hash p other ps (again other known) (nearness_cmp hash other p) refl)

-- ---- the same in the words of the subject
pub IsOwner-from_nearest : (hash : ℕ) (points : List Point) (owner : Point) → IsNearest hash points owner → IsOwner points hash owner
IsOwner-from_nearest hash points owner nearest =
    let each : (p : Point) → In p points → IsNoFarther hash owner p = λ p there. no_farther hash owner p (nearest.each p there) in
    record {
      there = Contains-from_In owner points nearest.there;
      nearest = All-from_each _ points (λ p there. (each p there).nearer);
      first_silo = All-from_each _ points (λ p there. (each p there).silo);
      first_index = All-from_each _ points (λ p there. (each p there).index);
    }

pub IsNoFarther-from_owner : (hash : ℕ) (points : List Point) (owner p : Point) → IsOwner points hash owner → In p points
    → IsNoFarther hash owner p
IsNoFarther-from_owner hash points owner p is there = record {
  nearer = All-of (λ x. back hash owner.place ≤ back hash x.place) points p is.nearest there;
  silo = All-of (λ x. x.place ≡ owner.place → is_gt (silo_cmp owner.silo x.silo) ≡ false) points p is.first_silo there;
  index = All-of (λ x. x.place ≡ owner.place → x.silo ≡ owner.silo → owner.index ≤ x.index) points p is.first_index there;
}

pub owner_is : (points : List Point) (hash : ℕ) (owner : Point) → owner_of points hash ≡ Some owner → IsOwner points hash owner
owner_is points hash owner is = IsOwner-from_nearest hash points owner (owner_is_nearest hash points owner is)

some_owner : (hash : ℕ) (points : List Point) (p : Point) → In p points → (owner : Point) × (owner_of points hash ≡ Some owner)
some_owner hash [] p there = absurd there
some_owner hash (q ∷ qs) p there = (nearer_of hash q (owner_of qs hash), refl)

-- there is one owner at most
pub one_owner : (points : List Point) (hash : ℕ) (p q : Point) → hash < circle → All IsOnCircle points → IsOwner points hash p
    → IsOwner points hash q → p ≡ q
one_owner points hash p q on_hash on_circle is_p is_q =
    let there_p = In-from_Contains p points is_p.there in
    let there_q = In-from_Contains q points is_q.there in
    one_nearest hash p q on_hash (All-of IsOnCircle points p on_circle there_p) (All-of IsOnCircle points q on_circle there_q)
    (IsNoFarther-from_owner hash points p q is_p there_q) (IsNoFarther-from_owner hash points q p is_q there_p)

pub owner_from : (points : List Point) (hash : ℕ) (owner : Point) → hash < circle → All IsOnCircle points → IsOwner points hash owner
    → owner_of points hash ≡ Some owner
owner_from points hash owner on_hash on_circle is =
    let found = some_owner hash points owner (In-from_Contains owner points is.there) in
    found.1 ∙ ap Some (one_owner points hash found.0 owner on_hash on_circle (owner_is points hash found.0 found.1) is)

pub none_owns : (points : List Point) (hash : ℕ) → (owner_of points hash ≡ None) ↔ (points ≡ [])
none_owns points hash = (no_owner hash points, λ empty. ap (λ l. owner_of l hash) empty)

-- what is the owner, or none of no points, is the owner by going over all points
pub owner_exact : (points : List Point) (hash : ℕ) (found : Option Point) → hash < circle → All IsOnCircle points
    → IfSome found (λ owner. IsOwner points hash owner) → IfNone found (points ≡ []) → found ≡ owner_of points hash
owner_exact points hash None on_hash on_circle is none = sym (ap (λ l. owner_of l hash) none)
owner_exact points hash (Some owner) on_hash on_circle is none = sym (owner_from points hash owner on_hash on_circle is)
