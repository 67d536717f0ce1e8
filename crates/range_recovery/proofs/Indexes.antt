-- Where a binary search finds a silo.
use Rattle.std.proofs.Common.{◌≡◌, ◌⊎◌, ℕ, ◌+◌, ◌<◌, ◌≤◌, List, length, get_or, sym, ◌∙◌, ap, inl, inr, arith}
use Rattle.std.specs.List.{HoldsAt, Contains}
use Rattle.std.specs.List.Sorted.{IsPartitionPoint, IsNonDecreasingBy}
use Rattle.std.specs.Ordering.{is_lt, ordering_index, ordering_reverse}
use Rattle.std.specs.declared.cmp.Ordering.TheVariants.{Less, Equal, Greater}
use Rattle.std.proofs.lemmas.Bool.{cases_lt}
use Rattle.std.proofs.lemmas.Cmp.{tied_itself}
use Rattle.std.proofs.lemmas.List.{get_or-map, length-map}
use Rattle.std.proofs.lemmas.List.Sorted.{searchable_from_sorted}
use Rattle.std.proofs.lemmas.Map.Keys.{Less-from_sorted}
use Rattle.silo_address.specs.Silo.{Silo, silo_cmp}
use Rattle.silo_address.proofs.Order.{silo_cmp_exact, silo_cmp_total}
use Rattle.hash_ring.proofs.Members.{In, In-from_Contains, Contains-from_In, In-from_map}
use Rattle.range_recovery.specs.declared.awaited.Awaited.{Awaited}
use Rattle.range_recovery.specs.Silos.{IsByAddress, IsSiloAt, silos_of}

-- where it hits
pub found_at : (silos : List Awaited) (silo : Silo) (index : ℕ) → index < length silos
    → HoldsAt (λ a. silo_cmp a.silo silo ≡ Equal) silos index → IsSiloAt silos silo index
found_at silos silo index within hit =
    record { within = within; there = λ default. silo_cmp_exact (get_or silos index default).silo silo (hit default) }

-- what the search needs
searchable : (silos : List Awaited) (silo : Silo) → IsByAddress silos → IsNonDecreasingBy (λ a. ordering_index (silo_cmp a.silo silo)) silos
searchable silos silo sorted =
    searchable_from_sorted silo_cmp_total (λ a. a.silo) silos silo (λ k d low within.
    let here : k < length silos = omega arith in
    let keys : length (silos_of silos) ≡ length silos = length-map silos (λ a. a.silo) in
    let below : silo_cmp (get_or silos k d).silo (get_or silos (k + 1) d).silo ≡ Less =
    ap (λ s. silo_cmp s (get_or silos (k + 1) d).silo) (sym (get_or-map (λ a. a.silo) silos k d d.silo here))
    ∙ ap (λ s. silo_cmp (get_or (silos_of silos) k d.silo) s) (sym (get_or-map (λ a. a.silo) silos (k + 1) d d.silo within))
    ∙ Less-from_sorted silo_cmp (silos_of silos) k (k + 1) d.silo sorted (omega arith) (omega arith) in
    ap is_lt (silo_cmp_total.antisymm (get_or silos (k + 1) d).silo (get_or silos k d).silo ∙ ap ordering_reverse below))

-- where it misses nobody is
pub nobody_there : (silos : List Awaited) (silo : Silo) (index : ℕ) → IsByAddress silos
    → (IsNonDecreasingBy (λ a. ordering_index (silo_cmp a.silo silo)) silos
    → IsPartitionPoint (λ a. silo_cmp a.silo silo ≡ Less) (λ a. silo_cmp a.silo silo ≡ Greater) silos index)
    → Contains (silos_of silos) silo → ⊥
nobody_there silos silo index sorted position there = by (cases_lt at.0 index)
  where
    split : IsPartitionPoint (λ a. silo_cmp a.silo silo ≡ Less) (λ a. silo_cmp a.silo silo ≡ Greater) silos index
    split = position (searchable silos silo sorted)

    one : (a : Awaited) × In a silos × (a.silo ≡ silo)
    one = In-from_map (λ a. a.silo) silo silos (In-from_Contains silo (silos_of silos) there)

    at : Contains silos one.0
    at = Contains-from_In one.0 silos one.1

    tied : silo_cmp (get_or silos at.0 one.0).silo silo ≡ Equal
    tied = ap (λ a. silo_cmp a.silo silo) at.2 ∙ ap (λ s. silo_cmp s silo) one.2 ∙ tied_itself silo_cmp_total silo

    by : (at.0 < index) ⊎ (index ≤ at.0) → ⊥
    by (inl before) = let e : Less ≡ Equal = sym (split.0 at.0 one.0 (omega arith) before) ∙ tied in cc
    by (inr after) = let e : Greater ≡ Equal = sym (split.1 at.0 one.0 after at.1) ∙ tied in cc
