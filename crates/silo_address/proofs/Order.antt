-- The orders of ids are total, and equal in the order is equal: so they order the keys of a map. For the crates above.
use Rattle.std.proofs.Common.{◌≡◌, ◌≢◌, refl, false}
use Rattle.std.specs.Cmp.{IsTotalOrder}
use Rattle.std.specs.Cmp.Lexicographic.{slice_cmp}
use Rattle.std.specs.Ordering.{is_eq, nat_cmp, ordering_then}
use Rattle.std.specs.declared.cmp.Ordering.{Ordering}
use Rattle.std.specs.declared.cmp.Ordering.TheVariants.{Less, Equal, Greater}
use Rattle.std.proofs.lemmas.Cmp.{then_total, on_total, nat_cmp_total, nat_list_cmp_total}
use Rattle.std.proofs.lemmas.Map.Lookups.{CmpEqualImpliesEq, exact_bytes, exact_unsigned}
use Rattle.silo_address.specs.Silo.{silo_cmp}
use Rattle.silo_address.specs.Grain.{grain_cmp}
use Rattle.silo_address.specs.Activation.{activation_cmp, entry_cmp}
use Rattle.silo_address.proofs.Same.{same_silo, same_grain, same_activation, same_entry}

pub silo_cmp_total : IsTotalOrder silo_cmp
silo_cmp_total =
    then_total (on_total (λ s. s.ip) nat_list_cmp_total)
    (then_total (on_total (λ s. s.port) nat_cmp_total) (on_total (λ s. s.generation) nat_cmp_total))

pub grain_cmp_total : IsTotalOrder grain_cmp
grain_cmp_total = then_total (on_total (λ g. g.kind) nat_list_cmp_total) (on_total (λ g. g.key) nat_list_cmp_total)

pub activation_cmp_total : IsTotalOrder activation_cmp
activation_cmp_total = then_total (on_total (λ a. a.silo) silo_cmp_total) (on_total (λ a. a.count) nat_cmp_total)

pub entry_cmp_total : IsTotalOrder entry_cmp
entry_cmp_total = then_total (on_total (λ e. e.grain) grain_cmp_total) (on_total (λ e. e.activation) activation_cmp_total)

-- two orders, one after the other, tie where both do
pub both_tie : (r s : Ordering) → ordering_then r s ≡ Equal → (r ≡ Equal) × (s ≡ Equal)
both_tie Less s tied = cc
both_tie Equal s tied = (refl, tied)
both_tie Greater s tied = cc

pub silo_cmp_exact : CmpEqualImpliesEq silo_cmp
silo_cmp_exact a b tied =
    let ip = both_tie (slice_cmp nat_cmp a.ip b.ip) (ordering_then (nat_cmp a.port b.port) (nat_cmp a.generation b.generation)) tied in
    let port = both_tie (nat_cmp a.port b.port) (nat_cmp a.generation b.generation) ip.1 in
    same_silo a b (exact_bytes a.ip b.ip ip.0) (exact_unsigned a.port b.port port.0) (exact_unsigned a.generation b.generation port.1)

pub grain_cmp_exact : CmpEqualImpliesEq grain_cmp
grain_cmp_exact a b tied =
    let kind = both_tie (slice_cmp nat_cmp a.kind b.kind) (slice_cmp nat_cmp a.key b.key) tied in
    same_grain a b (exact_bytes a.kind b.kind kind.0) (exact_bytes a.key b.key kind.1)

pub activation_cmp_exact : CmpEqualImpliesEq activation_cmp
activation_cmp_exact a b tied =
    let silo = both_tie (silo_cmp a.silo b.silo) (nat_cmp a.count b.count) tied in
    same_activation a b (silo_cmp_exact a.silo b.silo silo.0) (exact_unsigned a.count b.count silo.1)

pub entry_cmp_exact : CmpEqualImpliesEq entry_cmp
entry_cmp_exact a b tied =
    let grain = both_tie (grain_cmp a.grain b.grain) (activation_cmp a.activation b.activation) tied in
    same_entry a b (grain_cmp_exact a.grain b.grain grain.0) (activation_cmp_exact a.activation b.activation grain.1)

by_ordering : {P : Type 0} (r : Ordering) → (r ≡ Equal → P) → ¬ P → is_eq r ≡ false
by_ordering Less exact apart = refl
by_ordering Equal exact apart = absurd (apart (exact refl))
by_ordering Greater exact apart = refl

-- two that differ are not equal in the order
pub apart_in_order : {K : Type 0} (R : K → K → Ordering) → CmpEqualImpliesEq R → (a b : K) → a ≢ b → is_eq (R a b) ≡ false
apart_in_order R exact a b apart = by_ordering (R a b) (exact a b) apart
