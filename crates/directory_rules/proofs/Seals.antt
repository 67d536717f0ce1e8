-- What a sight seals.
use Rattle.std.proofs.Common.{◌≡◌, refl, ℕ, List, [], ◌∷◌}
use Rattle.std.specs.Prelude.{true, false, cond, not, ◌&&◌, is_some, All, Option, Some, None, filter, flat_map}
use Rattle.std.proofs.lemmas.List.Elements.{All-cons, All-nil, All-append}
use Rattle.std.proofs.lemmas.Bool.{not-true}
use Rattle.texts.proofs.Decided.{both}
use Rattle.silo_address.specs.Silo.{Silo, silo_eq}
use Rattle.silo_address.proofs.Same.{Decides-silo}
use Rattle.membership_view.specs.View.{ViewValue}
use Rattle.ring_range.specs.Range.{Range}
use Rattle.hash_ring.specs.declared.Hashing.{Hashing}
use Rattle.range_moves.specs.declared.RingArc.{RingArc}
use Rattle.directory_rules.specs.State.{Piece}
use Rattle.directory_rules.specs.Sight.{was_settled, is_owner, is_handed_over, snapshot_for, sealed}
use Rattle.directory_rules.specs.Laws.{IsHandedOver}
use Rattle.directory_rules.proofs.Cases.{on_bool}

for_owner : (to : Option Silo) (hashing : Hashing) (view : ViewValue) (silo : Silo) (pieces : List (ℕ × Piece)) (range : Range)
    → is_owner silo to ≡ false → was_settled pieces range ≡ true
    → All (IsHandedOver view silo pieces) (snapshot_for to hashing view silo pieces range)
for_owner None hashing view silo pieces range other settled = All-nil (IsHandedOver view silo pieces)
for_owner (Some to) hashing view silo pieces range other settled =
    All-cons (IsHandedOver view silo pieces) _ []
    (record { version = refl; from = refl; to = λ same. absurd (differ to silo other same); settled = settled })
    (All-nil (IsHandedOver view silo pieces)) where
      differ : (a b : Silo) → silo_eq a b ≡ false → a ≡ b → ⊥
      differ a b no_eq same = cc (no_eq, (Decides-silo a b).1 same)

handed : (hashing : Hashing) (view : ViewValue) (silo : Silo) (pieces : List (ℕ × Piece)) (arc : RingArc)
    → is_handed_over silo pieces arc ≡ true → All (IsHandedOver view silo pieces) (snapshot_for arc.to hashing view silo pieces arc.range)
handed hashing view silo pieces arc over =
    let settled = both (is_owner silo arc.from && is_some arc.to && not (is_owner silo arc.to)) (was_settled pieces arc.range) over in
    let other = both (is_owner silo arc.from && is_some arc.to) (not (is_owner silo arc.to)) settled.0 in
    for_owner arc.to hashing view silo pieces arc.range (not-true (is_owner silo arc.to) other.1) settled.1

pub all_handed : (hashing : Hashing) (view : ViewValue) (silo : Silo) (pieces : List (ℕ × Piece)) (arcs : List RingArc)
    → All (IsHandedOver view silo pieces) (sealed hashing view silo pieces arcs)
all_handed hashing view silo pieces [] = All-nil (IsHandedOver view silo pieces)
all_handed hashing view silo pieces (arc ∷ arcs) =
    on_bool (λ b. All (IsHandedOver view silo pieces)
    (flat_map (λ a. snapshot_for a.to hashing view silo pieces a.range)
    (cond b (arc ∷ filter (is_handed_over silo pieces) arcs) (filter (is_handed_over silo pieces) arcs))))
    (is_handed_over silo pieces arc)
    (λ over. All-append (IsHandedOver view silo pieces) (snapshot_for arc.to hashing view silo pieces arc.range)
    (sealed hashing view silo pieces arcs) (handed hashing view silo pieces arc over) (all_handed hashing view silo pieces arcs))
    (λ no_over. all_handed hashing view silo pieces arcs)
