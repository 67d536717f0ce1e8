-- What a sight seals comes behind what is kept.
use Rattle.std.proofs.Common.{◌≡◌, ℕ, suc, ◌-◌, ◌<◌, true, cond, List, [], ◌∷◌, ◌++◌, length, get_or, Option, Some, None, refl, sym, ◌∙◌, subst, inl, inr, arith, filter, flat_map}
use Rattle.std.specs.Prelude.{All, AllPairs}
use Rattle.std.proofs.lemmas.List.Elements.{All-append, All-cons, All-get_or, All-head, All-nil, All-tail, All-weaker}
use Rattle.silo_address.specs.Silo.{Silo}
use Rattle.membership_view.specs.View.{ViewValue}
use Rattle.ring_range.specs.Range.{Range}
use Rattle.hash_ring.specs.declared.Hashing.{Hashing}
use Rattle.range_moves.specs.declared.RingArc.{RingArc}
use Rattle.directory_rules.specs.State.{Piece, Snapshot}
use Rattle.directory_rules.specs.Sight.{is_handed_over, kept_entries, sealed, snapshot_for}
use Rattle.directory_rules.specs.Table.{entries_of}
use Rattle.directory_rules.proofs.Cases.{on_bool}
use Rattle.seal_snapshot.specs.Laws.{SealedComesBehind}
use Rattle.seal_snapshot.specs.Shelf.{AreInOrder, comes_before}
use Rattle.seal_snapshot.proofs.InOrder.{in_order-joined}
use Rattle.seal_snapshot.proofs.Order.{before_of}

module _ (hashing : Hashing) (view : ViewValue) (silo : Silo) (pieces : List (ℕ × Piece)) where
  abbrev of : RingArc → List Snapshot
  of arc = snapshot_for arc.to hashing view silo pieces arc.range

  abbrev all : List RingArc → List Snapshot
  all = sealed hashing view silo pieces

  -- what an arc's snapshots say
  of_arc : (P : Snapshot → Type 0) (range : Range) (to : Option Silo) → ((s : Snapshot) → s.version ≡ view.version → s.range ≡ range → P s)
      → All P (snapshot_for to hashing view silo pieces range)
  of_arc P range None each = All-nil P
  of_arc P range (Some to) each = All-cons P _ [] (each _ refl refl) (All-nil P)

  -- what holds of each arc's snapshots holds of all that is sealed
  sealed_each : (P : Snapshot → Type 0) (arcs : List RingArc) → All (λ arc. All P (of arc)) arcs → All P (all arcs)
  sealed_each P [] each = All-nil P
  sealed_each P (arc ∷ arcs) each =
      on_bool (λ b. All P (flat_map of (cond b (arc ∷ filter (is_handed_over silo pieces) arcs)
      (filter (is_handed_over silo pieces) arcs)))) (is_handed_over silo pieces arc)
      (λ t. All-append P (of arc) (all arcs) (All-head (λ a. All P (of a)) arc arcs each)
      (sealed_each P arcs (All-tail (λ a. All P (of a)) arc arcs each)))
      (λ f. sealed_each P arcs (All-tail (λ a. All P (of a)) arc arcs each))

  -- of this version, and of a range that begins after this start
  abbrev IsLater : ℕ → Snapshot → Type 0
  IsLater start s = (s.version ≡ view.version) × (start < s.range.start)

  all_later : (start : ℕ) (arcs : List RingArc) → All (λ arc. start < arc.range.start) arcs → All (IsLater start) (all arcs)
  all_later start arcs after =
      sealed_each (IsLater start) arcs
      (All-weaker (λ arc. start < arc.range.start) (λ arc. All (IsLater start) (of arc))
      (λ arc below. of_arc (IsLater start) arc.range arc.to
      (λ s version range. (version, subst (λ (r : Range). start < r.start) (sym range) below))) arcs after)

  -- one that is put in front of them
  in_front_of : (one : Snapshot) (behind : List Snapshot) → one.version ≡ view.version → AreInOrder behind
      → All (IsLater one.range.start) behind → AreInOrder (one ∷ behind)
  in_front_of one behind version order later = (
    All-weaker (IsLater one.range.start) (λ s. comes_before one s ≡ true)
        (λ s after. before_of s.version s.range.start one (inr (version ∙ sym after.0, after.1))) behind later,
    order,
  )

  in_front : (to : Option Silo) (range : Range) (behind : List Snapshot) → AreInOrder behind → All (IsLater range.start) behind
      → AreInOrder (snapshot_for to hashing view silo pieces range ++ behind)
  in_front None range behind order later = order
  in_front (Some to) range behind order later =
      in_front_of (record {
        version = view.version;
        range = range;
        from = silo;
        to = to;
        entries = entries_of
            (kept_entries hashing view pieces range);
      }) behind refl order later

  rest_pairs : (arc : RingArc) (arcs : List RingArc) → AllPairs (λ arc later. arc.range.start < later.range.start) (arc ∷ arcs)
      → AllPairs (λ arc later. arc.range.start < later.range.start) arcs
  rest_pairs arc arcs pairs i j d less within = pairs (suc i) (suc j) d (omega arith) (omega arith)

  in_order-sealed : (arcs : List RingArc) → AllPairs (λ arc later. arc.range.start < later.range.start) arcs → AreInOrder (all arcs)
  in_order-sealed [] pairs = tt
  in_order-sealed (arc ∷ arcs) pairs =
      let rest = in_order-sealed arcs (rest_pairs arc arcs pairs) in
      on_bool (λ b. AreInOrder (flat_map of (cond b (arc ∷ filter (is_handed_over silo pieces) arcs)
      (filter (is_handed_over silo pieces) arcs)))) (is_handed_over silo pieces arc)
      (λ t. in_front arc.to arc.range (all arcs) rest
      (all_later arc.range.start arcs (λ k d within. pairs 0 (suc k) d (omega arith) (omega arith))))
      (λ f. rest)

  all_of_view : (arcs : List RingArc) → All (λ s. s.version ≡ view.version) (all arcs)
  all_of_view arcs =
      sealed_each (λ s. s.version ≡ view.version) arcs
      (λ k d within. of_arc (λ s. s.version ≡ view.version) (get_or arcs k d).range (get_or arcs k d).to (λ s version range. version))

pub sealed_behind : SealedComesBehind
sealed_behind hashing view silo pieces arcs shelf pairs earlier order =
    in_order-joined shelf (sealed hashing view silo pieces arcs) order (in_order-sealed hashing view silo pieces arcs pairs)
    (λ some others d.
    let last : Snapshot = get_or shelf (length shelf - 1) d in
    let first : Snapshot = get_or (sealed hashing view silo pieces arcs) 0 d in
    let below : last.version < view.version = All-get_or (λ s. s.version < view.version) shelf (length shelf - 1) d (omega arith) earlier in
    let same : first.version ≡ view.version = All-get_or (λ s. s.version ≡ view.version) (sealed hashing view silo pieces arcs) 0 d others (all_of_view hashing view silo pieces arcs) in
    before_of first.version first.range.start last (inl (omega arith)))
