-- The pieces after a sight.
use Rattle.std.proofs.Common.{arith, ◌≡◌, refl, sym, ap, ◌∙◌, ℕ, List, [], ◌∷◌, ◌+◌}
use Rattle.std.specs.Prelude.{Bool, true, false, cond, not, All, count_by, filter, map, Option}
use Rattle.std.specs.List.{slice_index_or}
use Rattle.std.proofs.lemmas.List.Sums.{sum_by-cons}
use Rattle.std.proofs.lemmas.List.Elements.{All-nil, All-head, All-tail, All-map, filter_passes}
use Rattle.texts.proofs.Decided.{both}
use Rattle.silo_address.specs.Silo.{Silo}
use Rattle.silo_address.specs.Grain.{Grain}
use Rattle.silo_address.specs.declared.Entry.{Entry}
use Rattle.membership_view.specs.View.{ViewValue}
use Rattle.ring_range.specs.Range.{Range, holds}
use Rattle.hash_ring.specs.declared.Point.{Point}
use Rattle.hash_ring.specs.declared.Hashing.{Hashing}
use Rattle.hash_ring.specs.Hash.{hash_grain}
use Rattle.range_moves.specs.declared.RingArc.{RingArc}
use Rattle.range_moves.specs.Arcs.{owner_silo, all_places, arcs_per_hash, AreArcs}
use Rattle.directory_rules.specs.declared.piece_state.PieceState.TheVariants.{Settled}
use Rattle.directory_rules.specs.Members.{is_dead_in}
use Rattle.directory_rules.specs.State.{Piece}
use Rattle.directory_rules.specs.Sight.{is_owner, is_kept, kept_entries, all_entries, was_settled, missing_state, piece_of, pieces_after}
use Rattle.directory_rules.specs.Laws.{HoldOwned}
use Rattle.directory_rules.proofs.Cases.{on_bool}

-- the hash's owner, where the arc holds it
abbrev Tells : ℕ → Option Silo → RingArc → Type 0
Tells hash owner arc = holds arc.range hash ≡ true → arc.to ≡ owner

-- a piece has its arc's range, settled or not
pub piece_range : (next : Bool) (hashing : Hashing) (view : ViewValue) (silo : Silo) (pieces : List (ℕ × Piece)) (arc : RingArc)
    → (piece_of next hashing view silo pieces arc).range ≡ arc.range
piece_range next hashing view silo pieces arc =
    on_bool (λ b. (cond {A = Piece} b (record { range = arc.range; state = Settled; entries = kept_entries hashing view pieces arc.range })
    (record { range = arc.range; state = missing_state next view silo arc.from; entries = [] })).range ≡ arc.range)
    (was_settled pieces arc.range) (λ t. refl) (λ f. refl)

counted_in : (held owned : Bool) (count : ℕ) → (held ≡ true → owned ≡ true)
    → cond held 1 0 + cond owned count 0 ≡ cond owned (cond held 1 0 + count) 0
counted_in true true count is = refl
counted_in true false count is = absurd (cc (is refl))
counted_in false true count is = refl
counted_in false false count is = refl

counted_out : (held owned : Bool) (count : ℕ) → (held ≡ true → owned ≡ false) → cond owned count 0 ≡ cond owned (cond held 1 0 + count) 0
counted_out true true count is = absurd (cc (is refl))
counted_out true false count is = refl
counted_out false true count is = omega arith
counted_out false false count is = refl

abbrev pub under : (next : Bool) → Hashing → ViewValue → Silo → List (ℕ × Piece) → RingArc → (ℕ × Piece)
under next hashing view silo pieces arc = (arc.range.start, piece_of next hashing view silo pieces arc)

-- how many of the pieces hold the hash
abbrev holding : ℕ → List (ℕ × Piece) → ℕ
holding hash pieces = count_by (λ e. holds e.1.range hash) pieces

no_owned : (owned : Bool) → ◌≡◌ {A = ℕ} 0 (cond owned 0 0)
no_owned true = refl
no_owned false = refl

counted_arcs : (next : Bool) (hashing : Hashing) (view : ViewValue) (silo : Silo) (pieces : List (ℕ × Piece)) (hash : ℕ)
    (owner : Option Silo) (arcs : List RingArc) → All (Tells hash owner) arcs
    → count_by (λ e. holds e.1.range hash) (pieces_after next hashing view silo pieces arcs) ≡ cond (is_owner silo owner)
    (count_by (λ arc. holds arc.range hash) arcs) 0
counted_arcs next hashing view silo pieces hash owner [] tells = no_owned (is_owner silo owner)
counted_arcs next hashing view silo pieces hash owner (arc ∷ arcs) tells =
    let rest = counted_arcs next hashing view silo pieces hash owner arcs (All-tail (Tells hash owner) arc arcs tells) in
    let told = All-head (Tells hash owner) arc arcs tells in
    on_bool (λ b. holding hash (map (under next hashing view silo pieces)
    (cond b (arc ∷ filter (λ a. is_owner silo a.to) arcs) (filter (λ a. is_owner silo a.to) arcs)))
    ≡ cond (is_owner silo owner) (cond (holds arc.range hash) 1 0 + count_by (λ a. holds a.range hash) arcs) 0) (is_owner silo arc.to)
    (λ t. sum_by-cons (λ (e : ℕ × Piece). cond (holds e.1.range hash) 1 0) (under next hashing view silo pieces arc)
    (pieces_after next hashing view silo pieces arcs)
    ∙ ap (λ (r : Range). cond (holds r hash) 1 0 + holding hash (pieces_after next hashing view silo pieces arcs))
    (piece_range next hashing view silo pieces arc)
    ∙ ap (λ c. cond (holds arc.range hash) 1 0 + c) rest
    ∙ counted_in (holds arc.range hash) (is_owner silo owner) (count_by (λ a. holds a.range hash) arcs)
    (λ held. ap (is_owner silo) (sym (told held)) ∙ t))
    (λ f. rest ∙ counted_out (holds arc.range hash) (is_owner silo owner) (count_by (λ a. holds a.range hash) arcs)
    (λ held. ap (is_owner silo) (sym (told held)) ∙ f))
    ∙ ap (λ c. cond (is_owner silo owner) c 0) (sym (sum_by-cons (λ (a : RingArc). cond (holds a.range hash) 1 0) arc arcs))

-- each entry of a piece lies in it
abbrev LiesIn : Hashing → Range → (Grain × Entry) → Type 0
LiesIn hashing range x = holds range (hash_grain hashing x.1.grain) ≡ true

kept_lie : (hashing : Hashing) (view : ViewValue) (pieces : List (ℕ × Piece)) (range : Range)
    → All (LiesIn hashing range) (kept_entries hashing view pieces range)
kept_lie hashing view pieces range =
    All-imp (λ x. is_kept hashing view range x.1 ≡ true) (LiesIn hashing range) (kept_entries hashing view pieces range)
    (λ x kept. (both (holds range (hash_grain hashing x.1.grain)) (not (is_dead_in view x.1.activation.silo)) kept).0)
    (filter_passes (λ x. is_kept hashing view range x.1) (all_entries pieces)) where
      All-imp : {X : Type 0} (P Q : X → Type 0) (xs : List X) → ((x : X) → P x → Q x) → All P xs → All Q xs
      All-imp P Q xs imp all = λ k d below. imp _ (all k d below)

abbrev made : (next : Bool) → Hashing → ViewValue → Silo → List (ℕ × Piece) → RingArc → Bool → Piece
made next hashing view silo pieces arc b =
    cond b (record { range = arc.range; state = Settled; entries = kept_entries hashing view pieces arc.range })
    (record { range = arc.range; state = missing_state next view silo arc.from; entries = [] })

piece_lies : (next : Bool) (hashing : Hashing) (view : ViewValue) (silo : Silo) (pieces : List (ℕ × Piece)) (arc : RingArc)
    → All (LiesIn hashing (piece_of next hashing view silo pieces arc).range) (piece_of next hashing view silo pieces arc).entries
piece_lies next hashing view silo pieces arc =
    on_bool (λ b. All (LiesIn hashing (made next hashing view silo pieces arc b).range) (made next hashing view silo pieces arc b).entries)
    (was_settled pieces arc.range)
    (λ t. kept_lie hashing view pieces arc.range) (λ f. All-nil (LiesIn hashing arc.range))

all_lie : (next : Bool) (hashing : Hashing) (view : ViewValue) (silo : Silo) (pieces : List (ℕ × Piece)) (arcs : List RingArc)
    → All (λ e. All (LiesIn hashing e.1.range) e.1.entries) (pieces_after next hashing view silo pieces arcs)
all_lie next hashing view silo pieces arcs =
    All-map (λ e. All (LiesIn hashing e.1.range) e.1.entries) (λ arc. (arc.range.start, piece_of next hashing view silo pieces arc))
    (filter (λ arc. is_owner silo arc.to) arcs)
    (λ k d below. piece_lies next hashing view silo pieces (slice_index_or (filter (λ arc. is_owner silo arc.to) arcs) k d))

-- where neither ring has a place nobody owns a hash
count_owned : (silo : Silo) (old new : List Point) (hash : ℕ)
    → cond (is_owner silo (owner_silo new hash)) (arcs_per_hash (all_places old new)) 0 ≡ cond (is_owner silo (owner_silo new hash)) 1 0
count_owned silo old [] hash = refl
count_owned silo [] (p ∷ new) hash = refl
count_owned silo (q ∷ old) (p ∷ new) hash = refl

-- so pieces that are made of the arcs between two rings are what the silo owns in the new one
pub pieces_are_owned : (next : Bool) (hashing : Hashing) (view : ViewValue) (silo : Silo) (pieces : List (ℕ × Piece)) (old new : List Point)
    (arcs : List RingArc) → AreArcs old new arcs
    → HoldOwned hashing new silo (pieces_after next hashing view silo pieces arcs)
pieces_are_owned next hashing view silo pieces old new arcs are = record {
  once =
      λ hash below. counted_arcs next hashing view silo pieces hash (owner_silo new hash) arcs
      (λ k d within held. sym ((are.owners k d within) hash below held).after)
      ∙ ap (λ c. cond (is_owner silo (owner_silo new hash)) c 0) (are.once hash below) ∙ count_owned silo old new hash;
  placed = all_lie next hashing view silo pieces arcs;
}
