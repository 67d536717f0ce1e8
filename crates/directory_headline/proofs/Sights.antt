-- A sight is allowed: what the silo keeps settled, and what it seals, it had settled.
use Rattle.std.proofs.Common.{arith, ◌≡◌, ◌≢◌, ◌⊎◌, ℕ, suc, ◌+◌, ◌<◌, ◌≤◌, List, [], ◌∷◌, inl, inr, refl, sym, ap, subst, ◌∙◌}
use Rattle.std.specs.Prelude.{◌&&◌, ◌||◌, ◌==◌, Bool, true, false, cond, not, nat_lt, is_none, is_some, All, Some}
use Rattle.std.specs.List.{list_any}
use Rattle.std.proofs.lemmas.Bool.{eqb-true, ltb-true}
use Rattle.std.proofs.lemmas.List.Elements.{All-nil, All-head, All-tail}
use Rattle.texts.proofs.Decided.{both}
use Rattle.silo_address.specs.Silo.{Silo}
use Rattle.membership_view.specs.View.{ViewValue, status_of}
use Rattle.membership_view.specs.Views.{view_at}
use Rattle.ring_range.specs.Range.{circle, Range, IsRange, holds}
use Rattle.hash_ring.specs.declared.Point.{Point}
use Rattle.hash_ring.specs.Point.{IsOnCircle}
use Rattle.hash_ring.specs.Places.{PlacesValue, IsPlaces}
use Rattle.hash_ring.specs.Ring.{sorted_ring}
use Rattle.range_moves.specs.Arcs.{owner_silo, arcs_of, AreArcs}
use Rattle.range_moves.proofs.Between.{arcs_whole}
use Rattle.directory_protocol.specs.Setting.{Setting}
use Rattle.directory_protocol.specs.World as protocol
use Rattle.directory_protocol.specs.Actions.{Sight, MaySee}
use Rattle.directory_rules.specs.State.{Piece, Snapshot, Node, World}
use Rattle.directory_rules.specs.Answer.{piece_with}
use Rattle.directory_rules.specs.Sight.{is_next, is_owner, was_settled, pieces_after, sealed}
use Rattle.directory_rules.specs.Step.{compared_points}
use Rattle.directory_rules.specs.Laws.{HoldOnce}
use Rattle.directory_rules.proofs.Cases.{on_bool}
use Rattle.directory_rules.proofs.Pieces.{pieces_are_owned}
use Rattle.directory_rules.proofs.Sights.{on_circle, compared}
use Rattle.directory_facts.proofs.Carried.{IsSight}
use Rattle.directory_facts.proofs.Served.{found_holds}
use Rattle.directory_facts.proofs.Throughout.{settled_both, some_counted}
use Rattle.directory_headline.specs.Setting.{is_member_in, is_alive_in, owner_in}
use Rattle.directory_headline.specs.Shown.{has_settled}
use Rattle.directory_headline.proofs.Facts.{NodeFacts}
use Rattle.directory_headline.proofs.Frame.{Here, alive, node_facts, node_shown, host_is, seen_is, live_now, owner_is}
use Rattle.directory_headline.proofs.PieceAt.{of_found}
use Rattle.directory_facts.proofs.OwnPieces.{holding, found_counted, owner_silo_is}
use Rattle.directory_headline.proofs.Members.{live_since}
use Rattle.directory_headline.proofs.SightPieces.{HasSettledPiece, has_piece, of_settled, lies_in_one, IsMade, all_made, IsSealed, all_sealed}
use Rattle.directory_headline.proofs.HighHashes.{held_once}

-- ---- pieces that hold each hash that is owned once
module _ (points : List Point) (s : Silo) (pieces : List (ℕ × Piece)) (once : HoldOnce points s pieces) (h : ℕ) (below : h < circle) where
  held_owned : (piece : Piece) → piece_with h pieces ≡ Some piece → owner_silo points h ≡ Some s
  held_owned piece found =
      owner_silo_is s (owner_silo points h) (some_counted (is_owner s (owner_silo points h)) (holding h pieces) (once h below)
      (found_counted h pieces piece found))

-- ---- some of them
some_of : {X : Type 0} (P : X → Type 0) (test : X → Bool) (xs : List X) → All P xs → list_any test xs ≡ true
    → (x : X) × P x × (test x ≡ true)
some_of P test [] all some = absurd (cc (some))
some_of {X} P test (x ∷ xs) all some =
    on_bool (λ b. test x ≡ b → (b || list_any test xs) ≡ true → (y : X) × P y × (test y ≡ true)) (test x)
    (λ t is any. (x, All-head P x xs all, is)) (λ f is any. some_of P test xs (All-tail P x xs all) any) refl some

either_true : (a b : Bool) → (a || b) ≡ true → (a ≡ true) ⊎ (b ≡ true)
either_true true b is = inl refl
either_true false b is = inr is

-- what a sight does
module _ (m : Setting) (f : World) (w : protocol.World) (silo : Silo) (node : Node) (here : Here m f w silo node) (before view : ViewValue)
    (places : PlacesValue) (newer : node.view.version < view.version) (brings : IsSight f.views f.places silo before view places) where
  abbrev pub next : Bool
  next = is_next node.view before view node.host.silo

  abbrev pub old : List Point
  old = compared_points next node before places

  abbrev pub new : List Point
  new = sorted_ring view places

  abbrev pub pieces : List (ℕ × Piece)
  pieces = node.holding.pieces

  abbrev pub after : List (ℕ × Piece)
  after = pieces_after next node.settings.hashing view node.host.silo pieces (arcs_of old new)

  -- the snapshots that are sealed: none where versions are skipped
  abbrev pub given_where : Bool → List Snapshot
  given_where b = cond b (sealed node.settings.hashing view node.host.silo pieces (arcs_of old new)) []

  abbrev pub is_given : ℕ → Bool
  is_given h = list_any (λ s. holds s.range h) (given_where next) && nat_lt h circle

  abbrev pub sight_as : Sight
  sight_as = record { silo = silo; version = view.version; kept = has_settled after; sealed = is_given }

  -- ---- the view
  facts : NodeFacts m.hash f silo node
  facts = node_facts m f w silo node here

  version_is : view.version ≡ brings.version
  version_is = ap (λ v. v.version) brings.is_view

  pub within : view.version ≤ f.views.version
  within = let low = brings.within in let same = version_is in omega (low, same, arith)

  pub view_is : view ≡ view_at f.views view.version
  view_is = brings.is_view ∙ ap (view_at f.views) (sym version_is)

  pub alive_there : (s : Silo) → m.alive view.version s ≡ is_alive_in view s
  alive_there s = here.setting.alive view.version s within ∙ ap (λ v. is_alive_in v s) (sym view_is)

  pub member_there : (s : Silo) → m.member view.version s ≡ is_member_in view s
  member_there s = here.setting.member view.version s within ∙ ap (λ v. is_member_in v s) (sym view_is)

  owner_there : (h : ℕ) → m.owner view.version h ≡ owner_silo new h
  owner_there h =
      here.setting.owner view.version h within ∙ ap (λ v. owner_in v f.places h) (sym view_is)
      ∙ ap (λ p. owner_in view p h) (sym brings.is_brought)

  member : m.member view.version silo ≡ true
  member =
      let now = here.shown.now in
      let low = within in
      let le : view.version ≤ w.now = omega (now, low, arith) in
      let living = m.dead_stays_dead view.version w.now silo le (alive m f w silo node here) in
      let joined = brings.joined in
      let same = version_is in
      here.setting.member view.version silo within
      ∙ live_since f.views here.facts.peopled.whole silo view.version within (omega (joined, same, arith)) (live_now m f w silo node here)
      (sym (here.setting.alive view.version silo within) ∙ living)

  -- ---- the arcs
  placed : IsPlaces places
  placed = subst IsPlaces (sym brings.is_brought) here.facts.places

  ring_on_circle : All IsOnCircle node.ring.points
  ring_on_circle = subst (λ ring. All IsOnCircle ring.points) (sym facts.sees.ring_is) (on_circle node.view f.places here.facts.places)

  are : AreArcs old new (arcs_of old new)
  are = arcs_whole old new (compared next node before places ring_on_circle placed) (on_circle view places placed)

  once_after : HoldOnce new node.host.silo after
  once_after = (pieces_are_owned next node.settings.hashing view node.host.silo pieces old new (arcs_of old new) are).once

  pub each_made : All (λ e. IsMade node.settings.hashing view pieces e.1) after
  each_made = all_made next node.settings.hashing view node.host.silo pieces (arcs_of old new) are.ranges

  sealed_where : (b : Bool) → All (IsSealed node.settings.hashing view pieces) (given_where b)
  sealed_where true =
      all_sealed node.settings.hashing view node.host.silo pieces (arcs_of old new)
      (λ k d below. record { is = are.ranges k d below; present = are.present k d below })
  sealed_where false = All-nil (IsSealed node.settings.hashing view pieces)

  pub each_sealed : All (IsSealed node.settings.hashing view pieces) (given_where next)
  each_sealed = sealed_where next

  -- ---- what was settled
  ranged : All (λ e. IsRange e.1.range) pieces
  ranged = λ k d below. (facts.pieces.each k d below).range

  pub once_before : (h : ℕ) → holding h pieces ≤ 1
  once_before = held_once node.ring.points node.host.silo pieces facts.once ranged

  pub had_settled : (range : Range) → IsRange range → was_settled pieces range ≡ true → (h : ℕ) → h < circle → holds range h ≡ true
      → HasSettledPiece h pieces
  had_settled range is was h below held =
      lies_in_one h pieces (once_before h) ((settled_both pieces facts.pieces.under_start ranged range is).0 was h below held)

  settled_so : (h : ℕ) → HasSettledPiece h pieces → h < circle → w.settled silo h ≡ true
  settled_so h has below = (node_shown m f w silo node here).holding.settled h ∙ has_piece h pieces has below

  pub made_of : (h : ℕ) (piece : Piece) → piece_with h after ≡ Some piece → IsMade node.settings.hashing view pieces piece
  made_of h piece found = (of_found (λ e. IsMade node.settings.hashing view pieces e.1) h after piece each_made found).1

  kept_settled : (h : ℕ) → has_settled after h ≡ true → w.settled silo h ≡ true
  kept_settled h kept =
      let has = of_settled h after kept in
      let made = made_of h has.0.piece has.0.found in
      settled_so h (had_settled has.0.piece.range made.range (made.settled has.0.settled) h has.1
      (found_holds h after has.0.piece has.0.found)) has.1

  kept_owned : (h : ℕ) → has_settled after h ≡ true → m.owner view.version h ≡ Some silo
  kept_owned h kept =
      let has = of_settled h after kept in
      owner_there h ∙ held_owned new node.host.silo after once_after h has.1 has.0.piece has.0.found
      ∙ ap Some (host_is m f w silo node here)

  given_settled : (h : ℕ) → is_given h ≡ true → HasSettledPiece h pieces × (h < circle)
  given_settled h given =
      let so = both (list_any (λ s. holds s.range h) (given_where next)) (nat_lt h circle) given in
      let below = ltb-true h circle so.1 in
      let one = some_of (IsSealed node.settings.hashing view pieces) (λ s. holds s.range h) (given_where next) each_sealed so.0 in
      (had_settled one.0.range one.1.range.is one.1.settled h below one.2, below)

  -- at version 0 nothing was settled
  seen_some : (h : ℕ) → HasSettledPiece h pieces → h < circle → node.view.version ≢ 0
  seen_some h has below none =
      let owned = owner_is m f w silo node here h ∙ held_owned node.ring.points node.host.silo pieces facts.once h below has.piece has.found in
      m.no_owner_at_first h node.host.silo (ap (λ v. m.owner v h) (sym none) ∙ owned)

  nothing_given : (b : Bool) (h : ℕ) → b ≡ false → (list_any (λ s. holds s.range h) (given_where b) && nat_lt h circle) ≡ true → ⊥
  nothing_given true h not given = cc (not)
  nothing_given false h not given = cc (given)

  pub given_next : (h : ℕ) → is_given h ≡ true → view.version ≡ suc (w.seen silo)
  given_next h given =
      let seen = seen_is m f w silo node here in
      let has = given_settled h given in
      on_bool (λ b. next ≡ b → view.version ≡ suc (w.seen silo)) next
      (λ t is. elim (either_true (view.version == node.view.version + 1)
      ((node.view.version == 0) && is_none (status_of before node.host.silo) && is_some (status_of view node.host.silo)) is) [
        | inl one ↦ let same = eqb-true view.version (node.view.version + 1) one in omega (same, seen, arith)
        | inr first ↦
            let two = both ((node.view.version == 0) && is_none (status_of before node.host.silo)) (is_some (status_of view node.host.silo)) first in
            let none = both (node.view.version == 0) (is_none (status_of before node.host.silo)) two.0 in
            absurd (seen_some h has.0 has.1 (eqb-true node.view.version 0 none.0))
      ])
      (λ f not. absurd (nothing_given next h not given)) refl

  pub may_see : MaySee m w sight_as
  may_see =
      let seen = seen_is m f w silo node here in
      let now = here.shown.now in
      let low = within in
      record {
        alive = alive m f w silo node here;
        newer = omega (seen, newer, arith);
        known = omega (now, low, arith);
        member = member;
        kept_settled = kept_settled;
        kept_owned = kept_owned;
        sealed_settled = λ h given. let has = given_settled h given in settled_so h has.0 has.1;
        sealed_next = given_next;
      }
