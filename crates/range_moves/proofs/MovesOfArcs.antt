-- The moves are the arcs whose hashes moved.
use Rattle.std.proofs.Common.{◌≡◌, ◌≢◌, ℕ, ◌<◌, Bool, true, false, cond, List, [], ◌∷◌, count_by, get_or, All, IsTrue, Option, Some, None, IfSome, MatchOption, refl, sym, ◌∙◌, ap, subst, arith}
use Rattle.std.proofs.lemmas.Bool.{false≢true, false_from_ne_true}
use Rattle.std.proofs.lemmas.List.Elements.{All-contains}
use Rattle.silo_address.specs.Silo.{Silo}
use Rattle.silo_address.proofs.Same.{Decides-silo}
use Rattle.ring_range.specs.Range.{circle, Range, IsRange, EachHash, holds}
use Rattle.hash_ring.specs.declared.Point.{Point}
use Rattle.hash_ring.specs.Point.{IsOnCircle}
use Rattle.range_moves.specs.declared.arc.RingArc.{RingArc}
use Rattle.range_moves.specs.declared.arc.Move.{Move}
use Rattle.range_moves.specs.Arcs.{owner_silo, all_places, arcs_per_hash, arcs_of, HasOwners}
use Rattle.range_moves.specs.Moves.{is_silo, move_between, move_of, moves_of, Moved, Takes, IsTakenOnce, AreMoves}
use Rattle.range_moves.proofs.Lists.{All-filter_map, count_by-filter_map, Any-counted}
use Rattle.range_moves.proofs.Between.{arcs_whole}

-- the test for the silo tells that it is this one
is_this : (from : Option Silo) (to : Silo) → is_silo from to ≡ true → from ≡ Some to
is_this None to e = absurd (false≢true e)
is_this (Some other) to e = ap Some ((Decides-silo other to).0 e)

is_other : (from : Option Silo) (to : Silo) → is_silo from to ≡ false → from ≢ Some to
is_other from to e same =
    let here : is_silo (Some to) to ≡ true = (Decides-silo to to).1 refl in
    false≢true (sym e ∙ ap (λ from. is_silo from to) same ∙ here)

some_same : (a b : Silo) → Some a ≡ Some b → a ≡ b
some_same a b e = cc

-- ---- a move has hashes that moved alone
module _ (old new : List Point) where
  abbrev HasMoved : Move → Type 0
  HasMoved move = EachHash (λ hash. IsTrue (holds move.range hash) → Moved old new hash move.from move.to)

  moved_if : (range : Range) (from : Option Silo) (to : Silo) (same : Bool) → is_silo from to ≡ same
      → EachHash (λ hash. IsTrue (holds range hash) → HasOwners old new (record { range = range; from = from; to = Some to }) hash)
      → IfSome {T = Move} (cond same None (Some (record { range = range; from = from; to = to }))) HasMoved
  moved_if range from to true e owners = tt
  moved_if range from to false e owners =
      λ hash h held. record { before = (owners hash h held).before; after = (owners hash h held).after; differ = is_other from to e }

  between_moved : (range : Range) (from to : Option Silo)
      → EachHash (λ hash. IsTrue (holds range hash) → HasOwners old new (record { range = range; from = from; to = to }) hash)
      → IfSome (move_between range from to) HasMoved
  between_moved range from None owners = tt
  between_moved range from (Some to) owners = moved_if range from to (is_silo from to) refl owners

  range_kept : (P : Range → Type 0) (range : Range) (from to : Option Silo) → P range
      → IfSome (move_between range from to) (λ move. P move.range)
  range_kept P range from None ok = tt
  range_kept P range from (Some to) ok = either (is_silo from to)
    where
      either : (same : Bool) → IfSome {T = Move} (cond same None (Some (record { range = range; from = from; to = to })))
          (λ (move : Move). P move.range)
      either true = tt
      either false = ok

-- ---- a hash that moved is in the moves as it is in the arcs
module _ (hash : ℕ) (from : Option Silo) (to : Silo) (differ : from ≢ Some to) where
  agrees_if : (range : Range) (before : Option Silo) (after : Silo) (same : Bool) → is_silo before after ≡ same
      → (holds range hash ≡ true → (from ≡ before) × (Some to ≡ Some after))
      → MatchOption {T = Move} (cond same None (Some (record { range = range; from = before; to = after }))) (holds range hash ≡ false)
      (λ move. holds move.range hash ≡ holds range hash)
  agrees_if range before after true e owners =
      false_from_ne_true (holds range hash) (λ held. let own = owners held in differ (own.0 ∙ is_this before after e ∙ sym own.1))
  agrees_if range before after false e owners = refl

  agrees : (range : Range) (before after : Option Silo) → (holds range hash ≡ true → (from ≡ before) × (Some to ≡ after))
      → MatchOption (move_between range before after) (holds range hash ≡ false) (λ move. holds move.range hash ≡ holds range hash)
  agrees range before None owners = false_from_ne_true (holds range hash) (λ held. let none = (owners held).1 in cc)
  agrees range before (Some after) owners = agrees_if range before after (is_silo before after) refl owners

-- where a hash has an owner there is a place
one_each : (old new : List Point) (hash : ℕ) (to : Silo) → owner_silo new hash ≡ Some to → arcs_per_hash (all_places old new) ≡ 1
one_each [] [] hash to e = cc
one_each [] (p ∷ new) hash to e = refl
one_each (p ∷ old) new hash to e = refl

module _ (old new : List Point) (o : All IsOnCircle old) (n : All IsOnCircle new) where
  no_other : All (HasMoved old new) (moves_of old new)
  no_other =
      All-filter_map (HasMoved old new) move_of (arcs_of old new)
      (λ k d lt. between_moved old new _ _ _ ((arcs_whole old new o n).owners k d lt))

  taken_once : (hash : ℕ) → hash < circle → (from : Option Silo) (to : Silo) → Moved old new hash from to
      → count_by (λ move. holds move.range hash) (moves_of old new) ≡ 1
  taken_once hash h from to moved =
      count_by-filter_map (λ move. holds move.range hash) (λ arc. holds arc.range hash) move_of (arcs_of old new)
      (λ k d lt. agrees hash from to moved.differ _ _ _
      (λ held. let own = (arcs_whole old new o n).owners k d lt hash h held in
      (sym moved.before ∙ own.before, sym moved.after ∙ own.after)))
      ∙ (arcs_whole old new o n).once hash h
      ∙ one_each old new hash to moved.after

  takes : (hash : ℕ) (from : Option Silo) (to : Silo) (move : Move) → Moved old new hash from to → holds move.range hash ≡ true
      → Moved old new hash move.from move.to → Takes hash from to move
  takes hash from to move moved held here = record {
    held = held;
    source = sym here.before ∙ moved.before;
    target = some_same move.to to (sym here.after ∙ moved.after);
  }

  taken : (hash : ℕ) → hash < circle → (from : Option Silo) (to : Silo) → Moved old new hash from to
      → IsTakenOnce (moves_of old new) hash from to
  taken hash h from to moved =
      let once : count_by (λ (move : Move). holds move.range hash) (moves_of old new) ≡ 1 = taken_once hash h from to moved in
      let one = Any-counted (λ (move : Move). holds move.range hash) (moves_of old new) (omega arith) in
      record {
        once = once;
        taken = (
          one.0,
          one.1,
          one.2,
          one.3,
          takes hash from to one.1 moved one.4
              (All-contains (HasMoved old new) (moves_of old new) one.1 no_other (one.0, one.2, one.3) hash h one.4),
        );
      }

  moved_by : (hash : ℕ) → hash < circle → (from : Option Silo) (to : Silo) → IsTakenOnce (moves_of old new) hash from to
      → Moved old new hash from to
  moved_by hash h from to once =
      let one = once.taken in
      let takes : Takes hash from to one.1 = one.4 in
      let moved = All-contains (HasMoved old new) (moves_of old new) one.1 no_other (one.0, one.2, one.3) hash h takes.held in
      subst (Moved old new hash from) takes.target (subst (λ from. Moved old new hash from one.1.to) takes.source moved)

  pub moves_whole : AreMoves old new (moves_of old new)
  moves_whole = record {
    moved = λ hash h from to. (taken hash h from to, moved_by hash h from to);
    no_other = no_other;
    ranges =
        All-filter_map (λ (move : Move). IsRange move.range) move_of (arcs_of old new)
        (λ k d lt. let arc : RingArc = get_or (arcs_of old new) k d in
        range_kept old new IsRange arc.range arc.from arc.to ((arcs_whole old new o n).ranges k d lt));
  }
