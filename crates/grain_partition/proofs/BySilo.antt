-- Arcs under their silos, and that a sight needs no others.
use Rattle.std.proofs.Common.{arith, ◌≡◌, refl, sym, ap, ◌∙◌, ℕ, List, [], ◌∷◌, ◌++◌, ◌+◌, ◌<◌, ◌≤◌, append-nil}
use Rattle.std.specs.Prelude.{Bool, true, false, not, ◌&&◌, cond, filter, flat_map, map, is_some, count_by, Option, Some, None}
use Rattle.std.specs.Ordering.{is_eq}
use Rattle.std.specs.BTreeMap.{is_at}
use Rattle.std.proofs.lemmas.Cmp.{tied_itself}
use Rattle.std.proofs.lemmas.List.Elements.{All-filter}
use Rattle.std.proofs.lemmas.List.Kept.{AllPairs-filter}
use Rattle.std.proofs.lemmas.List.Sums.{sum_by-cons}
use Rattle.texts.proofs.Orderings.{Equal-from}
use Rattle.silo_address.specs.Silo.{Silo, silo_cmp, silo_eq}
use Rattle.silo_address.proofs.Order.{silo_cmp_exact, silo_cmp_total}
use Rattle.silo_address.proofs.Same.{Decides-silo}
use Rattle.texts.proofs.Decided.{both}
use Rattle.membership_view.specs.View.{ViewValue}
use Rattle.ring_range.specs.Range.{Range, IsRange, holds}
use Rattle.hash_ring.specs.declared.Hashing.{Hashing}
use Rattle.range_moves.specs.declared.RingArc.{RingArc}
use Rattle.range_moves.specs.Arcs.{all_places, arcs_per_hash}
use Rattle.range_moves.specs.Moves.{move_between}
use Rattle.directory_rules.specs.State.{Piece}
use Rattle.directory_rules.specs.Sight.{is_handed_over, is_owner, piece_of, pieces_after, sealed, snapshot_for, was_settled}
use Rattle.grain_partition.specs.BySilo.{Puts, all_of, arcs_under, giver_in, giver_of, given_by, owned_by, stands_under}
use Rattle.grain_partition.specs.Sight.{AreApart, AreOfRings}
use Rattle.grain_partition.specs.Seen.{emptied, pieces_seen}

-- ---- Some of the arcs between two rings.
one_at_most : (places : List ℕ) → arcs_per_hash places ≤ 1
one_at_most [] = omega arith
one_at_most (place ∷ places) = omega arith

count_among : (p q : RingArc → Bool) (arcs : List RingArc) → count_by p (filter q arcs) ≤ count_by p arcs
count_among p q [] = omega arith
count_among p q (arc ∷ arcs) = by (q arc) (count_among p q arcs)
  where
    all : count_by p (arc ∷ arcs) ≡ cond (p arc) 1 0 + count_by p arcs
    all = sum_by-cons (λ (a : RingArc). cond (p a) 1 0) arc arcs

    by : (b : Bool) → count_by p (filter q arcs) ≤ count_by p arcs
        → count_by p (cond b (arc ∷ filter q arcs) (filter q arcs)) ≤ count_by p (arc ∷ arcs)
    by true rest = let these = sum_by-cons (λ (a : RingArc). cond (p a) 1 0) arc (filter q arcs) in omega (arith, these, all, rest)
    by false rest = omega (arith, all, rest)

apart_among : (q : RingArc → Bool) (arcs : List RingArc) → AreOfRings arcs → AreApart (filter q arcs)
apart_among q arcs of = record {
  once = λ hash below.
      let few = one_at_most (all_places of.old of.new) in
      omega (arith, few, count_among (λ arc. holds arc.range hash) q arcs, of.are.once hash below);
  ranges = All-filter q (λ (arc : RingArc). IsRange arc.range) arcs of.are.ranges;
  present = All-filter q (λ (arc : RingArc). 0 < arc.range.size) arcs of.are.present;
  in_order = AllPairs-filter (λ (arc later : RingArc). arc.range.start < later.range.start) q arcs of.are.in_order;
}

pub owned_apart : (silo : Silo) (arcs : List RingArc) → AreOfRings arcs → AreApart (owned_by silo arcs)
owned_apart silo arcs of = apart_among (λ arc. is_owner silo arc.to) arcs of

-- ---- Those of one silo are enough for its sight.
narrower : (p q : RingArc → Bool) → ((arc : RingArc) → p arc ≡ true → q arc ≡ true) → (arcs : List RingArc)
    → filter p (filter q arcs) ≡ filter p arcs
narrower p q within [] = refl
narrower p q within (arc ∷ arcs) = by (q arc) (p arc) refl refl (narrower p q within arcs)
  where
    by : (b c : Bool) → q arc ≡ b → p arc ≡ c → filter p (filter q arcs) ≡ filter p arcs
        → filter p (cond b (arc ∷ filter q arcs) (filter q arcs)) ≡ cond (p arc) (arc ∷ filter p arcs) (filter p arcs)
    by true c is its rest = ap (λ l. cond (p arc) (arc ∷ l) l) rest
    by false true is its rest = absurd (let no : false ≡ true = sym is ∙ within arc its in cc)
    by false false is its rest = rest ∙ ap (λ b. cond b (arc ∷ filter p arcs) (filter p arcs)) (sym its)

pub own_after : (next : Bool) (hashing : Hashing) (view : ViewValue) (silo : Silo) (pieces : List (ℕ × Piece)) (arcs : List RingArc)
    → pieces_after next hashing view silo pieces (owned_by silo arcs) ≡ pieces_after next hashing view silo pieces arcs
own_after next hashing view silo pieces arcs =
    ap (λ l. map (λ arc. (arc.range.start, piece_of next hashing view silo pieces arc)) l)
    (narrower (λ arc. is_owner silo arc.to) (λ arc. is_owner silo arc.to) (λ arc is. is) arcs)

pub own_seen : (next : Bool) (hashing : Hashing) (view : ViewValue) (silo : Silo) (pieces : List (ℕ × Piece)) (arcs : List RingArc)
    → pieces_seen next hashing view silo pieces (owned_by silo arcs) ≡ pieces_seen next hashing view silo pieces arcs
own_seen next hashing view silo pieces arcs = ap emptied (own_after next hashing view silo pieces arcs)

-- who hands an arc over gives it up
gives_up : (silo : Silo) (range : Range) (from to : Option Silo) (settled : Bool)
    → (is_owner silo from && is_some to && not (is_owner silo to) && settled) ≡ true
    → is_owner silo (giver_in (move_between range from to)) ≡ true
gives_up silo range None to settled is = absurd (let no : false ≡ true = is in cc)
gives_up silo range (Some owner) None settled is =
    let known = both (silo_eq owner silo && false) true (both (silo_eq owner silo && false && true) settled is).0 in
    absurd (let no : false ≡ true = (both (silo_eq owner silo) false known.0).1 in cc)
gives_up silo range (Some owner) (Some to) settled is = by (silo_eq owner to) refl
  where
    both_owners : (silo_eq owner silo && true ≡ true) × (not (silo_eq to silo) ≡ true)
    both_owners =
        both (silo_eq owner silo && true) (not (silo_eq to silo)) (both (silo_eq owner silo && true && not (silo_eq to silo)) settled is).0

    own : silo_eq owner silo ≡ true
    own = (both (silo_eq owner silo) true both_owners.0).0

    other : not (silo_eq to silo) ≡ true
    other = both_owners.1

    by : (b : Bool) → silo_eq owner to ≡ b → is_owner silo
        (giver_in (cond b None (Some (record { range = range; from = Some owner; to = to })))) ≡ true
    by true same =
        let one : silo_eq to silo ≡ true = ap (λ s. silo_eq s silo) (sym ((Decides-silo owner to).0 same)) ∙ own in
        absurd (let no : false ≡ true = ap not (sym one) ∙ other in cc)
    by false same = own

pub own_sealed : (hashing : Hashing) (view : ViewValue) (silo : Silo) (pieces : List (ℕ × Piece)) (arcs : List RingArc)
    → sealed hashing view silo pieces (given_by silo arcs) ≡ sealed hashing view silo pieces arcs
own_sealed hashing view silo pieces arcs =
    ap (λ l. flat_map (λ arc. snapshot_for arc.to hashing view silo pieces arc.range) l)
    (narrower (is_handed_over silo pieces) (λ arc. is_owner silo (giver_of arc))
    (λ arc is. gives_up silo arc.range arc.from arc.to (was_settled pieces arc.range) is) arcs)

-- ---- An arc more under its silo.
-- the order's test for one silo is that of equality
one_silo : (a b : Silo) → is_at (silo_cmp a) b ≡ silo_eq a b
one_silo a b = by (is_at (silo_cmp a) b) (silo_eq a b) refl refl
  where
    by : (s t : Bool) → is_at (silo_cmp a) b ≡ s → silo_eq a b ≡ t → is_at (silo_cmp a) b ≡ silo_eq a b
    by true t is e = is ∙ sym ((Decides-silo a b).1 (silo_cmp_exact a b (Equal-from (silo_cmp a b) is)))
    by false true is e =
        let same : is_at (silo_cmp a) b ≡ true = ap (λ x. is_eq (silo_cmp a x)) (sym ((Decides-silo a b).0 e)) ∙ ap is_eq (tied_itself silo_cmp_total a) in
        absurd (let no : false ≡ true = sym is ∙ same in cc)
    by false false is e = is ∙ sym e

pub put_more : (silo : Silo) (arc : RingArc) (before after : List (Silo × List RingArc))
    → Puts silo (arcs_under silo before ++ arc ∷ []) before after
    → (other : Silo) → arcs_under other after ≡ arcs_under other before ++ cond (silo_eq silo other) (arc ∷ []) []
put_more silo arc before after puts other =
    ap all_of (puts other ∙ ap (λ b. cond b (Some (arcs_under silo before ++ arc ∷ [])) (stands_under other before)) (one_silo silo other))
    ∙ by (silo_eq silo other) refl
  where
    by : (b : Bool) → silo_eq silo other ≡ b
        → all_of (cond b (Some (arcs_under silo before ++ arc ∷ [])) (stands_under other before)) ≡ arcs_under other before ++ cond b
        (arc ∷ []) []
    by true is = ap (λ s. arcs_under s before ++ arc ∷ []) ((Decides-silo silo other).0 is)
    by false is = sym (append-nil (arcs_under other before))
