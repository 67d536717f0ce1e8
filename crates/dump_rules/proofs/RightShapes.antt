-- The test for a dump decides what its shape has to be.
use Rattle.std.proofs.Common.{arith, ◌≡◌, ◌≢◌, ◌⊎◌, refl, sym, ap, subst, ◌∙◌, inl, inr, ℕ, ◌+◌, zero, suc, ◌<◌, ◌≤◌, leb, List, [], ◌∷◌}
use Rattle.std.specs.Prelude.{Bool, true, false, not, ◌==◌, ◌&&◌, map, length, All, Contains, Option, Some, None, is_none}
use Rattle.std.specs.Bool.{Decides}
use Rattle.std.specs.List.{list_all, slice_index_or}
use Rattle.std.specs.List.Sorted.{IsSorted}
use Rattle.std.specs.Ordering.{nat_cmp, is_lt}
use Rattle.std.specs.declared.cmp.Ordering.{Ordering}
use Rattle.std.proofs.lemmas.Bool.Decides.{Decides-like, Decides-and, Decides-or, Decides-not, Decides-eqb, Decides-ltb, Decides-by_and, leb_tells}
use Rattle.std.proofs.lemmas.List.Elements.{All-nil, All-cons, All-head, All-tail}
use Rattle.std.proofs.lemmas.List.Kept.{AllPairs-cons}
use Rattle.silo_address.specs.Silo.{Silo, silo_cmp, silo_eq}
use Rattle.silo_address.specs.Grain.{grain_cmp, grain_eq}
use Rattle.silo_address.specs.Activation.{activation_eq}
use Rattle.silo_address.proofs.Same.{Decides-silo, Decides-grain, Decides-activation}
use Rattle.ring_range.specs.Range.{circle, IsRange}
use Rattle.hash_ring.specs.declared.hashing.Hashing.{Hashing}
use Rattle.hash_ring.specs.declared.hashing.Hashing.TheVariants.{Sha256, Stated}
use Rattle.hash_ring.specs.declared.point.Point.{Point}
use Rattle.hash_ring.specs.Places.{is_point_count, has_points, most_points}
use Rattle.dump_rules.specs.Dump.{DumpState, Settled, Awaiting, Recovering, DumpPiece, DumpNode, DumpRow, DumpValue}
use Rattle.dump_rules.specs.Verdict.{is_settled_state}
use Rattle.dump_rules.specs.DumpShape as test
use Rattle.dump_rules.specs.RightShape as right
use Rattle.dump_rules.proofs.Contained.{here, there, contains_nothing, first_or_later, Decides-contains, no_pairs, pairs_head, pairs_tail}

-- ---- Tests of lists.
each : {X : Type 0} (p : X → Bool) (P : X → Type 0) → ((x : X) → Decides (p x) (P x)) → (xs : List X) → Decides (list_all p xs) (All P xs)
each p P one = Decides-by_and p P (list_all p) one refl (λ _ _. refl)

abbrev Not : {X : Type 0} → X → X → Type 0
Not x later = x ≢ later

absent : {X : Type 0} (x : X) (xs : List X) → ¬ Contains xs x → All (Not x) xs
absent x [] none = All-nil (Not x)
absent {X} x (y ∷ ys) none =
    All-cons (Not x) y ys (λ same. none (subst (λ (q : X). Contains (y ∷ ys) q) (sym same) (here y ys)))
    (absent x ys (λ c. none (there y x ys c)))

present : {X : Type 0} (x : X) (xs : List X) → All (Not x) xs → ¬ Contains xs x
present x [] apart = λ c. contains_nothing x c
present {X} x (y ∷ ys) apart = λ c. at (first_or_later y x ys c) (present x ys (All-tail (Not x) y ys apart))
  where
    at : (y ≡ x) ⊎ Contains ys x → ¬ Contains ys x → ⊥
    at (inl e) rest = All-head (Not x) y ys apart (sym e)
    at (inr later) rest = rest later

distinct : {X : Type 0} (E : X → X → Bool) → ((a b : X) → Decides (E a b) (a ≡ b)) → (xs : List X)
    → Decides (test.are_distinct_by E xs) (right.AreDistinct xs)
distinct E exact [] = (λ _. no_pairs Not, λ _. refl)
distinct E exact (x ∷ xs) =
    Decides-like _ (λ p. AllPairs-cons Not x xs (absent x xs p.0) p.1)
    (λ pairs. (present x xs (pairs_head Not x xs pairs), pairs_tail Not x xs pairs))
    (Decides-and _ _ (Decides-not _ (Decides-contains E exact x xs)) (distinct E exact xs))

negated : (b : Bool) → Decides (not b) (b ≡ false)
negated true = (λ no. absurd (cc), λ no. absurd (cc))
negated false = (λ _. refl, λ _. refl)

in_order : {X : Type 0} (compare : X → X → Ordering) (xs : List X) → Decides (test.are_in_order compare xs) (IsSorted compare xs)
in_order compare [] = (λ _ k d low high. absurd (omega (arith, high)), λ _. refl)
in_order compare (x ∷ []) = (λ _ k d low high. absurd (omega (arith, high)), λ _. refl)
in_order {X} compare (x ∷ y ∷ rest) = Decides-like _ to from (Decides-and _ _ (negated (is_lt (compare y x))) (in_order compare (y ∷ rest)))
  where
    next : (k : ℕ) (d : X) → slice_index_or (x ∷ y ∷ rest) (suc k + 1) d ≡ slice_index_or (y ∷ rest) (k + 1) d
    next k d = let e : suc k + 1 ≡ suc (k + 1) = omega arith in ap (λ n. slice_index_or (x ∷ y ∷ rest) n d) e

    to : (is_lt (compare y x) ≡ false) × IsSorted compare (y ∷ rest) → IsSorted compare (x ∷ y ∷ rest)
    to p zero d low high = p.0
    to p (suc k) d low high =
        subst (λ (q : X). is_lt (compare q (slice_index_or (y ∷ rest) k d)) ≡ false) (sym (next k d))
        (p.1 k d (omega arith) (omega (arith, high)))

    from : IsSorted compare (x ∷ y ∷ rest) → (is_lt (compare y x) ≡ false) × IsSorted compare (y ∷ rest)
    from up = (
      up 0 x (omega arith) (omega arith),
      λ k d low high. subst (λ (q : X). is_lt (compare q (slice_index_or (y ∷ rest) k d)) ≡ false) (next k d)
          (up (suc k) d (omega arith) (omega (arith, high))),
    )

-- ---- Numbers.
at_most : (a b : ℕ) → Decides (leb a b) (a ≤ b)
at_most a b = by (leb_tells a b)
  where
    by : ((leb a b ≡ true) × (a ≤ b)) ⊎ ((leb a b ≡ false) × (b < a)) → Decides (leb a b) (a ≤ b)
    by (inl t) = (λ _. t.1, λ _. t.0)
    by (inr f) = (λ is. absurd (let no : false ≡ true = sym f.0 ∙ is in cc), λ le. absurd (omega (arith, le, f.1)))

range : (piece : DumpPiece) → Decides (test.has_piece_numbers piece) (IsRange piece.range)
range piece =
    Decides-like _ (λ p. record { start_below = p.0; size_within = p.1 }) (λ is. (is.start_below, is.size_within))
    (Decides-and _ _ (Decides-ltb piece.range.start circle) (at_most piece.range.size circle))

row_numbers : (row : DumpRow) → Decides (test.has_row_numbers row) (right.HasRowNumbers row)
row_numbers row =
    Decides-like _ (λ p. record { dead = p.0.0.0; joined = p.0.0.1; left = p.0.1; places = p.1 })
    (λ is. (((is.dead, is.joined), is.left), is.places))
    (Decides-and _ _ (Decides-and _ _ (Decides-and _ _ (Decides-ltb row.dead _) (Decides-ltb row.joined _)) (Decides-ltb row.left _))
    (each test.is_hash (λ place. place < circle) (λ place. Decides-ltb place circle) row.places))

point_numbers : (point : Point) → Decides (test.has_point_numbers point) (right.HasPointNumbers point)
point_numbers point =
    Decides-like _ (λ p. record { place = p.0; index = p.1 }) (λ is. (is.place, is.index))
    (Decides-and _ _ (Decides-ltb point.place circle) (Decides-ltb point.index _))

node_numbers : (node : DumpNode) → Decides (test.has_node_numbers node) (right.HasNodeNumbers node)
node_numbers node =
    Decides-like _ (λ p. record { seen = p.0.0; ring = p.0.1; pieces = p.1 }) (λ is. ((is.seen, is.ring), is.pieces))
    (Decides-and _ _ (Decides-and _ _ (Decides-ltb node.seen _) (each test.has_point_numbers right.HasPointNumbers point_numbers node.ring))
    (each test.has_piece_numbers (λ piece. IsRange piece.range) range node.pieces))

numbers : (dump : DumpValue) → Decides (test.has_numbers dump) (right.HasNumbers dump)
numbers dump =
    Decides-like _ (λ p. record { current = p.0.0.0; points_above = p.0.0.1.0; points_within = p.0.0.1.1; rows = p.0.1; nodes = p.1 })
    (λ is. (((is.current, (is.points_above, is.points_within)), is.rows), is.nodes))
    (Decides-and _ _ (Decides-and _ _ (Decides-and _ _ (Decides-ltb dump.current _)
    (Decides-and _ _ (Decides-ltb 0 dump.points) (at_most dump.points most_points)))
    (each test.has_row_numbers right.HasRowNumbers row_numbers dump.rows))
    (each test.has_node_numbers right.HasNodeNumbers node_numbers dump.nodes))

-- ---- Rows.
places : (hashing : Hashing) (many : ℕ) → Decides (is_point_count hashing many && has_points hashing many) (right.MayName hashing many)
places Sha256 many = Decides-like _ (λ p. p.0) (λ none. (none, refl)) (Decides-and _ _ (Decides-eqb many 0) ((λ e. e, λ e. e)))
places Stated many = Decides-like _ (λ p. (p.1, p.0)) (λ p. (p.1, p.0)) (Decides-and _ _ (at_most many most_points) (Decides-ltb 0 many))

row_of : (dump : DumpValue) (row : DumpRow) → Decides (test.is_row_of dump row) (right.IsRowOf dump row)
row_of dump row =
    Decides-like _ (λ p. record { joined = p.0.0; made = p.0.1; places = p.1 }) (λ is. ((is.joined, is.made), is.places))
    (Decides-and _ _ (Decides-and _ _ (Decides-ltb 0 row.joined) (at_most row.joined dump.current))
    (places dump.hashing (length row.places)))

-- ---- Pieces.
settled : (its : DumpState) → Decides (is_settled_state its) (its ≡ Settled)
settled Settled = (λ _. refl, λ _. refl)
settled Awaiting = (λ no. absurd (cc), λ no. absurd (cc))
settled Recovering = (λ no. absurd (cc), λ no. absurd (cc))

no_items : {X : Type 0} (xs : List X) → Decides (length xs == 0) (xs ≡ [])
no_items [] = (λ _. refl, λ _. refl)
no_items (x ∷ xs) =
    (λ no. absurd (let many : suc (length xs) ≡ 0 = (Decides-eqb (suc (length xs)) 0).0 no in omega (arith, many)), λ no. absurd (cc))

from_nobody : (from : Option Silo) → Decides (is_none from) (from ≡ None)
from_nobody None = (λ _. refl, λ _. refl)
from_nobody (Some silo) = (λ no. absurd (cc), λ no. absurd (cc))

tells : (its : DumpState) (from : Option Silo) → Decides (test.tells_from its from) (right.TellsFrom its from)
tells Settled from = from_nobody from
tells Awaiting from = (λ some. some, λ some. some)
tells Recovering from = from_nobody from

piece : (its : DumpPiece) → Decides (test.is_piece its) (right.IsPiece its)
piece its =
    Decides-like _ (λ p. record { entries = p.0.0; from = p.0.1; in_order = p.1 }) (λ is. ((is.entries, is.from), is.in_order))
    (Decides-and _ _ (Decides-and _ _ (Decides-or _ _ (settled its.state) (no_items its.entries)) (tells its.state its.from))
    (in_order grain_cmp (map (λ entry. entry.grain) its.entries)))

-- ---- Nodes.
has_row : (dump : DumpValue) (silo : Silo) → Decides (test.has_row dump silo) (Contains (test.row_silos dump) silo)
has_row dump silo = Decides-contains silo_eq Decides-silo silo (test.row_silos dump)

known : (dump : DumpValue) (node : DumpNode) → Decides (test.has_known_silos dump node)
    (Contains (test.row_silos dump) node.silo × All (Contains (test.row_silos dump)) (test.activation_silos node))
known dump node =
    Decides-and _ _ (has_row dump node.silo) (each (test.has_row dump) (Contains (test.row_silos dump)) (has_row dump)
    (test.activation_silos node))

node_of : (dump : DumpValue) (node : DumpNode) → Decides (test.is_node_of dump node) (right.IsNodeOf dump node)
node_of dump node =
    Decides-like _
    (λ p. record {
      known = p.0.0.0.0.0.0.0;
      known_activations = p.0.0.0.0.0.0.1;
      own = p.0.0.0.0.0.1;
      activations_once = p.0.0.0.0.1;
      grains_once = p.0.0.0.1;
      seen = p.0.0.1;
      in_order = p.0.1;
      pieces = p.1;
    })
    (λ is. (((((((is.known, is.known_activations), is.own), is.activations_once), is.grains_once), is.seen), is.in_order), is.pieces))
    (Decides-and _ _ (Decides-and _ _ (Decides-and _ _ (Decides-and _ _ (Decides-and _ _ (Decides-and _ _ (known dump node)
    (each (λ held. silo_eq held.activation.silo node.silo) (λ held. held.activation.silo ≡ node.silo)
    (λ held. Decides-silo held.activation.silo node.silo) node.held))
    (distinct activation_eq Decides-activation (map (λ held. held.activation) node.held)))
    (distinct grain_eq Decides-grain (map (λ held. held.grain) node.held)))
    (at_most node.seen dump.current))
    (in_order nat_cmp (map (λ p. p.range.start) node.pieces)))
    (each test.is_piece right.IsPiece piece node.pieces))

-- ---- The dump.
shape : (dump : DumpValue) → Decides (test.has_numbers dump && test.has_shape dump) (right.IsDump dump)
shape dump =
    Decides-like _
    (λ p. record {
      numbers = p.0;
      rows_once = p.1.0.0.0.0;
      nodes_once = p.1.0.0.0.1;
      rows_in_order = p.1.0.0.1.0;
      nodes_in_order = p.1.0.0.1.1;
      rows = p.1.0.1;
      nodes = p.1.1;
    })
    (λ is. (is.numbers, ((((is.rows_once, is.nodes_once), (is.rows_in_order, is.nodes_in_order)), is.rows), is.nodes)))
    (Decides-and _ _ (numbers dump)
    (Decides-and _ _ (Decides-and _ _ (Decides-and _ _
    (Decides-and _ _ (distinct silo_eq Decides-silo (test.row_silos dump)) (distinct silo_eq Decides-silo (test.node_silos dump)))
    (Decides-and _ _ (in_order silo_cmp (test.row_silos dump)) (in_order silo_cmp (test.node_silos dump))))
    (each (test.is_row_of dump) (right.IsRowOf dump) (row_of dump) dump.rows))
    (each (test.is_node_of dump) (right.IsNodeOf dump) (node_of dump) dump.nodes)))

pub Decides-is_dump : (dump : DumpValue) → Decides (test.is_dump dump) (right.IsDump dump)
unfolding test.is_dump
Decides-is_dump dump = shape dump
