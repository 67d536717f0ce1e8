-- Which silo owns a hash and how many pieces hold it changes only at the turning hashes.
use Rattle.std.proofs.Common.{◌≡◌, ◌≢◌, ℕ, zero, suc, ◌+◌, ◌<◌, ◌==◌, ◌&&◌, ◌||◌, if◌then◌else◌, Bool, true, false, cond, List, [], ◌∷◌, ◌++◌, map, count_by, All, Option, Some, None, IfSome, refl, sym, ◌∙◌, ap, arith, append-nil}
use Rattle.std.specs.Bool.{Decides}
use Rattle.std.specs.List.{list_all, list_any}
use Rattle.std.specs.Ordering.{nat_cmp, ordering_then, is_lt, on, then_cmp}
use Rattle.std.specs.declared.cmp.Ordering.{Ordering}
use Rattle.silo_address.specs.Silo.{Silo, silo_cmp}
use Rattle.std.proofs.lemmas.Bool.Decides.{nat_tests, Decides-eqb}
use Rattle.std.proofs.lemmas.List.Elements.{All-nil, All-cons, All-head, All-tail}
use Rattle.std.proofs.lemmas.List.Sums.{sum_by-cons}
use Rattle.std.proofs.lemmas.List.Folds.{list_all-append, list_all-map}
use Rattle.texts.proofs.Decided.{both}
use Rattle.ring_range.proofs.Circle.{ahead-lt, ahead-distance, distance-lt}
use Rattle.ring_range.specs.Range.{circle, Range, IsRange, holds, distance, ahead}
use Rattle.hash_ring.specs.declared.point.Point.{Point}
use Rattle.hash_ring.specs.Point.{IsOnCircle, back}
use Rattle.hash_ring.specs.Owner.{nearness_cmp, nearer_of, owner_of, is_of_silo, owns}
use Rattle.dump_rules.specs.Dump.{DumpHeld, DumpPiece, DumpNode}
use Rattle.dump_rules.specs.Verdict.{is_held_as_owned, turning_hashes, has_its_ranges, HasHashes, HasItsRanges}

-- the next hash going forward
abbrev next : ℕ → ℕ
next hash = ahead hash 1

-- a place that isn't the next hash is one step further back from there
further_back : (place hash : ℕ) → place < circle → hash < circle → place ≢ next hash → distance place (next hash) ≡ distance place hash + 1
further_back place hash p h differs = grind (arith, nat_tests)

-- a range that neither begins nor ends at the next hash holds both or none
holds_on : (range : Range) (hash : ℕ) → IsRange range → hash < circle → range.start ≢ next hash → ahead range.start range.size ≢ next hash
    → holds range (next hash) ≡ holds range hash
holds_on range hash is_range h begins ends = grind (arith, nat_tests)

-- ---- How many of the ranges hold a hash.
abbrev held_count : List DumpPiece → ℕ → ℕ
held_count pieces hash = count_by (λ piece. holds piece.range hash) pieces

-- the range doesn't turn at the hash
abbrev StaysIn : ℕ → DumpPiece → Type 0
StaysIn hash piece = IsRange piece.range × (piece.range.start ≢ hash) × (ahead piece.range.start piece.range.size ≢ hash)

held_count_on : (pieces : List DumpPiece) (hash : ℕ) → hash < circle → All (StaysIn (next hash)) pieces
    → held_count pieces (next hash) ≡ held_count pieces hash
held_count_on [] hash h stay = refl
held_count_on (piece ∷ pieces) hash h stay =
    let here = All-head (StaysIn (next hash)) piece pieces stay in
    let first = holds_on piece.range hash here.0 h here.1 here.2 in
    let rest = held_count_on pieces hash h (All-tail (StaysIn (next hash)) piece pieces stay) in
    sum_by-cons (λ p. cond (holds p.range (next hash)) 1 0) piece pieces
    ∙ ap (λ b. cond b 1 0 + held_count pieces (next hash)) first
    ∙ ap (λ n. cond (holds piece.range hash) 1 0 + n) rest
    ∙ sym (sum_by-cons (λ p. cond (holds p.range hash) 1 0) piece pieces)

-- ---- Who owns a hash.
abbrev StaysAt : ℕ → Point → Type 0
StaysAt hash point = IsOnCircle point × (point.place ≢ hash)

abbrev nearness_rest : Point → Point → Ordering
nearness_rest = then_cmp (on (λ p. p.silo) silo_cmp) (on (λ p. p.index) nat_cmp)

both_further : (a b : ℕ) → nat_cmp (a + 1) (b + 1) ≡ nat_cmp a b
both_further a b = grind (arith, nat_tests)

nearness_on : (hash : ℕ) → hash < circle → (p q : Point) → StaysAt (next hash) p → StaysAt (next hash) q
    → nearness_cmp (next hash) p q ≡ nearness_cmp hash p q
nearness_on hash h p q at_p at_q =
    ap (λ (o : Ordering). ordering_then o (nearness_rest p q))
    (ap (λ n. nat_cmp n (back (next hash) q.place)) (further_back p.place hash at_p.0 h at_p.1)
    ∙ ap (λ n. nat_cmp (back hash p.place + 1) n) (further_back q.place hash at_q.0 h at_q.1)
    ∙ both_further (back hash p.place) (back hash q.place))

nearer_on : (hash : ℕ) → hash < circle → (p : Point) (other : Option Point) → StaysAt (next hash) p → IfSome other (StaysAt (next hash))
    → nearer_of (next hash) p other ≡ nearer_of hash p other
nearer_on hash h p None at_p at_other = refl
nearer_on hash h p (Some other) at_p at_other =
    ap (λ (o : Ordering). if is_lt o then other else p) (nearness_on hash h other p at_other at_p)

nearer_stays : (P : Point → Type 0) (hash : ℕ) (p : Point) (other : Option Point) → P p → IfSome other P → P (nearer_of hash p other)
nearer_stays P hash p None at_p at_other = at_p
nearer_stays P hash p (Some other) at_p at_other = chosen (is_lt (nearness_cmp hash other p))
  where
    chosen : (b : Bool) → P (if b then other else p)
    chosen true = at_other
    chosen false = at_p

owner_stays : (P : Point → Type 0) (hash : ℕ) (points : List Point) → All P points → IfSome (owner_of points hash) P
owner_stays P hash [] all = tt
owner_stays P hash (p ∷ ps) all =
    nearer_stays P hash p (owner_of ps hash) (All-head P p ps all) (owner_stays P hash ps (All-tail P p ps all))

owner_on : (hash : ℕ) → hash < circle → (points : List Point) → All (StaysAt (next hash)) points
    → owner_of points (next hash) ≡ owner_of points hash
owner_on hash h [] stay = refl
owner_on hash h (p ∷ ps) stay =
    let S : Point → Type 0 = StaysAt (next hash) in
    let rest = owner_on hash h ps (All-tail S p ps stay) in
    ap (λ (o : Option Point). Some (nearer_of (next hash) p o)) rest
    ∙ ap (λ (o : Point). Some o) (nearer_on hash h p (owner_of ps hash) (All-head S p ps stay)
    (owner_stays S hash ps (All-tail S p ps stay)))

-- ---- Both together: where nothing turns at the next hash, what is right at the hash is right there.
right_on : (node : DumpNode) (hash : ℕ) → hash < circle → All (StaysAt (next hash)) node.ring → All (StaysIn (next hash)) node.pieces
    → is_held_as_owned node (next hash) ≡ is_held_as_owned node hash
right_on node hash h points pieces =
    ap (λ n. n == (if owns node.ring node.silo (next hash) then 1 else 0)) (held_count_on node.pieces hash h pieces)
    ∙ ap (λ (o : Option Point). held_count node.pieces hash == (if is_of_silo node.silo o then 1 else 0)) (owner_on hash h node.ring points)

-- ---- What is among numbers, and what isn't.
abbrev is_among : ℕ → List ℕ → Bool
is_among number numbers = list_any (λ other. other == number) numbers

passes_among : (p : ℕ → Bool) (number : ℕ) (numbers : List ℕ) → list_all p numbers ≡ true → is_among number numbers ≡ true → p number ≡ true
passes_among p number [] all there = let no : false ≡ true = there in cc
passes_among p number (first ∷ numbers) all there =
    found (first == number) (Decides-eqb first number) (passes_among p number numbers (both (p first) (list_all p numbers) all).1) there
  where
    found : (b : Bool) → Decides b (first ≡ number) → (is_among number numbers ≡ true → p number ≡ true)
        → (b || is_among number numbers) ≡ true → p number ≡ true
    found true same later there = ap p (sym (same.0 refl)) ∙ (both (p first) (list_all p numbers) all).0
    found false same later there = later there

-- it isn't what the items give, nor among the other numbers
abbrev IsNone : {X : Type 0} → (X → ℕ) → ℕ → List X → List ℕ → Type 0
IsNone f number items others = All (λ item. f item ≢ number) items × (is_among number others ≡ false)

none_given : {X : Type 0} (f : X → ℕ) (number : ℕ) (items : List X) (others : List ℕ) → is_among number (map f items ++ others) ≡ false
    → IsNone f number items others
none_given f number [] others absent = (All-nil (λ item. f item ≢ number), absent)
none_given {X} f number (item ∷ items) others absent =
    none (f item == number) (Decides-eqb (f item) number) (none_given f number items others) absent
  where
    none : (b : Bool) → Decides b (f item ≡ number) → (is_among number (map f items ++ others) ≡ false → IsNone f number items others)
        → (b || is_among number (map f items ++ others)) ≡ false → IsNone f number (item ∷ items) others
    none true same later absent = absurd (let no : true ≡ false = absent in cc)
    none false same later absent =
        let rest = later absent in
        (All-cons (λ (x : X). f x ≢ number) item items (λ e. let no : false ≡ true = same.1 e in cc) rest.0, rest.1)

-- ---- All round the circle from one hash on, step by step.
one_more_ahead : (start steps : ℕ) → start < circle → suc steps < circle → ahead start (suc steps) ≡ next (ahead start steps)
one_more_ahead start steps s below = grind (arith, nat_tests)

no_turn : (node : DumpNode) (hash : ℕ) → HasHashes node → is_among hash (turning_hashes node) ≡ false
    → All (StaysAt hash) node.ring × All (StaysIn hash) node.pieces
no_turn node hash hashes absent =
    let points = none_given (λ (p : Point). p.place) hash node.ring _ absent in
    let starts = none_given (λ (p : DumpPiece). p.range.start) hash node.pieces _ points.1 in
    let ends = none_given (λ (p : DumpPiece). ahead p.range.start p.range.size) hash node.pieces [] (ap (is_among hash) (append-nil _) ∙ starts.1) in (
      λ k d below. (hashes.places k d below, points.0 k d below),
      λ k d below.
          (hashes.ranges k d below, starts.0 k d below, ends.0 k d below),
    )

right_round : (node : DumpNode) (start : ℕ) → HasHashes node → has_its_ranges node ≡ true → start < circle
    → is_held_as_owned node start ≡ true
    → (steps : ℕ) → steps < circle → is_held_as_owned node (ahead start steps) ≡ true
right_round node start hashes all s right zero below = ap (is_held_as_owned node) (at_start start s) ∙ right
  where
    at_start : (start : ℕ) → start < circle → ahead start 0 ≡ start
    at_start start s = grind (arith, nat_tests)
right_round node start hashes all s right (suc steps) below =
    ap (is_held_as_owned node) (one_more_ahead start steps s below)
    ∙ turning (right_round node start hashes all s right steps (omega arith))
    (is_among (next (ahead start steps)) (turning_hashes node)) refl
  where
    turning : is_held_as_owned node (ahead start steps) ≡ true → (b : Bool) → is_among (next (ahead start steps)) (turning_hashes node) ≡ b
        → is_held_as_owned node (next (ahead start steps)) ≡ true
    turning so_far true there = passes_among (is_held_as_owned node) (next (ahead start steps)) (turning_hashes node) all there
    turning so_far false absent =
        let stay = no_turn node (next (ahead start steps)) hashes absent in
        right_on node (ahead start steps) (ahead-lt start steps s (omega arith)) stay.0 stay.1 ∙ so_far

-- ---- The law.
abbrev node_with : List DumpHeld → ℕ → Silo → List Point → List DumpPiece → DumpNode
node_with held seen silo ring pieces = record { held = held; pieces = pieces; ring = ring; seen = seen; silo = silo }

first_passes : (p : ℕ → Bool) (number : ℕ) (numbers : List ℕ) → list_all p (number ∷ numbers) ≡ true → p number ≡ true
first_passes p number numbers all = (both (p number) (list_all p numbers) all).0

right_from : (node : DumpNode) → HasHashes node → has_its_ranges node ≡ true → (hash : ℕ) → hash < circle
    → (start : ℕ) → start < circle → is_held_as_owned node start ≡ true → is_held_as_owned node hash ≡ true
right_from node hashes all hash h start s right =
    ap (is_held_as_owned node) (sym (ahead-distance start hash s h))
    ∙ right_round node start hashes all s right (distance start hash) (distance-lt start hash s h)

right_everywhere : (held : List DumpHeld) (seen : ℕ) (silo : Silo) (ring : List Point) (pieces : List DumpPiece)
    → let node : DumpNode = node_with held seen silo ring pieces in
    HasHashes node → has_its_ranges node ≡ true → (hash : ℕ) → hash < circle → is_held_as_owned node hash ≡ true
right_everywhere held seen silo [] [] hashes all hash h = refl
right_everywhere held seen silo [] (piece ∷ pieces) hashes all hash h =
    let node = node_with held seen silo [] (piece ∷ pieces) in
    right_from node hashes all hash h piece.range.start (All-head (λ p. IsRange p.range) piece pieces hashes.ranges).start_below
    (first_passes (is_held_as_owned node) piece.range.start _ all)
right_everywhere held seen silo (point ∷ points) pieces hashes all hash h =
    let node = node_with held seen silo (point ∷ points) pieces in
    right_from node hashes all hash h point.place (All-head IsOnCircle point points hashes.places)
    (first_passes (is_held_as_owned node) point.place _ all)

all_pass : {X : Type 0} (p : X → Bool) (P : X → Type 0) → ((x : X) → P x → p x ≡ true) → (xs : List X) → All P xs → list_all p xs ≡ true
all_pass p P passes [] all = refl
all_pass p P passes (x ∷ xs) all =
    ap (λ b. b && list_all p xs) (passes x (All-head P x xs all)) ∙ all_pass p P passes xs (All-tail P x xs all)

-- where all is right, it is right at the turning hashes
right_at_turns : (node : DumpNode) → HasHashes node → ((hash : ℕ) → hash < circle → is_held_as_owned node hash ≡ true)
    → has_its_ranges node ≡ true
right_at_turns node hashes right =
    let R : ℕ → Bool = is_held_as_owned node in
    let points = all_pass (λ (p : Point). R p.place) IsOnCircle (λ p on. right p.place on) node.ring hashes.places in
    let starts = all_pass (λ (p : DumpPiece). R p.range.start) (λ p. IsRange p.range) (λ p is. right p.range.start is.start_below) node.pieces hashes.ranges in
    let ends = all_pass (λ (p : DumpPiece). R (ahead p.range.start p.range.size)) (λ p. IsRange p.range)
    (λ p is. right (ahead p.range.start p.range.size) (ahead-lt p.range.start p.range.size is.start_below is.size_within)) node.pieces
    hashes.ranges in
    list_all-append R _ _
    ∙ ap (λ b. b && list_all R (map (λ p. p.range.start) node.pieces ++ map (λ p. ahead p.range.start p.range.size) node.pieces))
    (list_all-map R (λ p. p.place) node.ring ∙ points)
    ∙ list_all-append R _ _
    ∙ ap (λ b. b && list_all R (map (λ p. ahead p.range.start p.range.size) node.pieces))
    (list_all-map R (λ p. p.range.start) node.pieces ∙ starts)
    ∙ list_all-map R (λ p. ahead p.range.start p.range.size) node.pieces ∙ ends

pub Decides-has_its_ranges : (node : DumpNode) → HasHashes node → Decides (has_its_ranges node) (HasItsRanges node)
Decides-has_its_ranges node hashes = (
  λ all hash h. (Decides-eqb _ _).0 (right_everywhere node.held node.seen node.silo node.ring node.pieces hashes all hash h),
  λ right. right_at_turns node hashes (λ hash h. (Decides-eqb _ _).1 (right hash h)),
)
