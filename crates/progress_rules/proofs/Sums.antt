-- Sums of sums, and over pieces of which one is set.
use Rattle.std.proofs.Common.{arith, ◌≡◌, ◌≢◌, refl, ap, ◌∙◌, ℕ, suc, ◌+◌, ◌*◌, ◌<◌, ◌≤◌, List, [], ◌∷◌}
use Rattle.std.specs.Prelude.{false, cond, sum_by, All, AllPairs, Some}
use Rattle.std.specs.List.{slice_index_or}
use Rattle.std.specs.Ordering.{nat_cmp}
use Rattle.std.specs.Map.{lookup, set_value, values_of}
use Rattle.std.specs.BTreeMap.{is_at}
use Rattle.std.proofs.Math.Nat.{mul-add}
use Rattle.std.proofs.lemmas.List.Elements.{All-head, All-tail}
use Rattle.std.proofs.lemmas.List.Sums.{sum_by-cons}
use Rattle.std.proofs.lemmas.Map.Lookups.{exact_unsigned}
use Rattle.texts.proofs.Orderings.{at_itself}
use Rattle.ring_range.specs.Range.{Range}
use Rattle.directory_rules.specs.declared.piece_state.PieceState.{PieceState}
use Rattle.directory_rules.specs.State.{Piece}
use Rattle.directory_rules.proofs.Cases.{on_bool}
use Rattle.directory_facts.specs.Whole.{StandUnderStarts, outline_of}
use Rattle.directory_facts.proofs.Entries.{same_key}

pub le_same : (a : ℕ) → a ≤ a
le_same a = omega arith

-- ---- sums of sums
pub sum_plus : {X : Type 0} (h f g : X → ℕ) → ((x : X) → h x ≡ f x + g x) → (xs : List X) → sum_by h xs ≡ sum_by f xs + sum_by g xs
sum_plus h f g is [] = refl
sum_plus h f g is (x ∷ xs) =
    let here = is x in
    let rest = sum_plus h f g is xs in
    let whole = sum_by-cons h x xs in
    let one = sum_by-cons f x xs in
    let other = sum_by-cons g x xs in
    omega (arith, here, rest, whole, one, other)

pub sum_times : {X : Type 0} (h f : X → ℕ) (m : ℕ) → ((x : X) → h x ≡ m * f x) → (xs : List X) → sum_by h xs ≡ m * sum_by f xs
sum_times h f m is [] = let none : 0 ≡ m * 0 = omega arith in none
sum_times h f m is (x ∷ xs) =
    let here = is x in
    let rest = sum_times h f m is xs in
    let whole = sum_by-cons h x xs in
    let parts = ap (λ k. m * k) (sum_by-cons f x xs) ∙ mul-add m (f x) (sum_by f xs) in
    omega (arith, here, rest, whole, parts)

-- ---- pieces, of which one is set
under_le : (f g : Piece → ℕ) (k : ℕ) → ((p : Piece) → p.range.start ≢ k → g p ≤ f p) → (es : List (ℕ × Piece)) → StandUnderStarts es
    → All (λ e. e.0 ≢ k) es
    → sum_by g (values_of es) ≤ sum_by f (values_of es)
under_le f g k le [] under apart = le_same 0
under_le f g k le (e ∷ es) under apart =
    let start = All-head (λ (x : ℕ × Piece). x.0 ≡ x.1.range.start) e es under in
    let here = le e.1 (λ same. All-head (λ (x : ℕ × Piece). x.0 ≢ k) e es apart (start ∙ same)) in
    let rest = under_le f g k le es (All-tail (λ (x : ℕ × Piece). x.0 ≡ x.1.range.start) e es under) (All-tail (λ (x : ℕ × Piece). x.0 ≢ k) e es apart) in
    let one = sum_by-cons f e.1 (values_of es) in
    let other = sum_by-cons g e.1 (values_of es) in
    omega (arith, here, rest, one, other)

-- the others count no more than before
pub sum_set : (f g : Piece → ℕ) (k : ℕ) (old new : Piece) → ((p : Piece) → p.range.start ≢ k → g p ≤ f p) → (es : List (ℕ × Piece))
    → StandUnderStarts es
    → AllPairs (λ e later. e.0 < later.0) es → lookup (is_at (nat_cmp k)) es ≡ Some old
    → sum_by g (values_of (set_value (is_at (nat_cmp k)) es new)) + f old ≤ sum_by f (values_of es) + g new
sum_set f g k old new le [] under rising found = absurd (cc (found))
sum_set f g k old new le (e ∷ es) under rising found =
    on_bool (λ b. is_at (nat_cmp k) e.0 ≡ b → cond b (Some e.1) (lookup (is_at (nat_cmp k)) es) ≡ Some old
    → sum_by g (values_of (cond b ((e.0, new) ∷ es) (e ∷ set_value (is_at (nat_cmp k)) es new))) + f old ≤ sum_by f (values_of (e ∷ es)) + g
    new) (is_at (nat_cmp k) e.0)
    (λ t is here.
    let same : k ≡ e.0 = same_key nat_cmp exact_unsigned k e.0 is in
    let its : e.1 ≡ old = cc (here) in
    let at = ap f its in
    let rest = under_le f g k le es later
    (λ i d below one. let above : e.0 < (slice_index_or es i d).0 = rising 0 (suc i) d (omega arith) (omega (arith, below)) in
    omega (arith, above, same, one)) in
    let whole = sum_by-cons f e.1 (values_of es) in
    let set = sum_by-cons g new (values_of es) in
    omega (arith, at, rest, whole, set))
    (λ u is there.
    let rest = sum_set f g k old new le es later (λ i j d lt below. rising (suc i) (suc j) d (omega (arith, lt)) (omega (arith, below))) there in
    let start = All-head (λ (x : ℕ × Piece). x.0 ≡ x.1.range.start) e es under in
    let here = le e.1 (λ same. other_start is (start ∙ same)) in
    let whole = sum_by-cons f e.1 (values_of es) in
    let set = sum_by-cons g e.1 (values_of (set_value (is_at (nat_cmp k)) es new)) in
    omega (arith, here, rest, whole, set)) refl found
  where
    later : StandUnderStarts es
    later = All-tail (λ (x : ℕ × Piece). x.0 ≡ x.1.range.start) e es under

    other_start : is_at (nat_cmp k) e.0 ≡ false → e.0 ≡ k → ⊥
    other_start is same = let it = at_itself k in let at = ap (is_at (nat_cmp k)) same in cc (is, it, at)

-- a sum over pieces that looks at ranges and states
pub sum_outline : (f : PieceState → Range → ℕ) (es : List (ℕ × Piece))
    → sum_by (λ (p : Piece). f p.state p.range) (values_of es) ≡ sum_by (λ (o : ℕ × Range × PieceState). f o.2 o.1) (outline_of es)
sum_outline f [] = refl
sum_outline f (e ∷ es) =
    let rest = sum_outline f es in
    let one = sum_by-cons (λ (p : Piece). f p.state p.range) e.1 (values_of es) in
    let other = sum_by-cons (λ (o : ℕ × Range × PieceState). f o.2 o.1) (e.0, e.1.range, e.1.state) (outline_of es) in
    omega (arith, rest, one, other)
