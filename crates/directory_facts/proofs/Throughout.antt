-- A range was settled just where each of its hashes lies in a settled piece.
use Rattle.std.proofs.Common.{arith, ◌≡◌, refl, sym, ap, subst, ◌∙◌, ℕ, ◌+◌, ◌-◌, ◌<◌, ◌≤◌, List, [], ◌∷◌, length, zero, suc}
use Rattle.std.specs.Prelude.{Bool, true, false, cond, ◌&&◌, ◌||◌, ◌==◌, nat_le, nat_lt, All, count_by}
use Rattle.std.specs.List.{list_all, slice_index_or}
use Rattle.std.specs.Map.{keys_of}
use Rattle.std.proofs.lemmas.Bool.{le-leb, ltb-true, ltb-false, lt-ltb}
use Rattle.std.proofs.lemmas.List.Elements.{All-nil, All-cons, All-head, All-tail}
use Rattle.std.proofs.lemmas.List.Sums.{get_or-le-sum_by}
use Rattle.texts.proofs.Decided.{both}
use Rattle.ring_range.specs.Range.{circle, Range, IsRange, distance, ahead, holds, within}
use Rattle.ring_range.specs.Cut.{cut_parts, IsInside}
use Rattle.ring_range.proofs.Circle.{distance-up, distance-round, distance-lt, distance-itself, distance-back, distance-zero, ahead-lt, distance-ahead, distance-turn}
use Rattle.ring_range.proofs.Cuts.{is_cut, ranges}
use Rattle.directory_rules.specs.State.{Piece}
use Rattle.directory_rules.specs.Sight.{is_settled, is_in_settled}
use Rattle.directory_rules.specs.Laws.{lies_settled}
use Rattle.directory_rules.proofs.Cases.{on_bool}
use Rattle.directory_rules.proofs.Throughout.{settled_throughout}
use Rattle.directory_facts.specs.Whole.{StandUnderStarts, WasSettledIsSettled}

-- starts are hashes
starts_below : (pieces : List (ℕ × Piece)) → StandUnderStarts pieces → All (λ e. IsRange e.1.range) pieces
    → All (λ start. start < circle) (keys_of pieces)
starts_below [] under ranged = All-nil _
starts_below (e ∷ es) under ranged =
    let here = All-head (λ (x : ℕ × Piece). x.0 ≡ x.1.range.start) e es under in
    let range = All-head (λ (x : ℕ × Piece). IsRange x.1.range) e es ranged in
    All-cons (λ start. start < circle) e.0 (keys_of es) (subst (λ n. n < circle) (sym here) range.start_below)
    (starts_below es (All-tail (λ (x : ℕ × Piece). x.0 ≡ x.1.range.start) e es under)
    (All-tail (λ (x : ℕ × Piece). IsRange x.1.range) e es ranged))

-- the hash at which a part ends
abbrev last_of : Range → ℕ
last_of part = ahead part.start (part.size - 1)

last_below : (part : Range) → IsRange part → last_of part < circle
last_below part is = let within = is.size_within in ahead-lt part.start (part.size - 1) is.start_below (omega arith)

last_steps : (part : Range) → IsRange part → 0 < part.size → distance part.start (last_of part) ≡ part.size - 1
last_steps part is some = let within = is.size_within in distance-ahead part.start (part.size - 1) is.start_below (omega arith)

holds_last : (part : Range) → IsRange part → 0 < part.size → holds part (last_of part) ≡ true
holds_last part is some = let steps = last_steps part is some in lt-ltb (distance part.start (last_of part)) part.size (omega arith)

-- a range that holds the end of a part, and doesn't begin inside it, holds all of it
spans : (part range : Range) → IsRange part → 0 < part.size → IsRange range → ¬ (IsInside part range.start)
    → holds range (last_of part) ≡ true → distance range.start part.start + part.size ≤ range.size
spans part range is some ok outside held =
    let below = last_below part is in
    let steps = last_steps part is some in
    let turn = distance-turn part.start range.start (last_of part) is.start_below ok.start_below below in
    let less = ltb-true (distance range.start (last_of part)) range.size held in
    let far = distance-lt part.start range.start is.start_below ok.start_below in
    by (distance part.start range.start) refl turn steps less far
  where
    by : (f : ℕ) → distance part.start range.start ≡ f
        → distance range.start (last_of part) ≡ distance f (distance part.start (last_of part))
        → distance part.start (last_of part) ≡ part.size - 1 → distance range.start (last_of part) < range.size → f < circle
        → distance range.start part.start + part.size ≤ range.size
    by zero at turn steps less far =
        let same = distance-zero part.start range.start is.start_below ok.start_below at in
        let none : distance range.start part.start ≡ 0 = ap (λ p. distance range.start p) same ∙ distance-itself range.start in
        let up = distance-up 0 (distance part.start (last_of part)) (omega arith) in
        omega arith
    by (suc f) at turn steps less far =
        let past : part.size ≤ suc f = on_bool (λ b. part.size ≤ suc f) (nat_lt (suc f) part.size) (λ t. let less_than = ltb-true (suc f) part.size t in absurd (outside (omega (at, arith), omega (at, less_than, arith)))) (λ t. ltb-false (suc f) part.size t) in
        let back = distance-back part.start range.start is.start_below ok.start_below (omega (at, arith)) in
        let round = distance-round (suc f) (distance part.start (last_of part)) (omega arith) in
        omega arith

either : (a b c : Bool) → c ≡ true → (a || b || c) ≡ true
either true b c is = refl
either false true c is = refl
either false false c is = is

is_within : (part range : Range) → distance range.start part.start + part.size ≤ range.size → within part range ≡ true
is_within part range spanned =
    either (part.size == 0) (range.size == circle) (nat_le (distance range.start part.start + part.size) range.size) (le-leb _ _ spanned)

-- the settled piece that holds the end of the part has the part
in_settled : (pieces : List (ℕ × Piece)) (part : Range) → IsRange part → 0 < part.size → StandUnderStarts pieces
    → All (λ e. IsRange e.1.range) pieces → All (λ place. ¬ (IsInside part place)) (keys_of pieces)
    → lies_settled (last_of part) pieces ≡ true → is_in_settled pieces part ≡ true
in_settled [] part is some under ranged uncut lies = lies
in_settled (e ∷ es) part is some under ranged uncut lies =
    on_bool (λ b. (is_settled e.1.state && holds e.1.range (last_of part)) ≡ b → (b || lies_settled (last_of part) es) ≡ true
    → ((is_settled e.1.state && within part e.1.range) || is_in_settled es part) ≡ true)
    (is_settled e.1.state && holds e.1.range (last_of part))
    (λ t at so.
    let two = both (is_settled e.1.state) (holds e.1.range (last_of part)) at in
    let start = All-head (λ (x : ℕ × Piece). x.0 ≡ x.1.range.start) e es under in
    let outside = subst (λ n. ¬ (IsInside part n)) start (All-head (λ place. ¬ (IsInside part place)) e.0 (keys_of es) uncut) in
    let has = is_within part e.1.range (spans part e.1.range is some (All-head (λ (x : ℕ × Piece). IsRange x.1.range) e es ranged) outside two.1) in
    ap (λ b. b || is_in_settled es part) (ap (λ b. b && within part e.1.range) two.0 ∙ has))
    (λ f at so.
    later (is_settled e.1.state && within part e.1.range)
    (in_settled es part is some (All-tail (λ (x : ℕ × Piece). x.0 ≡ x.1.range.start) e es under)
    (All-tail (λ (x : ℕ × Piece). IsRange x.1.range) e es ranged)
    (All-tail (λ place. ¬ (IsInside part place)) e.0 (keys_of es) uncut) so))
    refl lies
  where
    later : (a : Bool) → is_in_settled es part ≡ true → (a || is_in_settled es part) ≡ true
    later true so = refl
    later false so = so

all_to : {X : Type 0} (test : X → Bool) (xs : List X) → All (λ x. test x ≡ true) xs → list_all test xs ≡ true
all_to test [] all = refl
all_to test (x ∷ xs) all =
    ap (λ b. b && list_all test xs) (All-head (λ y. test y ≡ true) x xs all) ∙ all_to test xs (All-tail (λ y. test y ≡ true) x xs all)

-- what is counted is there
pub some_counted : (b : Bool) (count : ℕ) → count ≡ cond b 1 0 → 1 ≤ count → b ≡ true
some_counted true count is some = refl
some_counted false count is some = absurd (omega (is, some, arith))

-- a part's hashes are the range's
part_held : (range : Range) (parts : List Range) (k : ℕ) (d : Range) (hash : ℕ)
    → count_by (λ part. holds part hash) parts ≡ cond (holds range hash) 1 0 → k < length parts
    → holds (slice_index_or parts k d) hash ≡ true → holds range hash ≡ true
part_held range parts k d hash once below held =
    let least = get_or-le-sum_by (λ (part : Range). cond (holds part hash) 1 0) parts k d below in
    let one = ap (λ b. cond {A = ℕ} b 1 0) held in
    some_counted (holds range hash) (count_by (λ part. holds part hash) parts) once (omega (least, one, arith))

pub settled_both : WasSettledIsSettled
settled_both pieces under ranged range ok =
    let starts = starts_below pieces under ranged in
    let cut = is_cut range (keys_of pieces) ok starts in
    let parts = cut_parts range (keys_of pieces) in (
      settled_throughout pieces range ok ranged starts,
      λ each. all_to (is_in_settled pieces) parts (λ k d below.
          let part = slice_index_or parts k d in
          let is = ranges range (keys_of pieces) ok k d below in
          let some = cut.present k d below in
          let held = part_held range parts k d (last_of part) (cut.once (last_of part) (last_below part is)) below (holds_last part is some) in
          in_settled pieces part is some under ranged (cut.uncut k d below) (each (last_of part) (last_below part is) held)),
    )
