-- A range whose hashes all lie in settled pieces: cut where pieces begin, each part of it lies in one.
use Rattle.std.proofs.Common.{arith, ◌≡◌, refl, sym, ap, ◌∙◌, subst, ℕ, zero, suc, List, length, [], ◌∷◌, ◌+◌, ◌-◌, ◌<◌, ◌≤◌, ◌⊎◌, inl, inr}
use Rattle.std.specs.Prelude.{Bool, true, false, cond, if◌then◌else◌, ◌&&◌, All, count_by, Contains, is_some}
use Rattle.std.specs.Bool.{Decides}
use Rattle.std.specs.List.{list_all, slice_index_or}
use Rattle.std.specs.Ordering.{nat_cmp}
use Rattle.std.specs.Map.{lookup, keys_of}
use Rattle.std.specs.BTreeMap.{is_at}
use Rattle.std.proofs.lemmas.Bool.{cases_lt, and_from}
use Rattle.std.proofs.lemmas.Option.{same_Some}
use Rattle.std.proofs.lemmas.List.Elements.{All-map, All-contains}
use Rattle.std.proofs.lemmas.List.Sums.{sum_by-cons}
use Rattle.std.proofs.lemmas.Map.Lookups.{exact_unsigned}
use Rattle.std.proofs.lemmas.Map.Views.{Contains-keys_from_lookup, tells_apart}
use Rattle.texts.proofs.Decided.{both}
use Rattle.ring_range.specs.Range.{circle, Range, IsRange, distance, ahead, holds, within}
use Rattle.ring_range.specs.Cut.{IsInside, IsCut, cut_parts}
use Rattle.ring_range.proofs.Circle.{distance-ahead, distance-itself, distance-zero, ahead-lt}
use Rattle.ring_range.proofs.Cuts.{is_cut, ranges}
use Rattle.directory_rules.specs.State.{Piece}
use Rattle.directory_rules.specs.Sight.{is_settled, is_in_settled, was_settled}
use Rattle.directory_rules.proofs.Cases.{on_bool}
use Rattle.directory_rules.proofs.Throughout.{settled_throughout}
use Rattle.grain_partition.specs.Holdings.{ArePieces}
use Rattle.grain_partition.specs.Settled.{LiesSettled}
use Rattle.grain_partition.proofs.Around.{distance-over, holds-below, below-holds, step-back, within-before, within-full}
use Rattle.grain_partition.proofs.OnePiece.{at_lookup, only_one}
use Rattle.grain_partition.proofs.SettledHashes.{Passes, any_lookup, passes_of_any, settles}

zero_from : (n : ℕ) → (0 < n → ⊥) → n ≡ 0
zero_from n none = by (cases_lt 0 n)
  where
    by : (0 < n) ⊎ (n ≤ 0) → n ≡ 0
    by (inl more) = absurd (none more)
    by (inr le) = omega arith

-- the starts of pieces are hashes
pub starts_below : (pieces : List (ℕ × Piece)) → ArePieces pieces → All (λ start. start < circle) (keys_of pieces)
starts_below pieces are =
    All-map (λ start. start < circle) (λ (e : ℕ × Piece). e.0) pieces
    (λ k d lt. subst (λ n. n < circle) (are.under_start k d lt) (are.ranges k d lt).start_below)

module _ (pieces : List (ℕ × Piece)) (are : ArePieces pieces) (part : Range) (ok : IsRange part) (some : 0 < part.size)
    (uncut : All (λ key. ¬ (IsInside part key)) (keys_of pieces)) (lies : LiesSettled pieces part) where
  -- the piece of the part's first hash
  first_has : holds part part.start ≡ true
  first_has = holds-below part part.start (subst (λ n. n < part.size) (sym (distance-itself part.start)) some)

  first : Passes (settles part.start) pieces
  first = passes_of_any (settles part.start) pieces are.in_order (lies part.start ok.start_below first_has)

  abbrev here : Piece
  here = first.value

  abbrev before : ℕ
  before = distance here.range.start part.start

  here_range : IsRange here.range
  here_range = at_lookup (λ e. IsRange e.1.range) pieces are.ranges first.key here first.there

  here_begins : before < here.range.size
  here_begins = below-holds here.range part.start (both (is_settled here.state) (holds here.range part.start) first.passes).1

  -- a hash that the part's piece lacks, and has the one before of, is where another piece begins
  module _ (steps : ℕ) (more : 0 < steps) (within_part : steps < part.size) (ends : before + steps ≡ here.range.size)
      (less : here.range.size < circle) where
    abbrev hash : ℕ
    hash = ahead part.start steps

    abbrev last : ℕ
    last = ahead part.start (steps - 1)

    hash_below : hash < circle
    hash_below = ahead-lt part.start steps ok.start_below (omega (arith, ok.size_within))

    last_below : last < circle
    last_below = ahead-lt part.start (steps - 1) ok.start_below (omega (arith, ok.size_within))

    steps_to : distance part.start hash ≡ steps
    steps_to = distance-ahead part.start steps ok.start_below (omega (arith, ok.size_within))

    steps_to_last : distance part.start last ≡ steps - 1
    steps_to_last = distance-ahead part.start (steps - 1) ok.start_below (omega (arith, ok.size_within))

    next : Passes (settles hash) pieces
    next = passes_of_any (settles hash) pieces are.in_order (lies hash hash_below (holds-below part hash (omega (arith, steps_to))))

    next_has : holds next.value.range hash ≡ true
    next_has = (both (is_settled next.value.state) (holds next.value.range hash) next.passes).1

    here_lacks : holds here.range hash ≡ true → ⊥
    here_lacks held =
        let over = distance-over here.range.start part.start hash here_range.start_below ok.start_below hash_below (omega (arith, steps_to)) in
        omega (arith, below-holds here.range hash held, over, steps_to)

    here_has_last : holds here.range last ≡ true
    here_has_last =
        let over = distance-over here.range.start part.start last here_range.start_below ok.start_below last_below (omega (arith, steps_to_last)) in
        holds-below here.range last (omega (arith, over, steps_to_last))

    -- so it is another piece
    apart : first.key ≡ next.key → ⊥
    apart same =
        let one : here ≡ next.value = same_Some here next.value (sym first.there ∙ ap (λ k. lookup (is_at (nat_cmp k)) pieces) same ∙ next.there) in
        here_lacks (ap (λ (p : Piece). holds p.range hash) one ∙ next_has)

    next_range : IsRange next.value.range
    next_range = at_lookup (λ e. IsRange e.1.range) pieces are.ranges next.key next.value next.there

    -- which lacks the hash before, and so begins at this one
    begins : (0 < distance next.value.range.start hash) → ⊥
    begins away =
        let back = step-back next.value.range.start hash steps part.start ok.start_below next_range.start_below refl more (omega (arith, ok.size_within)) away in
        let has_last = holds-below next.value.range last (omega (arith, back, below-holds next.value.range hash next_has)) in
        apart (only_one (λ p. holds p.range last) pieces (are.once last last_below) first.key next.key here next.value first.there
        next.there here_has_last has_last)

    begins_within : ⊥
    begins_within =
        let none : distance next.value.range.start hash ≡ 0 = zero_from (distance next.value.range.start hash) begins in
        let start : next.value.range.start ≡ hash = distance-zero next.value.range.start hash next_range.start_below hash_below none in
        let under : next.value.range.start ≡ next.key = at_lookup (λ e. e.1.range.start ≡ e.0) pieces are.under_start next.key next.value next.there in
        let key : Contains (keys_of pieces) next.key = Contains-keys_from_lookup (tells_apart exact_unsigned) next.key pieces (ap is_some next.there) in
        let inside : IsInside part next.key =
        subst (λ key. IsInside part key) (sym start ∙ under) (omega (arith, steps_to), omega (arith, steps_to)) in
        All-contains (λ key. ¬ (IsInside part key)) (keys_of pieces) next.key uncut key inside

  -- so it has all of the part
  ends_too_early : here.range.size < circle → here.range.size < before + part.size → ⊥
  ends_too_early less early =
      begins_within (here.range.size - before) (omega (arith, here_begins)) (omega (arith, here_begins)) (omega (arith, here_begins)) less

  pub part_in_settled : is_in_settled pieces part ≡ true
  part_in_settled =
      any_lookup (λ p. is_settled p.state && within part p.range) pieces first.key here first.there
      (and_from (is_settled here.state) (within part here.range) (both (is_settled here.state) (holds here.range part.start) first.passes).0
      (inside (cases_lt here.range.size circle)))
    where
      inside : (here.range.size < circle) ⊎ (circle ≤ here.range.size) → within part here.range ≡ true
      inside (inr full) = within-full part here.range (omega (arith, here_range.size_within))
      inside (inl less) = ends (cases_lt here.range.size (before + part.size))
        where
          ends : (here.range.size < before + part.size) ⊎ (before + part.size ≤ here.range.size) → within part here.range ≡ true
          ends (inl early) = absurd (ends_too_early less early)
          ends (inr le) = within-before part here.range le

all_in_settled : (pieces : List (ℕ × Piece)) (parts : List Range)
    → ((part : Range) → Contains parts part → is_in_settled pieces part ≡ true) → list_all (is_in_settled pieces) parts ≡ true
all_in_settled pieces [] each = refl
all_in_settled pieces (part ∷ parts) each =
    and_from (is_in_settled pieces part) (list_all (is_in_settled pieces) parts) (each part (Contains-head part parts))
    (all_in_settled pieces parts (λ other there. each other (Contains-tail part parts other there)))
  where
    Contains-head : (x : Range) (xs : List Range) → Contains (x ∷ xs) x
    Contains-head x xs = (0, omega arith, refl)

    Contains-tail : (x : Range) (xs : List Range) (y : Range) → Contains xs y → Contains (x ∷ xs) y
    Contains-tail x xs y there = (suc there.0, let lt = there.1 in omega arith, there.2)

-- what is in a list and passes is counted
counts : {X : Type 0} (p : X → Bool) (xs : List X) (x : X) → Contains xs x → p x ≡ true → 0 < count_by p xs
counts {X} p xs x there passes = at xs there.0 there.1 there.2
  where
    at : (xs : List X) (k : ℕ) → k < length xs → slice_index_or xs k x ≡ x → 0 < count_by p xs
    at [] k lt is = absurd (omega arith)
    at (y ∷ xs) zero lt is =
        let one : cond {A = ℕ} (p y) 1 0 ≡ 1 = ap (λ b. cond b 1 0) (ap p is ∙ passes) in
        omega (arith, one, sum_by-cons (λ x. cond (p x) 1 0) y xs)
    at (y ∷ xs) (suc k) lt is =
        let more : 0 < count_by p xs = at xs k (omega arith) is in
        omega (arith, more, sum_by-cons (λ x. cond (p x) 1 0) y xs)

-- a part's hashes are the range's
part_lies : (range part : Range) (parts : List Range) (hash : ℕ) → Contains parts part
    → count_by (λ p. holds p hash) parts ≡ (if holds range hash then 1 else 0)
    → holds part hash ≡ true → holds range hash ≡ true
part_lies range part parts hash there count held =
    on_bool (λ b. holds range hash ≡ b → b ≡ true) (holds range hash) (λ t is. refl) (λ f is. absurd (none is)) refl
  where
    none : holds range hash ≡ false → ⊥
    none is =
        let more = counts (λ p. holds p hash) parts part there held in
        let zero : count_by (λ p. holds p hash) parts ≡ 0 = count ∙ ap (λ b. if b then 1 else 0) is in omega arith

-- whether a range was settled is whether each of its hashes lies in a settled piece
pub Decides-was_settled : (pieces : List (ℕ × Piece)) → ArePieces pieces → (range : Range) → IsRange range
    → Decides (was_settled pieces range) (LiesSettled pieces range)
Decides-was_settled pieces are range ok = (
  settled_throughout pieces range ok are.ranges (starts_below pieces are),
  λ lies. all_in_settled pieces (cut_parts range (keys_of pieces)) (λ part there.
      part_in_settled pieces are part
      (All-contains IsRange (cut_parts range (keys_of pieces)) part (ranges range (keys_of pieces) ok) there)
      (All-contains (λ part. 0 < part.size) (cut_parts range (keys_of pieces)) part cut.present there)
      (All-contains (λ part. All (λ key. ¬ (IsInside part key)) (keys_of pieces)) (cut_parts range (keys_of pieces)) part cut.uncut there)
      (λ hash below held. lies hash below (part_lies range part (cut_parts range (keys_of pieces)) hash there (cut.once hash below) held))),
)
  where
    cut : IsCut range (keys_of pieces) (cut_parts range (keys_of pieces))
    cut = is_cut range (keys_of pieces) ok (starts_below pieces are)
