-- `==` decides equality of ranges: for the crates above.
use Rattle.std.proofs.Common.{◌≡◌, ℕ, ap}
use Rattle.std.specs.Bool.{Decides}
use Rattle.std.proofs.lemmas.Bool.Decides.{Decides-like, Decides-and, Decides-eqb}
use Rattle.ring_range.specs.Range.{Range, range_eq}

abbrev range_of : ℕ → ℕ → Range
range_of start size = record { start = start; size = size }

same_range : (a b : Range) → a.start ≡ b.start → a.size ≡ b.size → a ≡ b
same_range a b start size = λ i. range_of (start i) (size i)

pub Decides-range : (a b : Range) → Decides (range_eq a b) (a ≡ b)
Decides-range a b =
    Decides-like _ (λ e. same_range a b e.0 e.1) (λ e. (ap (λ (r : Range). r.start) e, ap (λ (r : Range). r.size) e))
    (Decides-and _ _ (Decides-eqb a.start b.start) (Decides-eqb a.size b.size))
