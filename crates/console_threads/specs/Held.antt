-- What lines print, held back.
use Rattle.std.specs.Prelude.{◌≡◌, ℕ, Bool, true, false, Option, Some, None}
use Rattle.line_loop.specs.declared.ended.Ended.{Ended}
use Rattle.line_loop.specs.declared.ended.Ended.TheVariants as ended

-- a write takes all that it is given; or it fails, and something is lost from then on
abbrev pub Holds : (was_lost : Bool) → (count : ℕ) → (took : Option ℕ) → (is_lost : Bool) → Type 0
Holds was_lost count None is_lost = is_lost ≡ true
Holds was_lost count (Some took) is_lost = (took ≡ count) × (is_lost ≡ was_lost)

-- whether all reads were well, by how a play ends of which nothing printed was lost
abbrev pub is_read_well : {S : Type 0} → Ended S → Bool
is_read_well ended.Broken = false
is_read_well other = true
