-- What a test tells, for a test that decides a fact.
use Rattle.std.proofs.Common.{◌≡◌, ◌⊎◌, ◌&&◌, inl, inr, refl, Bool, true, false}
use Rattle.std.specs.Bool.{Decides}

-- a test of what doesn't hold answers no
pub false_from_not : {P : Type 0} (b : Bool) → Decides b P → ¬ P → b ≡ false
false_from_not true decides not_so = absurd (not_so (decides.0 refl))
false_from_not false decides not_so = refl

-- what a test decides holds or doesn't
pub decided : {P : Type 0} (b : Bool) → Decides b P → P ⊎ ¬ P
decided true decides = inl (decides.0 refl)
decided false decides = inr (λ p. let no : false ≡ true = decides.1 p in cc)

-- two tests that both answer yes
pub both : (a b : Bool) → (a && b) ≡ true → (a ≡ true) × (b ≡ true)
both true b tested = (refl, tested)
both false b tested = absurd (let no : false ≡ true = tested in cc)
