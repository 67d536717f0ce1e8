-- The change of a function at one place, or on a set. Every action changes the functions of a world by these.
use Rattle.std.specs.Prelude.{Bool, cond, ◌&&◌}
use Rattle.silo_address.specs.Silo.{Silo, silo_eq}
use Rattle.silo_address.specs.Grain.{Grain, grain_eq}

-- f, but x at the silo s
unfoldable pub put : {X : Type 0} → Silo → X → (Silo → X) → Silo → X
put s x f q = cond (silo_eq q s) x (f q)

-- f, but x at the grain g
unfoldable pub put_grain : {X : Type 0} → Grain → X → (Grain → X) → Grain → X
put_grain g x f r = cond (grain_eq r g) x (f r)

-- f, but x at the silo s and the grain g
unfoldable pub put_at : {X : Type 0} → Silo → Grain → X → (Silo → Grain → X) → Silo → Grain → X
put_at s g x f q r = cond (silo_eq q s && grain_eq r g) x (f q r)

-- f, but g's values where the test passes
abbrev pub where_true : {K X : Type 0} → (K → Bool) → (K → X) → (K → X) → K → X
where_true test g f k = cond (test k) (g k) (f k)
