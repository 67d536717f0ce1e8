-- Cases on a test, with the equation.
use Rattle.std.specs.Prelude.{◌≡◌, refl, Bool, true, false}

pub on_bool : (P : Bool → Type 0) (b : Bool) → (b ≡ true → P true) → (b ≡ false → P false) → P b
on_bool P true yes_case no_case = yes_case refl
on_bool P false yes_case no_case = no_case refl
