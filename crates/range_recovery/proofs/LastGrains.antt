-- The last grain of entries, by the last entry.
use Rattle.std.proofs.Common.{◌≡◌, ℕ, zero, suc, ◌-◌, List, [], ◌∷◌, length, slice_get, Option, Some, None, option_map, ap, arith}
use Rattle.silo_address.specs.Grain.{Grain}
use Rattle.silo_address.specs.declared.Entry.{Entry}
use Rattle.directory_rules.specs.Standing.{last_grain}

last_at : (after : Option Grain) (es : List Entry) (n : ℕ) (e : Entry) → length es ≡ suc n → slice_get es n ≡ Some e
    → last_grain after es ≡ Some e.grain
last_at after [] n e h is = absurd (omega (arith, h))
last_at after (x ∷ []) zero e h is = ap (λ o. option_map (λ (y : Entry). y.grain) o) is
last_at after (x ∷ []) (suc n) e h is = absurd (omega (arith, h))
last_at after (x ∷ y ∷ es) zero e h is = absurd (omega (arith, h))
last_at after (x ∷ y ∷ es) (suc n) e h is = last_at (Some x.grain) (y ∷ es) n e (omega (arith, h)) is

pub last_is : (after : Option Grain) (es : List Entry) (e : Entry) → slice_get es (length es - 1) ≡ Some e
    → last_grain after es ≡ Some e.grain
last_is after [] e is = let no : None ≡ Some e = is in cc
last_is after (x ∷ es) e is = last_at after (x ∷ es) (length (x ∷ es) - 1) e (omega arith) is
