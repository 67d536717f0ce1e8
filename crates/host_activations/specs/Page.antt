-- A page of what is firm: the first of a silo's firm activations that stand behind a grain in a range.
use Rattle.std.specs.Prelude.{◌≡◌, ◌∷◌, [], ℕ, List, filter, length, map, nat_le, take}
use Rattle.silo_address.specs.Silo.{Silo}
use Rattle.silo_address.specs.Grain.{Grain}
use Rattle.silo_address.specs.declared.Entry.{Entry}
use Rattle.hash_ring.specs.Hash.{hash_grain}
use Rattle.directory_rules.specs.declared.Held.{Held}
use Rattle.directory_rules.specs.Host.{entry_on}
use Rattle.directory_rules.specs.Standing.{as_they_stand, stands_behind}
use Rattle.host_activations.specs.declared.activations.page.PageAsked.{PageAsked}
use Rattle.host_activations.specs.declared.activations.page.FirmPage.{FirmPage}
use Rattle.host_activations.specs.Firm.{is_told}

-- all that are told of the range and stand behind the grain, as entries in their order
abbrev pub told_behind : Silo → PageAsked → List (Grain × Held) → List Entry
told_behind silo asked es =
    filter (λ e. stands_behind (hash_grain asked.hashing) (asked.range ∷ []) asked.after e.grain)
    (as_they_stand (hash_grain asked.hashing) (asked.range ∷ [])
    (map (λ e. entry_on silo e.0 e.1) (filter (is_told asked.hashing asked.range) es)))

-- so many of these at most, and whether they are all
pub record IsPage (told : List Entry) (most : ℕ) (page : FirmPage) : Type 0 where
  pub entries : page.entries.items ≡ take most told
  pub last : page.last ≡ nat_le (length told) most
