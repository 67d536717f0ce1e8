-- What a sight leaves of hints.
use Rattle.std.specs.Prelude.{◌-◌, List, [], ◌∷◌, ◌++◌, length, take, not, filter}
use Rattle.std.specs.Option.{option_map_or}
use Rattle.silo_address.specs.Grain.{Grain}
use Rattle.silo_address.specs.declared.ActivationId.{ActivationId}
use Rattle.lru.specs.LruCache.{last_entry}
use Rattle.membership_view.specs.View.{ViewValue}
use Rattle.directory_rules.specs.Members.{is_dead_in}

-- those at silos that aren't Dead in the view
abbrev pub living_hints : ViewValue → List (Grain × ActivationId) → List (Grain × ActivationId)
living_hints view pairs = filter (λ p. not (is_dead_in view p.1.silo)) pairs

-- the last hint in front, or gone if its silo is Dead in the view
abbrev pub turned : ViewValue → List (Grain × ActivationId) → List (Grain × ActivationId)
turned view pairs = option_map_or (λ p. living_hints view (p ∷ []) ++ take (length pairs - 1) pairs) (last_entry pairs) []
