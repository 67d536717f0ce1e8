-- A cache: hints where grains are, the most recent first.
use Rattle.std.specs.Prelude.{ℕ, ◌&&◌, not, Bool, [], ◌∷◌, Option, take, filter}
use Rattle.std.specs.Map.{lookup, remove_entry}
use Rattle.silo_address.specs.Grain.{Grain, grain_eq}
use Rattle.silo_address.specs.Activation.{activation_eq}
use Rattle.silo_address.specs.declared.ActivationId.{ActivationId}
use Rattle.silo_address.specs.declared.Entry.{Entry}
use Rattle.membership_view.specs.View.{ViewValue}
use Rattle.directory_rules.specs.Members.{is_dead_in}
use Rattle.directory_rules.specs.State.{Cache}

-- a cache that has nothing yet
abbrev pub new_cache : ℕ → Cache
new_cache capacity = record { capacity = capacity; pairs = [] }

-- what the cache has for the grain
abbrev pub hint_of : Cache → Grain → Option ActivationId
hint_of cache grain = lookup (grain_eq grain) cache.pairs

-- the pair stands in front, in place of one of its grain; the last one goes where there are too many
abbrev pub in_front : Cache → Grain → ActivationId → Cache
in_front cache grain activation =
    record cache { pairs = take cache.capacity ((grain, activation) ∷ remove_entry (grain_eq grain) cache.pairs) }

-- an entry is learnt; a hint that is used comes to the front in the same way
abbrev pub learnt : Cache → Entry → Cache
learnt cache entry = in_front cache entry.grain entry.activation

-- whether the pair is just that grain and activation
abbrev pub is_pair : Grain → ActivationId → (Grain × ActivationId) → Bool
is_pair grain activation pair = grain_eq grain pair.0 && activation_eq activation pair.1

-- without just that pair
abbrev pub without_pair : Cache → Grain → ActivationId → Cache
without_pair cache grain activation = record cache { pairs = filter (λ p. not (is_pair grain activation p)) cache.pairs }

-- without hints at silos that are Dead in the view
abbrev pub cache_seeing : ViewValue → Cache → Cache
cache_seeing view cache = record cache { pairs = filter (λ p. not (is_dead_in view p.1.silo)) cache.pairs }
