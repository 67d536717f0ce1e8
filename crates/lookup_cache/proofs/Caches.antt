-- The bounded map's calls on hints, as the rule's cache sees them.
use Rattle.std.proofs.Common.{◌≡◌, ℕ, true, List, ◌∷◌, take, Option, Some, None, refl, ◌∙◌, ap}
use Rattle.std.specs.Option.{option_map_or}
use Rattle.std.specs.Map.{lookup, remove_entry}
use Rattle.silo_address.specs.Activation.{activation_eq}
use Rattle.silo_address.specs.Grain.{Grain, grain_eq}
use Rattle.silo_address.specs.declared.ActivationId.{ActivationId}
use Rattle.silo_address.specs.contracts.grain.GrainIdEq.TheImpl.Laws.{laws-law}
use Rattle.silo_address.proofs.Same.{Decides-grain, Decides-activation}
use Rattle.directory_rules.specs.State.{Cache}
use Rattle.directory_rules.specs.Cache.{hint_of, in_front, without_pair}
use Rattle.lru.specs.LruCache.{LruCache, IsValid, promoted, put_entries}
use Rattle.lookup_cache.specs.Used.{used}
use Rattle.lookup_cache.proofs.Rounds.{Hint}
use Rattle.lookup_cache.proofs.Pairs.{put_is, used_is, forgot_it, forgot_none}

-- the rule's cache of some pairs
abbrev pub cached : ℕ → List Hint → Cache
cached capacity pairs = record { capacity = capacity; pairs = pairs }

abbrev pub seen : LruCache Grain ActivationId → Cache
seen hints = cached hints.cap hints.entries

exact : (a b : Grain) → grain_eq a b ≡ true → a ≡ b
exact a b = (Decides-grain a b).0

pub seen_put : (hints : LruCache Grain ActivationId) (grain : Grain) (activation : ActivationId) → IsValid grain_eq hints
    → cached hints.cap (put_entries grain_eq hints grain activation) ≡ in_front (seen hints) grain activation
seen_put hints grain activation valid = ap (λ l. cached hints.cap l) (put_is grain_eq exact hints grain activation valid)

apart : (n : ℕ) (es : List Hint) (f : ActivationId → List Hint) (o : Option ActivationId)
    → cached n (option_map_or f o es) ≡ option_map_or (λ a. cached n (f a)) o (cached n es)
apart n es f None = refl
apart n es f (Some a) = refl

pub seen_used : (hints : LruCache Grain ActivationId) (grain : Grain) → IsValid grain_eq hints
    → cached hints.cap (promoted (grain_eq grain) hints.entries) ≡ used (seen hints) grain
seen_used hints grain valid =
    ap (λ l. cached hints.cap l) (used_is grain_eq exact grain hints.entries hints.cap valid.1)
    ∙ apart hints.cap hints.entries (λ a. take hints.cap ((grain, a) ∷ remove_entry (grain_eq grain) hints.entries))
    (lookup (grain_eq grain) hints.entries)

module _ (hints : LruCache Grain ActivationId) (grain : Grain) (activation : ActivationId) (valid : IsValid grain_eq hints) where
  itself : (a : ActivationId) → activation_eq a a ≡ true
  itself a = (Decides-activation a a).1 refl

  one : (a b : ActivationId) → activation_eq a b ≡ true → a ≡ b
  one a b = (Decides-activation a b).0

  pub seen_forgot : hint_of (seen hints) grain ≡ Some activation
      → cached hints.cap (remove_entry (grain_eq grain) hints.entries) ≡ without_pair (seen hints) grain activation
  seen_forgot named =
      ap (λ l. cached hints.cap l) (forgot_it grain_eq exact laws-law activation_eq one itself grain activation hints.entries valid.0 named)

  pub seen_kept : (hint_of (seen hints) grain ≡ Some activation → ⊥) → seen hints ≡ without_pair (seen hints) grain activation
  seen_kept other =
      ap (λ l. cached hints.cap l) (forgot_none grain_eq exact laws-law activation_eq one itself grain activation hints.entries valid.0
      other)
