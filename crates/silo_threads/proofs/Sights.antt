-- The sights that silos lack.
use Rattle.std.proofs.Common.{◌≡◌, ℕ, suc, ◌+◌, ◌-◌, ◌<◌, ◌≤◌, max, List, [], ◌∷◌, ◌++◌, map, ap, ◌∙◌, arith, append_assoc}
use Rattle.std.specs.List.{range_with_len}
use Rattle.std.specs.Option.{unwrap_or}
use Rattle.std.proofs.lemmas.List.{map-append}
use Rattle.silo_address.specs.Silo.{Silo}
use Rattle.membership_view.specs.Views.{joining_version}
use Rattle.directory_rules.specs.Event as rule
use Rattle.directory_rules.specs.Event.{See}
use Rattle.directory_rules.specs.EventModel.{event_of}
use Rattle.directory_rules.specs.declared.Event.{Event}
use Rattle.directory_rules.specs.State.{Node, World}
use Rattle.script_rules.specs.Output.{unseen_versions}

-- those of a silo that are left
pub sights_left : (silo : Silo) (seen current : ℕ) → seen < current
    → map (See silo) (range_with_len (seen + 1) (current - seen)) ≡ See silo (seen + 1) ∷ map (See silo)
    (range_with_len (seen + 1 + 1) (current - (seen + 1)))
sights_left silo seen current less = ap (λ n. map (See silo) (range_with_len (seen + 1) n)) (one_more seen current less)
  where
    one_more : (a b : ℕ) → a < b → b - a ≡ suc (b - (a + 1))
    one_more a b less = omega (less, arith)

pub no_sight_left : (silo : Silo) (seen current : ℕ) → current ≤ seen → map (See silo) (range_with_len (seen + 1) (current - seen)) ≡ []
no_sight_left silo seen current all = ap (λ n. map (See silo) (range_with_len (seen + 1) n)) (none seen current all)
  where
    none : (a b : ℕ) → b ≤ a → b - a ≡ 0
    none a b all = omega (all, arith)

-- the versions above both are those from the higher on
above_both : (seen joined current after : ℕ) → after ≡ max seen (joined - 1)
    → range_with_len (after + 1) (current - after) ≡ range_with_len (max (seen + 1) joined) ((current + 1) - max (seen + 1) joined)
above_both seen joined current after is =
    ap (λ n. range_with_len n (current - after)) (first seen joined after is)
    ∙ ap (λ n. range_with_len (max (seen + 1) joined) n) (many seen joined current after is)
  where
    first : (seen joined after : ℕ) → after ≡ max seen (joined - 1) → after + 1 ≡ max (seen + 1) joined
    first seen joined after is = omega (is, arith)

    many : (seen joined current after : ℕ) → after ≡ max seen (joined - 1) → current - after ≡ (current + 1) - max (seen + 1) joined
    many seen joined current after is = omega (is, arith)

-- so are those that the silo hasn't seen
pub unseen_are : (world : World) (silo : Silo) (node : Node) (after : ℕ)
    → after ≡ max node.view.version (unwrap_or (joining_version world.views silo) 0 - 1)
    → range_with_len (after + 1) (world.views.version - after) ≡ unseen_versions world silo node
unseen_are world silo node after is =
    above_both node.view.version (unwrap_or (joining_version world.views silo) 0) world.views.version after is

-- one more is listed
pub one_more_listed : (events more : List Event) (event : Event) (rest : List rule.Event) → more ≡ events ++ event ∷ []
    → map event_of more ++ rest ≡ map event_of events ++ (event_of event ∷ rest)
one_more_listed events more event rest is =
    ap (λ (all : List Event). map event_of all ++ rest) is
    ∙ (ap (λ (all : List rule.Event). all ++ rest) (map-append event_of events (event ∷ []))
    ∙ append_assoc (map event_of events) (event_of event ∷ []) rest)
