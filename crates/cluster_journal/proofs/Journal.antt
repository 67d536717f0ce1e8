-- A journal, one event further.
use Rattle.std.proofs.Common.{◌≡◌, ℕ, List, [], ◌∷◌, ◌++◌, Result, Ok, refl, sym, ◌∙◌, ap}
use Rattle.std.proofs.lemmas.List.{map-append}
use Rattle.directory_rules.specs.Event.{Event}
use Rattle.directory_rules.specs.declared.outcome.Outcome.{Outcome}
use Rattle.directory_rules.specs.Settings.{Settings}
use Rattle.directory_rules.specs.State.{World}
use Rattle.directory_rules.specs.World.{first_world}
use Rattle.directory_rules.specs.Happens.{happens}
use Rattle.directory_rules.specs.Run.{Ran, run, told_of as told_by, world_after, telling}
use Rattle.cluster_journal.specs.Entry.{EntryValue}
use Rattle.cluster_journal.specs.Journal.{IsJournaled, events_of, told_of}

-- before the first event
pub begins : (settings : Settings) → IsJournaled settings [] (first_world settings)
unfolding run
begins settings = refl

-- a run with one event more
abbrev with_one : Ran → Event → Ran
with_one ran event =
    record { told = ran.told ++ told_by (happens ran.world event) ∷ []; world = world_after (happens ran.world event) ran.world }

run-append : (world : World) (events : List Event) (event : Event) → run world (events ++ event ∷ []) ≡ with_one (run world events) event
unfolding run
run-append world [] event = refl
run-append world (first ∷ events) event =
    ap (λ (ran : Ran). telling (told_by (happens world first)) ran) (run-append (world_after (happens world first) world) events event)

-- with the entry of an event that the world accepts
pub goes_on : (settings : Settings) (journal : List EntryValue) (world after : World) (entry : EntryValue)
    → IsJournaled settings journal world
    → happens world entry.event ≡ Ok (record { outcome = entry.outcome; world = after })
    → IsJournaled settings (journal ++ entry ∷ []) after
goes_on settings journal world after entry so_far happened =
    ap (λ (es : List Event). run (first_world settings) es) (map-append (λ (e : EntryValue). e.event) journal (entry ∷ []))
    ∙ run-append (first_world settings) (events_of journal) entry.event
    ∙ ap (λ (ran : Ran). with_one ran entry.event) so_far
    ∙ ap (λ h. record { told = told_of journal ++ told_by h ∷ []; world = world_after h world }) happened
    ∙ ap (λ (told : List (Result Outcome ℕ)). record { told = told; world = after })
    (sym (map-append (λ (e : EntryValue). Ok e.outcome) journal (entry ∷ [])))
