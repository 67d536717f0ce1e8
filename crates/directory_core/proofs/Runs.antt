-- A run, one event further.
use Rattle.std.proofs.Common.{◌≡◌, ◌⊎◌, inl, inr, Ok, Err, OnErr, ℕ, ◌+◌, ◌<◌, List, [], ◌∷◌, ◌++◌, length, get_or, take, map, Option, Result, refl, sym, ◌∙◌, ap, subst}
use Rattle.std.specs.Prelude.{IfOk}
use Rattle.std.proofs.lemmas.List.{take_more, map-append}
use Rattle.directory_rules.specs.declared.Event.{Event}
use Rattle.directory_rules.specs.EventModel.{event_of}
use Rattle.directory_rules.specs.Event as rule
use Rattle.directory_rules.specs.Event.{IsEvent}
use Rattle.directory_rules.specs.Headline.{MovesPlainly}
use Rattle.directory_rules.specs.PlainMachine.{IsPlainStep, plain_of, plain_step_of}
use Rattle.directory_rules.specs.State.{Accepted, World}
use Rattle.directory_rules.specs.World.{accepted_as}
use Rattle.directory_rules.specs.Happens.{happens}
use Rattle.directory_rules.specs.Run.{run, told_of, world_after}
use Rattle.directory_rules.specs.declared.Outcome.{Outcome}
use Rattle.directory_node.specs.Follows.{Follows}
use Rattle.directory_core.specs.Applied.{IsPlainlyTold}
use Rattle.directory_core.specs.PlainSteps.{AllMovePlainly, MovesBy}

run_more_world : (world : World) (events : List rule.Event) (event : rule.Event)
    → (run world (events ++ event ∷ [])).world ≡ world_after (happens (run world events).world event) (run world events).world
unfolding run
run_more_world world [] event = refl
run_more_world world (e ∷ events) event = run_more_world (world_after (happens world e) world) events event

run_more_told : (world : World) (events : List rule.Event) (event : rule.Event)
    → (run world (events ++ event ∷ [])).told ≡ (run world events).told ++ told_of (happens (run world events).world event) ∷ []
unfolding run
run_more_told world [] event = refl
run_more_told world (e ∷ events) event =
    ap (λ (l : List (Result Outcome ℕ)). told_of (happens world e) ∷ l) (run_more_told (world_after (happens world e) world) events event)

-- the events so far, and the next one
one_more : (events : List Event) (i : ℕ) (event : Event) → i < length events → event ≡ get_or events i event
    → map event_of (take (i + 1) events) ≡ map event_of (take i events) ++ event_of event ∷ []
one_more events i event below is =
    ap (λ (l : List Event). map event_of l) (take_more events i event below ∙ ap (λ (e : Event). take i events ++ e ∷ []) (sym is))
    ∙ map-append event_of (take i events) (event ∷ [])

pub further_world : (world now next : World) (events : List Event) (i : ℕ) (event : Event) → i < length events
    → event ≡ get_or events i event
    → now ≡ (run world (map event_of (take i events))).world → next ≡ world_after (happens now (event_of event)) now
    → next ≡ (run world (map event_of (take (i + 1) events))).world
further_world world now next events i event below is so_far after =
    after
    ∙ ap (λ (w : World). world_after (happens w (event_of event)) w) so_far
    ∙ sym (run_more_world world (map event_of (take i events)) (event_of event))
    ∙ ap (λ (l : List rule.Event). (run world l).world) (sym (one_more events i event below is))

pub further_told : (world now : World) (events : List Event) (i : ℕ) (event : Event) (told : List (Result Outcome ℕ))
    (this : Result Outcome ℕ) → i < length events → event ≡ get_or events i event
    → now ≡ (run world (map event_of (take i events))).world → told ≡ (run world (map event_of (take i events))).told
    → this ≡ told_of (happens now (event_of event))
    → told ++ this ∷ [] ≡ (run world (map event_of (take (i + 1) events))).told
further_told world now events i event told this below is so_far told_so_far this_is =
    ap (λ (l : List (Result Outcome ℕ)). l ++ this ∷ []) told_so_far
    ∙ ap (λ (r : Result Outcome ℕ). (run world (map event_of (take i events))).told ++ r ∷ [])
    (this_is ∙ ap (λ (w : World). told_of (happens w (event_of event))) so_far)
    ∙ sym (run_more_told world (map event_of (take i events)) (event_of event))
    ∙ ap (λ (l : List rule.Event). (run world l).told) (sym (one_more events i event below is))

-- before the first event
pub none_world : (world : World) → world ≡ (run world []).world
unfolding run
none_world world = refl

pub none_told : (world : World) → [] ≡ (run world []).told
unfolding run
none_told world = refl

-- ---- seen from outside
pub moves_by : (world : World) (event : rule.Event) → MovesPlainly world → IsEvent event → MovesBy world event
moves_by world event plain is = by (happens world event) refl
  where
    by : (happened : Result Accepted ℕ) → happens world event ≡ happened
        → IfOk happened (λ accepted. IsPlainStep (plain_of world) (plain_step_of accepted.outcome.happening) (plain_of accepted.world))
    by (Ok accepted) h = plain event accepted is h
    by (Err number) h = tt

-- what the code tells of it is what it is
pub told_plainly : {E : Type 0} (number_of : E → Option ℕ) (excused : Result Accepted ℕ → Type 0) (world after : World) (event : rule.Event)
    (result : Result Outcome E) → MovesBy world event
    → Follows (accepted_as after) number_of excused (happens world event) result
    → IfOk result (λ outcome. IsPlainlyTold world outcome after)
told_plainly number_of excused world after event (Ok outcome) moves follows =
    subst (λ h. IfOk h (λ accepted. IsPlainStep (plain_of world) (plain_step_of accepted.outcome.happening) (plain_of accepted.world)))
    follows moves
told_plainly number_of excused world after event (Err refusal) moves follows = tt

more_plainly : (world : World) (events : List rule.Event) (event : rule.Event) → AllMovePlainly world events
    → MovesBy (run world events).world event → AllMovePlainly world (events ++ event ∷ [])
unfolding run
more_plainly world [] event all next = (next, tt)
more_plainly world (e ∷ events) event all next = (all.0, more_plainly (world_after (happens world e) world) events event all.1 next)

pub none_plainly : (world : World) → AllMovePlainly world []
none_plainly world = tt

pub further_plainly : (world now : World) (events : List Event) (i : ℕ) (event : Event) → i < length events → event ≡ get_or events i event
    → now ≡ (run world (map event_of (take i events))).world → AllMovePlainly world (map event_of (take i events))
    → MovesBy now (event_of event)
    → AllMovePlainly world (map event_of (take (i + 1) events))
further_plainly world now events i event below is so_far all next =
    subst (AllMovePlainly world) (sym (one_more events i event below is))
    (more_plainly world (map event_of (take i events)) (event_of event) all (subst (λ (w : World). MovesBy w (event_of event)) so_far next))

-- where the run ends, out of memory: before the event, or after it has happened
pub stopped_at : (world now next : World) (events : List Event) (i : ℕ) (event : Event) → i < length events → event ≡ get_or events i event
    → now ≡ (run world (map event_of (take i events))).world → AllMovePlainly world (map event_of (take i events))
    → MovesBy now (event_of event)
    → (next ≡ now) ⊎ (next ≡ world_after (happens now (event_of event)) now)
    → (count : ℕ) × (next ≡ (run world (map event_of (take count events))).world) × AllMovePlainly world (map event_of (take count events))
stopped_at world now next events i event below is so_far all moves (inl same) = (i, same ∙ so_far, all)
stopped_at world now next events i event below is so_far all moves (inr after) = (
  i + 1,
  further_world world now next events i event below is so_far after,
  further_plainly world now events i event below is so_far all
      moves,
)

pub on_err : {A E P : Type 0} (result : Result A E) → P → OnErr result P
on_err (Ok value) fact = tt
on_err (Err refusal) fact = fact
