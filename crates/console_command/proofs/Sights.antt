-- Turns of several events, and the sights of silos.
use Rattle.std.proofs.Common.{◌≡◌, ℕ, suc, ◌+◌, ◌-◌, ◌<◌, ◌≤◌, Bool, true, false, max, List, [], ◌∷◌, ◌++◌, map, length, drop, get_or, drop-cons, add-one, subst, ap, sym, ◌∙◌, arith, append_assoc, append-nil}
use Rattle.std.specs.Prelude.{flat_map}
use Rattle.std.specs.List.{range_with_len}
use Rattle.std.specs.Option.{unwrap_or}
use Rattle.std.proofs.lemmas.List.{drop_all}
use Rattle.std.proofs.lemmas.List.Concat.{flat_map-append}
use Rattle.silo_address.specs.Silo.{Silo}
use Rattle.directory_rules.specs.Event.{Event, See}
use Rattle.directory_rules.specs.State.{Node, World}
use Rattle.membership_view.specs.Views.{joining_version}
use Rattle.script_rules.specs.Output.{events_in_turn, unseen_versions}
use Rattle.script_lines.specs.Spaced.{BeginsWith}
use Rattle.console_command.specs.Commands.{Performs, TakesTurn, TakeTurns, event_turn, in_session, sights}
use Rattle.console_command.specs.declared.sync.Unseen.{Unseen}
use Rattle.script_lines.proofs.Fronts.{begins_with_the_first}
use Rattle.console_command.proofs.Lines.{begins, nothing_printed}

-- ---- turns
-- the turn of one event
pub one_turn : (world : World) (event : Event) (start : List ℕ) (new : World) (text : List ℕ) (accepted : Bool)
    → TakesTurn (event_turn world event) start new text accepted → TakeTurns (event ∷ []) world start new text accepted
one_turn world event start new text true turn = λ more last whole next. turn (λ session. events_in_turn more session) last whole next
one_turn world event start new text false turn = λ more. turn (λ session. events_in_turn more session)

-- after the turns alone
pub turns_alone : (events : List Event) (world : World) (start : List ℕ) (new : World) (text : List ℕ) (accepted : Bool)
    → TakeTurns events world start new text accepted → Performs (events_in_turn events (in_session world)) start new text
turns_alone events world start new text true turns =
    subst (λ (es : List Event). Performs (events_in_turn es (in_session world)) start new text) (append-nil events)
    (turns [] new text (nothing_printed new text))
turns_alone events world start new text false turns =
    subst (λ (es : List Event). Performs (events_in_turn es (in_session world)) start new text) (append-nil events) (turns [])

-- what turns write stands behind what stood there
pub turns_begin : (events : List Event) (world : World) (first start : List ℕ) (new : World) (text : List ℕ) (accepted : Bool)
    → BeginsWith first start → TakeTurns events world start new text accepted → BeginsWith first text
turns_begin events world first start new text accepted begun turns =
    begins_with_the_first first start text begun (begins (events_in_turn events (in_session world)) new start text
    (turns_alone events world start new text accepted turns))

-- what the events that are left would print from here on, behind what is printed now, is what all would from the start
pub record GoesOn (all : List Event) (first : World) (start : List ℕ) (rest : List Event) (world : World) (text : List ℕ) : Type 0 where
  pub whole : (more : List Event) (last : World) (printed : List ℕ)
      → Performs (events_in_turn (rest ++ more) (in_session world)) text last printed
      → Performs (events_in_turn (all ++ more) (in_session first)) start last printed

pub goes_from_start : (all : List Event) (first : World) (start : List ℕ) → GoesOn all first start all first start
goes_from_start all first start = record { whole = λ more last printed performs. performs }

-- some more were accepted
pub goes_on : (all : List Event) (first : World) (start : List ℕ) (rest some left : List Event) (old : World) (before : List ℕ)
    (new : World) (after : List ℕ) (accepted : Bool)
    → accepted ≡ true → rest ≡ some ++ left → GoesOn all first start rest old before → TakeTurns some old before new after accepted
    → GoesOn all first start left new after
goes_on all first start rest some left old before new after false is splits goes turns = absurd (cc)
goes_on all first start rest some left old before new after true is splits goes turns = record {
  whole = λ more last printed next.
      goes.whole more last printed
      (subst (λ (es : List Event). Performs (events_in_turn es (in_session old)) before last printed)
      (sym (append_assoc some left more) ∙ ap (λ (es : List Event). es ++ more) (sym splits))
      (turns (left ++ more) last printed next));
}

-- one of them was refused
pub goes_no_further : (all : List Event) (first : World) (start : List ℕ) (rest some left : List Event) (old : World) (before : List ℕ)
    (new : World) (after : List ℕ) (accepted : Bool)
    → accepted ≡ false → rest ≡ some ++ left → GoesOn all first start rest old before → TakeTurns some old before new after accepted
    → TakeTurns all first start new after false
goes_no_further all first start rest some left old before new after true is splits goes turns = absurd (cc)
goes_no_further all first start rest some left old before new after false is splits goes turns = λ more.
    goes.whole more new after
    (subst (λ (es : List Event). Performs (events_in_turn es (in_session old)) before new after)
    (sym (append_assoc some left more) ∙ ap (λ (es : List Event). es ++ more) (sym splits))
    (turns (left ++ more)))

-- all were accepted
pub all_went : (all : List Event) (first : World) (start : List ℕ) (rest : List Event) (world : World) (text : List ℕ) → rest ≡ []
    → GoesOn all first start rest world text → TakeTurns all first start world text true
all_went all first start rest world text none goes = λ more last printed next.
    goes.whole more last printed (subst (λ (es : List Event). Performs (events_in_turn (es ++ more) (in_session world)) text last printed)
    (sym none) next)

-- ---- sights
-- those of a silo that are left
pub sights_left : (silo : Silo) (seen current : ℕ) → seen < current
    → map (See silo) (range_with_len (seen + 1) (current - seen)) ≡ (See silo (seen + 1) ∷ []) ++ map (See silo)
    (range_with_len (seen + 1 + 1) (current - (seen + 1)))
sights_left silo seen current less = ap (λ n. map (See silo) (range_with_len (seen + 1) n)) (one_more seen current less)
  where
    one_more : (a b : ℕ) → a < b → b - a ≡ suc (b - (a + 1))
    one_more a b less = omega (less, arith)

pub no_sight_left : (silo : Silo) (seen current : ℕ) → current ≤ seen → map (See silo) (range_with_len (seen + 1) (current - seen)) ≡ []
no_sight_left silo seen current all = ap (λ n. map (See silo) (range_with_len (seen + 1) n)) (none seen current all)
  where
    none : (a b : ℕ) → b ≤ a → b - a ≡ 0
    none a b all = omega (all, arith)

-- the versions above both are those from the higher on
pub above_both : (seen joined current after : ℕ) → after ≡ max seen (joined - 1)
    → range_with_len (after + 1) (current - after) ≡ range_with_len (max (seen + 1) joined) ((current + 1) - max (seen + 1) joined)
above_both seen joined current after is =
    ap (λ n. range_with_len n (current - after)) (first seen joined after is)
    ∙ ap (λ n. range_with_len (max (seen + 1) joined) n) (many seen joined current after is)
  where
    first : (seen joined after : ℕ) → after ≡ max seen (joined - 1) → after + 1 ≡ max (seen + 1) joined
    first seen joined after is = omega (is, arith)

    many : (seen joined current after : ℕ) → after ≡ max seen (joined - 1) → current - after ≡ (current + 1) - max (seen + 1) joined
    many seen joined current after is = omega (is, arith)

-- so are those that the silo hasn't seen
pub unseen_are : (world : World) (silo : Silo) (node : Node) (after : ℕ)
    → after ≡ max node.view.version (unwrap_or (joining_version world.views silo) 0 - 1)
    → map (See silo) (range_with_len (after + 1) (world.views.version - after)) ≡ map (See silo) (unseen_versions world silo node)
unseen_are world silo node after is =
    ap (map (See silo)) (above_both node.view.version (unwrap_or (joining_version world.views silo) 0) world.views.version after is)

-- one silo more is listed
pub one_listed : (current : ℕ) (listed : List Unseen) (unseen : Unseen) (its others : List Event) → sights current unseen ≡ its
    → flat_map (sights current) (listed ++ unseen ∷ []) ++ others ≡ flat_map (sights current) listed ++ (its ++ others)
one_listed current listed unseen its others is =
    ap (λ (es : List Event). es ++ others) (flat_map-append (sights current) listed (unseen ∷ []))
    ∙ (append_assoc (flat_map (sights current) listed) (sights current unseen ++ []) others
    ∙ ap (λ (es : List Event). flat_map (sights current) listed ++ (es ++ others)) (append-nil (sights current unseen) ∙ is))

-- those of the silos that are left
pub silo_left : (current : ℕ) (silos : List Unseen) (index : ℕ) (unseen : Unseen) → index < length silos
    → unseen ≡ get_or silos index unseen
    → flat_map (sights current) (drop index silos) ≡ sights current unseen ++ flat_map (sights current) (drop (index + 1) silos)
silo_left current silos index unseen within is =
    ap (flat_map (sights current)) (drop-cons silos index unseen within)
    ∙ (ap (λ (n : ℕ). sights current (get_or silos index unseen) ++ flat_map (sights current) (drop n silos)) (sym (add-one index))
    ∙ ap (λ (u : Unseen). sights current u ++ flat_map (sights current) (drop (index + 1) silos)) (sym is))

pub no_silo_left : (current : ℕ) (silos : List Unseen) (index : ℕ) → length silos ≤ index
    → flat_map (sights current) (drop index silos) ≡ []
no_silo_left current silos index all = ap (flat_map (sights current)) (drop_all index silos all)
