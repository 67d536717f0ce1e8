-- Turns, one after the other.
use Rattle.std.proofs.Common.{◌≡◌, ℕ, suc, ◌+◌, ◌-◌, ◌<◌, Bool, true, false, ◌≤◌, List, [], subst, arith}
use Rattle.directory_rules.specs.State.{World}
use Rattle.script_rules.specs.Output.{Session, Performed, printing, delivered_all, delivered_within}
use Rattle.script_lines.specs.Spaced.{BeginsWith}
use Rattle.console_command.specs.Commands.{Performs, TakesTurn, delivery_turn, in_session}
use Rattle.script_lines.proofs.Fronts.{begins_with_the_first}
use Rattle.console_command.proofs.Lines.{nothing_printed, begins}

-- a turn after which nothing is performed
pub alone : (rule : (Session → Performed) → Performed) (start : List ℕ) (new : World) (text : List ℕ) (accepted : Bool)
    → TakesTurn rule start new text accepted → Performs (rule (λ next. printing [] next)) start new text
alone rule start new text true turn = turn (λ next. printing [] next) new text (nothing_printed new text)
alone rule start new text false turn = turn (λ next. printing [] next)

-- what so many deliveries at most would print from here on, behind what is printed now, is what all would from the start
abbrev pub SettlesFrom : World → List ℕ → ℕ → World → List ℕ → Type 0
SettlesFrom first start deliveries world text = (last : World) (whole : List ℕ)
    → Performs (delivered_within deliveries (in_session world)) text last whole
    → Performs (delivered_all (in_session first)) start last whole

-- one delivery more was accepted
pub settles_on : (first : World) (start : List ℕ) (most done : ℕ) (old : World) (before : List ℕ) (new : World) (after : List ℕ)
    (accepted : Bool)
    → accepted ≡ true → done < most → SettlesFrom first start (most - done) old before
    → TakesTurn (delivery_turn old) before new after accepted
    → SettlesFrom first start (most - (done + 1)) new after
settles_on first start most done old before new after false is more settles turn last whole next = absurd (cc)
settles_on first start most done old before new after true is more settles turn last whole next =
    let one_less : suc (most - (done + 1)) ≡ most - done = omega arith in
    settles last whole (subst (λ (n : ℕ). Performs (delivered_within n (in_session old)) before last whole) one_less
    (turn (λ next. delivered_within (most - (done + 1)) next) last whole next))

-- none was, or one was refused
pub settles_at_last : (first : World) (start : List ℕ) (most done : ℕ) (old : World) (before : List ℕ) (new : World) (after : List ℕ)
    (accepted : Bool)
    → accepted ≡ false → done < most → SettlesFrom first start (most - done) old before
    → TakesTurn (delivery_turn old) before new after accepted
    → Performs (delivered_all (in_session first)) start new after
settles_at_last first start most done old before new after true is more settles turn = absurd (cc)
settles_at_last first start most done old before new after false is more settles turn =
    let one_less : suc (most - (done + 1)) ≡ most - done = omega arith in
    settles new after (subst (λ (n : ℕ). Performs (delivered_within n (in_session old)) before new after) one_less
    (turn (λ next. delivered_within (most - (done + 1)) next)))

-- as many as may be were
pub settles_at_most : (first : World) (start : List ℕ) (most done : ℕ) (world : World) (text : List ℕ) → most ≤ done
    → SettlesFrom first start (most - done) world text → Performs (delivered_all (in_session first)) start world text
settles_at_most first start most done world text all settles =
    let none : 0 ≡ most - done = omega arith in
    settles world text (subst (λ (n : ℕ). Performs (delivered_within n (in_session world)) text world text) none
    (nothing_printed world text))

-- what a turn writes stands behind what stood there
pub turn_begins : (rule : (Session → Performed) → Performed) (first start : List ℕ) (new : World) (text : List ℕ) (accepted : Bool)
    → BeginsWith first start → TakesTurn rule start new text accepted → BeginsWith first text
turn_begins rule first start new text accepted begun turn =
    begins_with_the_first first start text begun (begins (rule (λ next. printing [] next)) new start text
    (alone rule start new text accepted turn))
