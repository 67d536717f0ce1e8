-- A settle ends: each delivery leaves one fresh letter less, or one letter less that may still be sent.
use Rattle.std.proofs.Common.{arith, ◌≡◌, refl, ap, ◌∙◌, ℕ, zero, suc, ◌+◌}
use Rattle.std.specs.Prelude.{false, option_map, Option, Some, None, Result, Ok, Err}
use Rattle.std.proofs.lemmas.List.Sums.{count_by-le-length}
use Rattle.directory_rules.specs.Event.{Deliver}
use Rattle.directory_rules.specs.State.{Posted, Accepted}
use Rattle.directory_rules.specs.Laws.{IsMail}
use Rattle.directory_rules.specs.Happens as rule
use Rattle.script_rules.specs.Lines.{outcome_line}
use Rattle.script_rules.specs.Output.{Session, Performed, before, after_event, with_world, deliver_next, delivered_within, delivered_all}
use Rattle.directory_rules.proofs.Kept.{On, After}
use Rattle.directory_rules.proofs.FreshLetters.{AtMost, find_in, fresh_delivered, found_next, next_delivered}

-- ---- With more deliveries a settle does the same.
abbrev number_of : Option (ℕ × Posted) → Option ℕ
number_of next = option_map (λ e. e.0) next

after_same : (bound : ℕ) (F G : Session → Performed) → ((session : Session) → On (AtMost bound) session.world → F session ≡ G session)
    → (session : Session) (result : Result Accepted ℕ) → After (AtMost bound) result
    → after_event result session F ≡ after_event result session G
after_same bound F G same session (Ok accepted) at_most =
    ap (before (outcome_line accepted.outcome)) (same (with_world session accepted.world) at_most)
after_same bound F G same session (Err refusal) at_most = refl

next_same : (bound : ℕ) (F G : Session → Performed) → ((session : Session) → On (AtMost bound) session.world → F session ≡ G session)
    → (session : Session) → On (AtMost (suc bound)) session.world → (next : Option (ℕ × Posted))
    → find_in session.world session.world.mail ≡ next
    → deliver_next (number_of next) session F ≡ deliver_next (number_of next) session G
next_same bound F G same session at_most None none = refl
next_same bound F G same session at_most (Some e) found =
    after_same bound F G same session (rule.happens session.world (Deliver e.0))
    (next_delivered bound session.world e.0 e.1 (found_next session.world 0 session.world.sent session.world.mail e at_most.0.rising found)
    at_most)

-- where no letter is fresh there is none to deliver
none_left : (session : Session) (F : Session → Performed) → On (AtMost 0) session.world → (next : Option (ℕ × Posted))
    → find_in session.world session.world.mail ≡ next
    → deliver_next (number_of next) session F ≡ delivered_within 0 session
none_left session F at_most None none = refl
none_left session F at_most (Some e) found =
    let next = found_next session.world 0 session.world.sent session.world.mail e at_most.0.rising found in
    let fewer = fresh_delivered e.0 session.world.mail e.1 (record { letter = e.1.letter; fresh = false }) next.found next.fresh refl in
    let none = at_most.1 in
    absurd (omega (arith, fewer, none))

no_more : (more : ℕ) (session : Session) → On (AtMost 0) session.world → delivered_within more session ≡ delivered_within 0 session
no_more zero session at_most = refl
no_more (suc more) session at_most =
    none_left session (λ next. delivered_within more next) at_most (find_in session.world session.world.mail) refl

settled_more : (bound more : ℕ) (session : Session) → On (AtMost bound) session.world
    → delivered_within (bound + more) session ≡ delivered_within bound session
settled_more zero more session at_most = no_more (0 + more) session at_most
settled_more (suc bound) more session at_most =
    ap (λ n. delivered_within n session) (one_first bound more)
    ∙ next_same bound (λ next. delivered_within (bound + more) next) (λ next. delivered_within bound next) (settled_more bound more) session
    at_most (find_in session.world session.world.mail) refl
  where
    one_first : (bound more : ℕ) → suc bound + more ≡ suc (bound + more)
    one_first bound more = omega arith

pub settle_suffices : (session : Session) → IsMail session.world.settings session.world.mail session.world.sent → (more : ℕ)
    → delivered_within (session.world.settings.letters + more) session ≡ delivered_all session
settle_suffices session is more =
    let fresh = count_by-le-length (λ (e : ℕ × Posted). e.1.fresh) session.world.mail in
    let many = is.many in
    let limited = is.limited in
    settled_more session.world.settings.letters more session (is, omega (arith, fresh, many, limited))
