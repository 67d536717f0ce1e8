use Rattle.std.proofs.Common.{ℕ, ◌+◌, ◌-◌, ◌++◌, List, map, ap, arith, append-nil, sym, ◌∙◌}
use Rattle.std.specs.List.{range_with_len}
use Rattle.directory_rules.specs.Event as rule
use Rattle.directory_rules.specs.Event.{See}
use Rattle.directory_rules.specs.EventModel.{event_of}
use Rattle.silo_threads.proofs.Sights.{no_sight_left, one_more_listed, sights_left}
use Rattle.silo_threads.proofs.sync.see_up_to.Goals as goal

pub loop-seen-preserved : goal.loop-seen-preserved
loop-seen-preserved c =
    let silo = c.args.silo.now in
    let seen = c.loop-seen.seen in
    let current = c.current-current.result in
    let listed = c.loop-seen.events.items in
    one_more_listed listed _ _ (map (See silo) (range_with_len (seen + 1 + 1) (current - (seen + 1)))) c.in_ok-push.ensures.items
    ∙ (ap (λ (left : List rule.Event). map event_of listed ++ left) (sym (sights_left silo seen current (omega arith)))
    ∙ c.loop-seen.invariant)

pub returns : goal.returns
returns c =
    let silo = c.args.silo.now in
    let seen = c.loop-seen.seen in
    let current = c.current-current.result in
    let listed = c.loop-seen.events.items in
    sym (append-nil (map event_of listed))
    ∙ (ap (λ (left : List rule.Event). map event_of listed ++ left) (sym (no_sight_left silo seen current c.loop-seen-test.false))
    ∙ (c.loop-seen.invariant
    ∙ ap (λ (versions : List ℕ). map event_of c.args.events.now.items ++ map (See silo) versions)
    (ap (λ (n : ℕ). range_with_len (c.seen_by-after.result + 1) (n - c.seen_by-after.result)) c.current-current.ensures
    ∙ c.seen_by-after.ensures)))
