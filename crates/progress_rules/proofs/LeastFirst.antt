-- Least first is one of the orders in which letters may come.
use Rattle.std.proofs.Common.{◌≡◌, refl, ap, subst, ◌∙◌, ℕ, zero, suc, List, [], ◌∷◌}
use Rattle.std.specs.Prelude.{true, cond, Option, Some, None, Result, Ok, Err}
use Rattle.std.specs.Ordering.{nat_cmp}
use Rattle.std.specs.Map.{lookup}
use Rattle.std.specs.BTreeMap.{is_at}
use Rattle.directory_rules.specs.Event.{Event, Deliver}
use Rattle.directory_rules.specs.State.{World, Accepted}
use Rattle.directory_rules.specs.Happens.{happens, least_deliverable}
use Rattle.directory_rules.specs.Laws.{IsMail}
use Rattle.directory_rules.proofs.Mails.{mail_there}
use Rattle.directory_facts.specs.Laws.{world_by}
use Rattle.progress_rules.specs.Plan.{then_on, and_then, in_turn, delivering, settled_within, settled, ended, nudge_events}
use Rattle.progress_rules.specs.Plan as plan
use Rattle.progress_rules.specs.AnyOrder.{may_come, settled_in, round_in, LeastFirstIsAnOrder}
use Rattle.progress_rules.proofs.Flying.{least_is}
use Rattle.progress_rules.proofs.Rounds.{mail_after}

abbrev HasMail : World → Type 0
HasMail world = IsMail world.settings world.mail world.sent

-- ---- events one after the other keep the mail
turn_mail : (events : List Event) (world after : World) → HasMail world → in_turn events world ≡ Ok after → HasMail after
turn_mail [] world after mail is = let same : world ≡ after = cc (is) in subst HasMail same mail
turn_mail (event ∷ events) world after mail is = by (happens world event) refl (λ next now rest. turn_mail events next after now rest) is
  where
    by : (r : Result Accepted ℕ) → happens world event ≡ r
        → ((next : World) → HasMail next → in_turn events next ≡ Ok after → HasMail after)
        → then_on r (λ next. in_turn events next) ≡ Ok after → HasMail after
    by (Err number) happened on is = absurd (cc (is))
    by (Ok accepted) happened on is = on accepted.world (mail_after world event accepted mail happened) is

-- ---- the least that may be delivered, again and again, is an order
abbrev IsOrdered : (world after : World) → Type 0
IsOrdered world after = (order : List ℕ) × (settled_in order world ≡ Ok after)

none_left : (world after : World) → least_deliverable world ≡ None → ended None world ≡ Ok after → IsOrdered world after
none_left world after none is = ([], ap (λ o. ended o world) none ∙ is)

order_of : (more : ℕ) (world after : World) → HasMail world → settled_within more world ≡ Ok after → IsOrdered world after
order_of zero world after mail is = by (least_deliverable world) refl is
  where
    by : (o : Option ℕ) → least_deliverable world ≡ o → ended o world ≡ Ok after → IsOrdered world after
    by None none is = none_left world after none is
    by (Some number) some is = absurd (cc (is))
order_of (suc more) world after mail is = by (least_deliverable world) refl (λ next now rest. order_of more next after now rest) is
  where
    Later : Type 0
    Later = (next : World) → HasMail next → settled_within more next ≡ Ok after → IsOrdered next after

    further : (number : ℕ) → least_deliverable world ≡ Some number → (r : Result Accepted ℕ) → happens world (Deliver number) ≡ r → Later
        → then_on r (λ next. settled_within more next) ≡ Ok after → IsOrdered world after
    further number some (Err refusal) happened on is = absurd (cc (is))
    further number some (Ok accepted) happened on is =
        let rest = on accepted.world (mail_after world (Deliver number) accepted mail happened) is in
        let least = least_is world number mail.rising some in
        let may : may_come (lookup (is_at (nat_cmp number)) world.mail) world ≡ true = ap (λ o. may_come o world) least.flies.found ∙ least.flies.comes in (
          number ∷ rest.0,
          ap (λ b. cond {A = Result World ℕ} b (then_on (happens world (Deliver number)) (λ next. settled_in rest.0 next)) (Err 0)) may
              ∙ ap (λ (r : Result Accepted ℕ). then_on r (λ next. settled_in rest.0 next)) happened ∙ rest.1,
        )

    by : (o : Option ℕ) → least_deliverable world ≡ o → Later → delivering o world (λ next. settled_within more next) ≡ Ok after
        → IsOrdered world after
    by None none on is = none_left world after none is
    by (Some number) some on is = further number some (happens world (Deliver number)) refl on is

pub least_first_is_an_order : LeastFirstIsAnOrder
least_first_is_an_order settings events after is = by (plan.nudged (world_by settings events)) refl is
  where
    by : (r : Result World ℕ) → plan.nudged (world_by settings events) ≡ r → and_then r settled ≡ Ok after
        → (order : List ℕ) × (round_in order (world_by settings events) ≡ Ok after)
    by (Err number) made is = absurd (cc (is))
    by (Ok next) made is =
        let so = order_of next.settings.letters next after
        (turn_mail (nudge_events (world_by settings events)) (world_by settings events) next (mail_there settings events) made) is in
        (so.0, ap (λ (r : Result World ℕ). and_then r (λ w. settled_in so.0 w)) made ∙ so.1)
