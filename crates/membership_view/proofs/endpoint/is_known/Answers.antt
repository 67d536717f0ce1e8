use Rattle.std.proofs.Common.{◌≡◌, true, false, sym, ◌∙◌, rules}
use Rattle.membership_view.specs.Changes.{is_newest}
use Rattle.membership_view.proofs.Order.{shares_is}
use Rattle.membership_view.proofs.KnownEndpoint.{known_first, known_last, known_unless_newest}
use Rattle.membership_view.proofs.endpoint.is_known.Goals as goal

pub returns-then-not-is_newest : goal.returns-then-not-is_newest
returns-then-not-is_newest c =
    let older : is_newest c.args.silo.now c.args.rows.now.entries ≡ false = sym c.is_newest.ensures ∙ search rules in
    sym (known_unless_newest c.args.silo.now c.args.rows.now.entries older)

pub returns-in-Some : goal.returns-in-Some
returns-in-Some c =
    let last = c.in-Some.last.now in
    let row = c.in-Some.field-0-1.now in
    let newest : is_newest c.args.silo.now c.args.rows.now.entries ≡ true = sym c.is_newest.ensures ∙ search rules in
    let found = c.range.ensures.in_range tt in
    let entry = found.3 (last, row) c.next_back.new.self c.in-Some.ensures.steps in
    shares_is c.args.silo.now last c.same_endpoint.result c.same_endpoint.ensures
    ∙ known_last c.args.silo.now c.args.rows.now.entries c.range.ensures.ordered newest last row entry.1 entry.0.1
    (λ q at there. found.4 (last, row) c.next_back.new.self c.in-Some.ensures.steps q (tt, at) there)

pub returns-in-None : goal.returns-in-None
returns-in-None c =
    let newest : is_newest c.args.silo.now c.args.rows.now.entries ≡ true = sym c.is_newest.ensures ∙ search rules in
    sym (known_first c.args.silo.now c.args.rows.now.entries c.range.ensures.ordered newest
    (λ q at. (c.range.ensures.in_range tt).5 c.in-None.ensures.steps.0 q (tt, at)))
