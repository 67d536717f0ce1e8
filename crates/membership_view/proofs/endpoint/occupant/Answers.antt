use Rattle.std.proofs.Common.{◌≡◌, Bool, true, false, not, ◌&&◌, Option, Some, None, is_some, is_none, refl, sym, ◌∙◌, ap, if◌then◌else◌}
use Rattle.std.proofs.lemmas.Bool.{and_from, and_left, and_right}
use Rattle.membership_view.specs.View.{shares_endpoint}
use Rattle.membership_view.proofs.Order.{shares_is}
use Rattle.membership_view.proofs.Neighbours.{occupant_first, occupant_last}
use Rattle.membership_view.proofs.endpoint.occupant.Goals as goal
use Rattle.membership_view.proofs.endpoint.occupant.Goals.{else-same_endpoint-via-then-same_endpoint+else-is_none, else-same_endpoint-via-else-same_endpoint}

not_some : {A : Type 0} (o : Option A) (b : Bool) → is_some o ≡ not b → is_none o ≡ b
not_some None true h = refl
not_some None false h = cc
not_some (Some x) true h = cc
not_some (Some x) false h = refl

pub returns-in_err-last : goal.returns-in_err-last
returns-in_err-last c =
    c.from_residual.ensures
    ∙ occupant_first c.args.silo.now c.args.rows.now.entries c.range.ensures.ordered c.requires.newest
    (λ q at. (c.range.ensures.in_range tt).5 c.in_err-last.ensures.steps.0 q (tt, at))

pub returns-then-is_none : goal.returns-then-is_none
returns-then-is_none c =
    let last = c.in_ok-last.last.now in
    let row = c.in_ok-last.row.now in
    let found = c.range.ensures.in_range tt in
    let entry = found.3 (last, row) c.next_back.new.self c.in_ok-last.ensures.steps in
    let passes : (shares_endpoint c.args.silo.now last && is_none row.dead) ≡ true =
    and_from (shares_endpoint c.args.silo.now last) (is_none row.dead)
    (sym (shares_is c.args.silo.now last c.same_endpoint.result c.same_endpoint.ensures) ∙ c.if-same_endpoint.true)
    (not_some row.dead true c.if-is_none.ensures) in
    ap (λ b. if b then Some last else None) (sym passes)
    ∙ occupant_last c.args.silo.now c.args.rows.now.entries c.range.ensures.ordered c.requires.newest c.requires.older_dead last row entry.1
    entry.0.1
    (λ q at there. found.4 (last, row) c.next_back.new.self c.in_ok-last.ensures.steps q (tt, at) there)

pub returns : goal.returns
returns c =
    let last = c.in_ok-last.last.now in
    let row = c.in_ok-last.row.now in
    let found = c.range.ensures.in_range tt in
    let entry = found.3 (last, row) c.next_back.new.self c.in_ok-last.ensures.steps in
    let shares = shares_is c.args.silo.now last c.same_endpoint.result c.same_endpoint.ensures in
    let no : (shares_endpoint c.args.silo.now last && is_none row.dead) ≡ false =
    elim c.else-same_endpoint.branch [
      | else-same_endpoint-via-then-same_endpoint+else-is_none w ↦ and_right (shares_endpoint c.args.silo.now last) (is_none row.dead)
          (not_some row.dead false w.if-is_none.ensures)
      | else-same_endpoint-via-else-same_endpoint w ↦ and_left (shares_endpoint c.args.silo.now last) (is_none row.dead)
          (sym shares ∙ w.if-same_endpoint.false)
    ] in
    ap (λ b. if b then Some last else None) (sym no)
    ∙ occupant_last c.args.silo.now c.args.rows.now.entries c.range.ensures.ordered c.requires.newest c.requires.older_dead last row entry.1
    entry.0.1
    (λ q at there. found.4 (last, row) c.next_back.new.self c.in_ok-last.ensures.steps q (tt, at) there)
