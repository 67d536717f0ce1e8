use Rattle.std.proofs.Common.{◌∙◌, ◌++◌, ◌∷◌, [], ℕ, List, Result, Ok}
use Rattle.texts.specs.Words.{pieces_at}
use Rattle.script_rules.specs.Script.{hash_word, places_in, ◌>>=◌}
use Rattle.process_rules.specs.ReadLine.{comma}
use Rattle.process_lines.proofs.EachSilo.{fails_on, pushed_fault, pushed_last, pushed_more}
use Rattle.process_lines.proofs.listed.places_between.Goals as goal

-- with one place more
abbrev pushed : List ℕ → List ℕ → Result (List ℕ) ℕ
pushed before word = hash_word word >>= λ place. Ok (before ++ place ∷ [])

pub pieces-preserved : goal.pieces-preserved
pieces-preserved c =
    c.pieces.invariant ∙ pushed_more (pieces_at comma c.pieces.rest.now) (pieces_at comma c.in-Some.behind.now) c.in-Some.place.now
    c.in-Some.ensures.pieces c.pieces.places.items c.push_place.new.places.items c.in_ok-push_place.ensures

pub returns-in_err-push_place : goal.returns-in_err-push_place
returns-in_err-push_place c =
    fails_on c.from_residual.result c.in_err-push_place.field-0.0 (pushed c.pieces.places.items c.in-Some.place.now)
    (places_in (pieces_at comma c.args.text.now)) (λ places. places.items) c.from_residual.ensures.1 c.in_err-push_place.ensures
    (λ fault is. c.pieces.invariant ∙ pushed_fault (pieces_at comma c.pieces.rest.now) (pieces_at comma c.in-Some.behind.now)
    c.in-Some.place.now c.in-Some.ensures.pieces c.pieces.places.items fault is)

pub returns-in_err-push_place-2 : goal.returns-in_err-push_place-2
returns-in_err-push_place-2 c =
    fails_on c.from_residual-in_err-push_place-2.result c.in_err-push_place-2.field-0.0
    (pushed c.pieces.places.items c.pieces.rest.now) (places_in (pieces_at comma c.args.text.now)) (λ places. places.items)
    c.from_residual-in_err-push_place-2.ensures.1 c.in_err-push_place-2.ensures
    (λ fault is. c.pieces.invariant ∙ pushed_fault (pieces_at comma c.pieces.rest.now) _
    c.pieces.rest.now c.in_default.ensures.pieces c.pieces.places.items fault is)

pub returns : goal.returns
returns c =
    c.pieces.invariant ∙ pushed_last (pieces_at comma c.pieces.rest.now) c.pieces.rest.now c.in_default.ensures.pieces
    c.pieces.places.items c.push_place-2.new.places.items c.in_ok-push_place-2.ensures
