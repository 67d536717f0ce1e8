use Rattle.std.proofs.Common.{◌∙◌, ◌+◌, ◌++◌, ◌∷◌, ap, length, sym, take, Option}
use Rattle.membership_view.specs.declared.status.Status.{Status}
use Rattle.process_rules.specs.ReadLine.{colon, listed_as}
use Rattle.process_lines.specs.Colons.{places_of}
use Rattle.process_lines.proofs.CutAtColons.{no_colon, one_colon, pieces_listed, silo_text, two_colons}
use Rattle.process_lines.proofs.listed.pieces_of.Goals as goal

pub returns-in_default : goal.returns-in_default
returns-in_default c = no_colon c.args.word.now c.in_default.ensures.pieces

pub returns-in_default-split_at : goal.returns-in_default-split_at
returns-in_default-split_at c =
    one_colon c.args.word.now c.in-Some.host.now c.in-Some.behind.now c.in-Some.ensures.pieces c.in_default-split_at.ensures.pieces

pub returns-in_default-status_named : goal.returns-in_default-status_named
returns-in_default-status_named c =
    let host = c.in-Some.host.now in
    let port = c.in-Some-split_at.port.now in
    two_colons c.args.word.now host c.in-Some.behind.now c.in-Some.ensures.pieces port c.in-Some-split_at.rest.now
    c.in-Some-split_at.ensures.pieces
    ∙ c.in_ok-status.ensures host port
    ∙ ap (λ (status : Option Status). listed_as status (host ++ colon ∷ port) (places_of c.in_ok-status.places))
    (sym c.in_default-status_named.ensures)

pub returns : goal.returns
returns c =
    let word = c.args.word.now in
    let host = c.in-Some.host.now in
    let behind = c.in-Some.behind.now in
    let port = c.in-Some-split_at.port.now in
    let rest = c.in-Some-split_at.rest.now in
    pieces_listed word host port rest (take (length host + 1 + length port) word) c.in_ok-status.status.now
    c.in-Some-status_named.status
    (places_of c.in_ok-status.places)
    (two_colons word host behind c.in-Some.ensures.pieces port rest c.in-Some-split_at.ensures.pieces) c.in_ok-status.ensures
    c.in-Some-status_named.ensures
    (silo_text word host behind port rest c.in-Some.ensures.whole c.in-Some-split_at.ensures.whole)
