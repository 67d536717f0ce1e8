use Rattle.std.proofs.Common.{◌∙◌, ap, sym, ℕ, List, Option}
use Rattle.std.specs.Borrow.{Bor}
use Rattle.script_rules.specs.Script.{places_in}
use Rattle.process_lines.specs.Colons.{checked, places_of}
use Rattle.process_lines.proofs.EachSilo.{stated_checked}
use Rattle.process_lines.proofs.listed.check_word.Goals as goal

pub returns-in-Some : goal.returns-in-Some
returns-in-Some c =
    let pieces = c.in_ok-pieces.pieces in
    c.check_places.ensures
    ∙ ap (λ (places : Option (Bor (List ℕ))). checked (places_in (places_of places))) (sym c.in-Some.is)
    ∙ sym (stated_checked c.args.word.now pieces.silo.now pieces.status (places_of pieces.places) c.in_ok-pieces.ensures c.in_ok-_silo._silo
    c.in_ok-_silo.ensures)

pub returns-in-None : goal.returns-in-None
returns-in-None c =
    let pieces = c.in_ok-pieces.pieces in
    ap (λ (places : Option (Bor (List ℕ))). checked (places_in (places_of places))) (sym c.in-None.is)
    ∙ sym (stated_checked c.args.word.now pieces.silo.now pieces.status (places_of pieces.places) c.in_ok-pieces.ensures c.in_ok-_silo._silo
    c.in_ok-_silo.ensures)
