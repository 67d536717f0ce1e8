use Rattle.directory_rules.specs.ListedModel.{listed_of}
use Rattle.script_rules.specs.Script.{places_in}
use Rattle.process_rules.specs.ReadLine.{listed_word}
use Rattle.process_lines.specs.Colons.{places_of}
use Rattle.process_lines.proofs.EachSilo.{fails_on, stated_fault, stated_read}
use Rattle.process_lines.proofs.listed.listed_word.Goals as goal

pub returns-in_err-places : goal.returns-in_err-places
returns-in_err-places c =
    let pieces = c.in_ok-pieces.pieces in
    fails_on c.from_residual-in_err-places.result c.in_err-places.field-0.0 (places_in (places_of pieces.places))
    (listed_word c.args.word.now) listed_of c.from_residual-in_err-places.ensures.1 c.in_err-places.ensures
    (stated_fault c.args.word.now pieces.silo.now pieces.status (places_of pieces.places) c.in_ok-pieces.ensures c.in_ok-silo.silo
    c.in_ok-silo.ensures)

pub returns : goal.returns
returns c =
    let pieces = c.in_ok-pieces.pieces in
    stated_read c.args.word.now pieces.silo.now pieces.status (places_of pieces.places) c.in_ok-pieces.ensures c.in_ok-silo.silo
    c.in_ok-silo.ensures c.in_ok-places.places.items c.in_ok-places.ensures
