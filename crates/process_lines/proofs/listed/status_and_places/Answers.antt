use Rattle.process_lines.proofs.CutAtColons.{status_alone, status_then_places, too_many_colons}
use Rattle.process_lines.proofs.listed.status_and_places.Goals as goal

pub returns-in_default : goal.returns-in_default
returns-in_default c = status_alone c.args.text.now c.in_default.ensures.pieces

pub returns-in-None : goal.returns-in-None
returns-in-None c =
    status_then_places c.args.text.now c.in-Some.status.now c.in-Some.places.now c.in-Some.ensures.pieces c.in-None.ensures.pieces

pub returns-in-Some-split_at : goal.returns-in-Some-split_at
returns-in-Some-split_at c =
    too_many_colons c.args.text.now c.in-Some.status.now c.in-Some.places.now c.in-Some.ensures.pieces c.in-Some-split_at.field-0.0.now
    c.in-Some-split_at.field-0.1.now c.in-Some-split_at.ensures.pieces
