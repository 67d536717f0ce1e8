use Rattle.std.proofs.Common.{◌∙◌}
use Rattle.texts.specs.Words.{pieces_at}
use Rattle.process_rules.specs.ReadLine.{comma}
use Rattle.process_lines.proofs.EachSilo.{places_checked}
use Rattle.process_lines.proofs.listed.check_places.Goals as goal

pub pieces-preserved : goal.pieces-preserved
pieces-preserved c =
    c.pieces.invariant ∙ places_checked (pieces_at comma c.pieces.rest.now) (pieces_at comma c.in-Some.behind.now) c.in-Some.place.now
    c.in-Some.ensures.pieces _ c.in_ok-_place.ensures
