use Rattle.std.proofs.Common.{◌≡◌, length}
use Rattle.texts.specs.Words.{pieces_at}
use Rattle.script_rules.specs.Script.{places_in}
use Rattle.process_rules.specs.ReadLine.{comma}
use Rattle.process_lines.specs.Colons.{checked}
use Rattle.process_lines.proofs.listed.check_places.Given as goal

abbrev pub invariant-pieces : goal.invariant-pieces
invariant-pieces l = checked (places_in (pieces_at comma l.text)) ≡ checked (places_in (pieces_at comma l.rest))

abbrev pub decreases-pieces : goal.decreases-pieces
decreases-pieces l = length l.rest
