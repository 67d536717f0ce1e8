use Rattle.std.proofs.Common.{◌≡◌, length}
use Rattle.texts.specs.Words.{pieces_at}
use Rattle.script_rules.specs.Script.{places_in}
use Rattle.script_lines.proofs.Placed.{onto}
use Rattle.process_rules.specs.ReadLine.{comma}
use Rattle.process_lines.proofs.listed.places_between.Given as goal

abbrev pub invariant-pieces : goal.invariant-pieces
invariant-pieces l = places_in (pieces_at comma l.text) ≡ onto l.places.items (places_in (pieces_at comma l.rest))

abbrev pub decreases-pieces : goal.decreases-pieces
decreases-pieces l = length l.rest
