use Rattle.std.proofs.Common.{refl}
use Rattle.worked_rows.proofs.Opened.{all_opened}
use Rattle.worked_rows.proofs.versions_and_places_amiss.Goals as goal

pub returns : goal.returns
unfolding all_opened
returns c = record { seen = refl; never_joined = refl; joined = refl; no_places = refl; too_many_places = refl; under_sha256 = refl }
