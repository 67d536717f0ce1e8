use Rattle.std.proofs.Common.{refl}
use Rattle.hash_ring.specs.Ring.{sorted_ring}
use Rattle.hash_ring.proofs.PlacesKept.{IsRing-anew}
use Rattle.hash_ring.proofs.Lawful.{is_sorted_anew, only_sorted_anew}
use Rattle.hash_ring.proofs.laws.rings_sorted_anew.Goals as goal

pub returns-clause-sorted : goal.returns-clause-sorted
returns-clause-sorted c = is_sorted_anew

pub returns-clause-only : goal.returns-clause-only
returns-clause-only c = only_sorted_anew

pub returns-clause-rings : goal.returns-clause-rings
returns-clause-rings c = λ view places kept. IsRing-anew view places kept view.version (sorted_ring view places) refl
