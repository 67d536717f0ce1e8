-- The numbers by which a silo's refusals are told.
use Rattle.std.specs.Prelude.{◌≡◌, ℕ, IfNone, Option, Some, None}
use Rattle.membership_view.specs.Refusal.{views_error_number}
use Rattle.hash_ring.specs.Numbers.{ring_error_number}
use Rattle.directory_node.specs.Numbers.{step_refusal_number}
use Rattle.directory_silo.specs.declared.refusal.SiloRefusal.{SiloRefusal}
use Rattle.directory_silo.specs.declared.refusal.SiloRefusal.TheVariants.{Gap, SaysOtherwise, ToldBefore, BeforeHistory, NotJoined, Dead, NoSuchVersion, Views, Ring, Node, OutOfMemory}

-- a refusal's number; out of memory has none
abbrev pub silo_refusal_number : SiloRefusal → Option ℕ
silo_refusal_number Gap = Some 206
silo_refusal_number SaysOtherwise = Some 207
silo_refusal_number ToldBefore = Some 211
silo_refusal_number BeforeHistory = Some 212
silo_refusal_number NotJoined = Some 901
silo_refusal_number Dead = Some 902
silo_refusal_number NoSuchVersion = Some 904
silo_refusal_number (Views refusal) = views_error_number refusal
silo_refusal_number (Ring refusal) = ring_error_number refusal
silo_refusal_number (Node refusal) = step_refusal_number refusal
silo_refusal_number OutOfMemory = None

-- a refusal that has no number is out of memory, told as just that
abbrev pub IsNumberedUnlessMemory : SiloRefusal → Type 0
IsNumberedUnlessMemory refusal = IfNone (silo_refusal_number refusal) (refusal ≡ OutOfMemory)
