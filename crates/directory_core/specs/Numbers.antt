-- The numbers by which events are refused.
use Rattle.std.specs.Prelude.{◌≡◌, ℕ, Option, Some, None, IfNone}
use Rattle.membership_view.specs.Refusal.{views_error_number}
use Rattle.hash_ring.specs.Numbers.{ring_error_number}
use Rattle.directory_node.specs.Numbers.{step_refusal_number}
use Rattle.directory_core.specs.declared.refusal.EventRefusal.{EventRefusal}
use Rattle.directory_core.specs.declared.refusal.EventRefusal.TheVariants.{NoSuchSilo, DeadSilo, NoSuchVersion, NoSuchLetter, JournalFull, MailFull, Views, Ring, Node, OutOfMemory}

-- a refusal's number; out of memory has none
abbrev pub event_refusal_number : EventRefusal → Option ℕ
event_refusal_number NoSuchSilo = Some 901
event_refusal_number DeadSilo = Some 902
event_refusal_number NoSuchVersion = Some 904
event_refusal_number NoSuchLetter = Some 905
event_refusal_number JournalFull = Some 908
event_refusal_number MailFull = Some 909
event_refusal_number (Views refusal) = views_error_number refusal
event_refusal_number (Ring refusal) = ring_error_number refusal
event_refusal_number (Node refusal) = step_refusal_number refusal
event_refusal_number OutOfMemory = None

-- a refusal that has no number is out of memory, told as just that
abbrev pub IsNumberedUnlessMemory : EventRefusal → Type 0
IsNumberedUnlessMemory refusal = IfNone (event_refusal_number refusal) (refusal ≡ OutOfMemory)
