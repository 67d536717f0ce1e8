-- The slots of the mail: one for each letter that was ever sent, in the order in which they were sent.
use Rattle.std.specs.Prelude.{ℕ, Bool, false, if◌then◌else◌, List, Option, Some, None}
use Rattle.std.specs.Option.{option_map}
use Rattle.std.specs.List.{AllByRecursion, enumerate_from, filter_map}
use Rattle.std.specs.Ordering.{nat_cmp}
use Rattle.std.specs.Map.{lookup}
use Rattle.std.specs.BTreeMap.{is_at}
use Rattle.silo_address.specs.Grain.{Grain}
use Rattle.silo_address.specs.Silo.{Silo, silo_cmp}
use Rattle.directory_rules.specs.State.{Posted}
use Rattle.letter_mail.specs.declared.slots.Slot.{Slot}
use Rattle.letter_mail.specs.declared.slots.Slot.TheVariants.{Short, Whole, Lost}
use Rattle.letter_mail.specs.Kept.{IsNumbered, letter_by}

-- whom the letter is for, or was for
abbrev pub slot_to : Slot → Silo
slot_to (Short fresh brief) = brief.to
slot_to (Whole fresh letter) = letter.value.to
slot_to (Lost to) = to

-- whether the letter was never delivered, and isn't lost
abbrev pub is_fresh : Slot → Bool
is_fresh (Short fresh brief) = fresh
is_fresh (Whole fresh letter) = fresh
is_fresh (Lost to) = false

-- the letter as it is in the mail, if it isn't lost
abbrev pub posted_in : List Grain → Slot → Option Posted
posted_in grains (Short fresh brief) = Some (record { letter = letter_by grains brief; fresh = fresh })
posted_in grains (Whole fresh letter) = Some (record { letter = letter.value; fresh = fresh })
posted_in grains (Lost to) = None

-- the slot once its letter was delivered
abbrev pub stale_slot : Slot → Slot
stale_slot (Short fresh brief) = Short false brief
stale_slot (Whole fresh letter) = Whole false letter
stale_slot (Lost to) = Lost to

-- the slot once its letter is lost
abbrev pub lost_slot : Slot → Slot
lost_slot slot = Lost (slot_to slot)

-- where so many grains have numbers, what is kept has numbers of these
abbrev pub IsSlot : ℕ → Slot → Type 0
IsSlot count (Short fresh brief) = IsNumbered count brief.says
IsSlot count (Whole fresh letter) = Unit {0}
IsSlot count (Lost to) = Unit {0}

-- and so in all slots
abbrev pub AreKept : ℕ → List Slot → Type 0
AreKept count slots = AllByRecursion (IsSlot count) slots

-- the slot of a number, where the first slot has this one
abbrev pub slot_from : (first : ℕ) → List Slot → (number : ℕ) → Option Slot
slot_from first slots number = lookup (is_at (nat_cmp number)) (enumerate_from first slots)

-- the letters in slots under their numbers, where the first slot has this one
abbrev pub posted_from : (first : ℕ) → List Grain → List Slot → List (ℕ × Posted)
posted_from first grains slots = filter_map (λ e. option_map (λ posted. (e.0, posted)) (posted_in grains e.1)) (enumerate_from first slots)

-- the numbers of all letters that were ever sent to a silo, with whether each is fresh
abbrev pub sent_from : (first : ℕ) → Silo → List Slot → List (ℕ × Bool)
sent_from first silo slots = filter_map (λ e. if is_at (silo_cmp silo) (slot_to e.1) then Some (e.0, is_fresh e.1) else None) (enumerate_from first slots)
