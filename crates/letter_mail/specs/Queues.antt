-- The queues of the mail: for each silo the numbers of the letters that were sent to it, from the first fresh one on.
use Rattle.std.specs.Prelude.{◌≡◌, ℕ, ◌-◌, Bool, false, cond, List, [], ◌∷◌, ◌++◌, Option, Some, None, take, length, slice_get, map}
use Rattle.std.specs.Map.{lookup}
use Rattle.std.specs.BTreeMap.{is_at}
use Rattle.silo_address.specs.Silo.{Silo, silo_cmp}
use Rattle.letter_mail.specs.declared.slots.Slot.{Slot}
use Rattle.letter_mail.specs.Slots.{is_fresh, sent_from, slot_from}

-- numbers, in the order in which they were put in
abbrev pub QueueValue : Type 0
QueueValue = List ℕ

-- the queue of a silo
abbrev pub queue_of : List (Silo × QueueValue) → Silo → Option QueueValue
queue_of queues silo = lookup (is_at (silo_cmp silo)) queues

-- its numbers, none where the silo has no queue
abbrev pub numbers_of : Option QueueValue → List ℕ
numbers_of None = []
numbers_of (Some numbers) = numbers

-- its first number, if there is one
abbrev pub first_of : Option QueueValue → Option ℕ
first_of queue = slice_get (numbers_of queue) 0

-- the queue with a number more
abbrev pub with_number : Option QueueValue → ℕ → QueueValue
with_number queue number = numbers_of queue ++ number ∷ []

-- the queue without its last number
abbrev pub without_number : QueueValue → QueueValue
without_number numbers = take (length numbers - 1) numbers

-- a list from its first element on that passes
abbrev pub from_first : {A : Type 0} → (A → Bool) → List A → List A
from_first passes [] = []
from_first passes (x ∷ xs) = cond (passes x) (x ∷ xs) (from_first passes xs)

-- whether the slot of a number has a fresh letter
abbrev pub is_fresh_in : Option Slot → Bool
is_fresh_in None = false
is_fresh_in (Some slot) = is_fresh slot

-- whether the letter of a number is fresh
unfoldable pub fresh_at : List Slot → ℕ → Bool
fresh_at slots number = is_fresh_in (slot_from 1 slots number)

-- the silo's queue is this, and the others are as they were
abbrev pub Puts : Silo → QueueValue → List (Silo × QueueValue) → List (Silo × QueueValue) → Type 0
Puts silo queue before after = (other : Silo) → queue_of after other ≡ cond (is_at (silo_cmp silo) other) (Some queue) (queue_of before other)

-- the numbers of these letters from the first fresh one on
abbrev pub waiting : List (ℕ × Bool) → List ℕ
waiting sent = map (λ e. e.0) (from_first (λ e. e.1) sent)

-- each silo's queue has the letters that were sent to it, from the first fresh one on
abbrev pub AreQueued : List Slot → List (Silo × QueueValue) → Type 0
AreQueued slots queues = (silo : Silo) → numbers_of (queue_of queues silo) ≡ waiting (sent_from 1 silo slots)
