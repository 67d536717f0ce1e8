-- Readings of a JSON value: each gives what the value says, or nothing where the value is of another type or unreadable.
use Rattle.std.specs.Prelude.{ℕ, ◌==◌, if◌then◌else◌, List, [], ◌∷◌, bytes_eq, Option, Some, None, Result, option_map, option_and_then}
use Rattle.std.specs.Result.{result_ok}
use Rattle.std.specs.Map.{lookup}
use Rattle.serde_json.specs.Data.{Data, Items, no_items, item, Members}
use Rattle.serde_json.specs.Find.{get_member, as_number, as_u64, as_str, as_array, as_object}
use Rattle.serde_json.specs.Events.{members_len}
use Rattle.silo_address.specs.Silo.{Silo}
use Rattle.silo_address.specs.ReadSilo.{read_silo}
use Rattle.silo_address.specs.Grain.{Grain}
use Rattle.silo_address.specs.ReadGrain.{read_grain}
use Rattle.silo_address.specs.declared.ActivationId.{ActivationId}
use Rattle.silo_address.specs.ActivationText.{read_activation}
use Rattle.ring_range.specs.Range.{Range}
use Rattle.ring_range.specs.Text.{read_range}

-- a number without sign, point or exponent, below 2^64
abbrev pub number_in : Data → Option ℕ
number_in value = option_and_then as_u64 (as_number value)

-- a text, as a reading of its bytes takes it
abbrev pub text_in : {X E : Type 0} → (List ℕ → Result X E) → Data → Option X
text_in reading value = option_and_then (λ text. result_ok (reading text)) (as_str value)

-- names and ranges
abbrev pub silo_in : Data → Option Silo
silo_in = text_in read_silo

abbrev pub grain_in : Data → Option Grain
grain_in = text_in read_grain

abbrev pub activation_in : Data → Option ActivationId
activation_in = text_in read_activation

abbrev pub range_in : Data → Option Range
range_in = text_in read_range

-- a silo, or the empty text for none
abbrev pub silo_or_none : List ℕ → Option (Option Silo)
silo_or_none [] = Some None
silo_or_none (byte ∷ bytes) = option_map Some (result_ok (read_silo (byte ∷ bytes)))

abbrev pub from_in : Data → Option (Option Silo)
from_in value = option_and_then silo_or_none (as_str value)

-- one of a few words
abbrev pub word_in : {X : Type 0} → List (List ℕ × X) → Data → Option X
word_in words value = option_and_then (λ text. lookup (bytes_eq text) words) (as_str value)

-- a list, all of whose items are readable
abbrev pub items_in : {X : Type 0} → (Data → Option X) → Items → Option (List X)
items_in reading no_items = Some []
items_in reading (item value values) = option_and_then (λ x. option_map (λ xs. x ∷ xs) (items_in reading values)) (reading value)

abbrev pub list_in : {X : Type 0} → (Data → Option X) → Data → Option (List X)
list_in reading value = option_and_then (items_in reading) (as_array value)

-- the items of a list, where they are as many
abbrev pub two_items : Items → Option (Data × Data)
two_items no_items = None
two_items (item one no_items) = None
two_items (item one (item two no_items)) = Some (one, two)
two_items (item one (item two (item three values))) = None

abbrev pub three_items : Items → Option (Data × Data × Data)
three_items no_items = None
three_items (item one no_items) = None
three_items (item one (item two no_items)) = None
three_items (item one (item two (item three no_items))) = Some (one, two, three)
three_items (item one (item two (item three (item four values)))) = None

-- an object's members, where they are so many: with as many members found under their names it has no other
abbrev pub members_in : ℕ → Data → Option Members
members_in many value = option_and_then (λ members. if members_len members == many then Some members else None) (as_object value)

-- the member of that name, as it reads
abbrev pub member_in : {X : Type 0} → (Data → Option X) → List ℕ → Members → Option X
member_in reading name members = option_and_then reading (get_member name members)
